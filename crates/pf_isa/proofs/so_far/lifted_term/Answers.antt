use Rattle.std.proofs.Common.{rules, ◌≤◌, ◌<◌, length, subst, true, ◌≡◌}
use Rattle.pf_isa.proofs.HeadStepLaws.{term_refused, known_refused, more_taps, term_read, kept_names}
use Rattle.pf_values.specs.Meaning.NamedTerms.{is_named}
use Rattle.pf_isa.proofs.so_far.lifted_term.Goals as goal

pub returns-in-Err-clause-found : goal.returns-in-Err-clause-found
returns-in-Err-clause-found c = term_refused c.args.names.now c.read_term.new.names c.args.text.now c.in-Err.fault c.refused.result c.refused.ensures c.in-Err.ensures.only

pub returns-in-Err-clause-known : goal.returns-in-Err-clause-known
returns-in-Err-clause-known c = known_refused _ c.in-Err.fault c.refused.result c.refused.ensures

pub returns-clause-found : goal.returns-clause-found
returns-clause-found c =
    let few : length c.read_term.new.names.taps ≤ length c.args.names.now.taps = search rules in
    term_read c.args.names.now c.read_term.new.names c.args.text.now c.in-Ok.term c.in-Ok.ensures.read c.in-Ok.ensures.only few

pub returns-clause-known : goal.returns-clause-known
returns-clause-known c =
    let few : length c.read_term.new.names.taps ≤ length c.args.names.now.taps = search rules in
    let same = kept_names c.args.names.now c.read_term.new.names c.args.text.now c.in-Ok.term c.in-Ok.ensures.read few in
    (same, c.in-Ok.ensures.typed, subst (λ n. is_named n c.in-Ok.term ≡ true) same c.in-Ok.ensures.named)

pub returns-then-many-len-clause-found : goal.returns-then-many-len-clause-found
returns-then-many-len-clause-found c =
    let more : length c.args.names.now.taps < length c.read_term.new.names.taps = search rules in
    more_taps c.args.names.now c.read_term.new.names c.args.text.now c.in-Ok.term c.in-Ok.ensures.only more
