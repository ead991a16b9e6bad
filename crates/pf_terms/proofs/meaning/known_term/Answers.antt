use Rattle.std.proofs.Common.{rules, ◌≡◌, sym, ap, ◌∙◌, subst, length, arith, ◌≤◌, Err, IfErr}
use Rattle.pf_terms.specs.Steps.Building.{told_as, past_limit, IsFaultOrMemory}
use Rattle.pf_terms.specs.Meaning.Meanings.{names_after, first_far}
use Rattle.pf_terms.proofs.Meant.{node_fault, typed_after, limit_fault, within_limits, made_whole}
use Rattle.pf_terms.proofs.meaning.known_term.Goals as goal

pub returns-in_err-term-clause-fault : goal.returns-in_err-term-clause-fault
returns-in_err-term-clause-fault c =
    let names = c.args.names.now in
    let d = c.args.tree.now in
    let e : c.from_residual.result ≡ Err (told_as c.in_err-term.field-0.0) = search rules in
    let fault = node_fault names d c.in_err-term.field-0.0 c.requires.known (c.in_err-term.ensures.found (names_after names d).taps) in
    subst (λ r. IfErr r (IsFaultOrMemory names d)) (sym e) fault

pub returns-in-Some-clause-fault : goal.returns-in-Some-clause-fault
returns-in-Some-clause-fault c =
    let names = c.args.names.now in
    let d = c.args.tree.now in
    limit_fault names d c.in-Some.fault c.requires.known (typed_after names d c.in_ok-term.term (c.in_ok-term.ensures.found (names_after names d).taps))
    (ap (λ n. past_limit n (first_far d)) (ap length (sym c.requires.taps)) ∙ sym c.in-Some.ensures)

pub returns-in-None-clause-typed : goal.returns-in-None-clause-typed
returns-in-None-clause-typed c =
    typed_after c.args.names.now c.args.tree.now c.in_ok-term.term (c.in_ok-term.ensures.found (names_after c.args.names.now c.args.tree.now).taps)

pub returns-in-None-clause-few : goal.returns-in-None-clause-few
returns-in-None-clause-few c =
    let limits = within_limits (length c.args.wide_taps.now) (first_far c.args.tree.now) (sym c.in-None.ensures) in
    omega (arith, limits.0)

pub returns-in-None-clause-near : goal.returns-in-None-clause-near
returns-in-None-clause-near c = (within_limits (length c.args.wide_taps.now) (first_far c.args.tree.now) (sym c.in-None.ensures)).1

pub returns-in-None-clause-made : goal.returns-in-None-clause-made
returns-in-None-clause-made c =
    let limits = within_limits (length c.args.wide_taps.now) (first_far c.args.tree.now) (sym c.in-None.ensures) in
    let most : length c.args.wide_taps.now ≤ c.min.result = omega (arith, limits.0, c.min.ensures) in
    made_whole c.args.names.now c.args.tree.now c.in_ok-term.term c.args.wide_taps.now c.min.result most c.in_ok-term.ensures.made
