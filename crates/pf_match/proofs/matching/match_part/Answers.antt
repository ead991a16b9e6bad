use Rattle.std.proofs.Common.{rules, get_or, ◌≡◌, sym, ap, ◌∙◌, subst, true, false, None}
use Rattle.std.specs.Prelude.{is_some}
use Rattle.std.proofs.lemmas.List.{get_or_default}
use Rattle.pf_rules.specs.Meaning.Rules.{is_rule, pair, pairs, first_bad}
use Rattle.pf_match.specs.Meaning.Matches.{Match}
use Rattle.pf_match.proofs.MatchLaws.{none_more, match_none, match_some}
use Rattle.pf_match.proofs.matching.match_part.Goals as goal

pub returns-then-is_some : goal.returns-then-is_some
returns-then-is_some c ranges kept =
    let xs = c.as_slice-pair-items.result.now in
    let i = c.loop-pair.pair-index in
    let p = get_or xs i (pair 0 0) in
    let is : p ≡ get_or xs i p = get_or_default xs i (pair 0 0) p c.loop-pair-test.true in
    let r = c.parts-parts.result.now in
    let t = c.args.part.term.now in
    let some : is_some c.in_ok-found.found ≡ true = search rules in
    let rule : is_rule r ≡ true = ap is_rule c.parts-parts.ensures.value ∙ c.parts-parts.ensures.kept in
    let good : first_bad r.widths r.shift ≡ None = ap (λ q. first_bad q.widths q.shift) c.parts-parts.ensures.value ∙ c.requires.shifts in
    let all : c.as_slice-pair-items.result.now ≡ pairs r = c.as_slice-pair-items.ensures ∙ c.in-Ok.ensures.0 ∙ ap pairs (sym c.parts-parts.ensures.value) in
    subst (λ q. Match q ranges t c.in_ok-found.found) c.parts-parts.ensures.value
    (match_some r ranges t c.as_slice-pair-items.result.now rule good all c.loop-pair.pair-index p c.in_ok-found.found (c.loop-pair.invariant ranges kept) c.loop-pair-test.true is (c.in_ok-found.ensures ranges kept) some)

pub loop-pair-preserved : goal.loop-pair-preserved
loop-pair-preserved c ranges kept =
    let xs = c.as_slice-pair-items.result.now in
    let i = c.loop-pair.pair-index in
    let p = get_or xs i (pair 0 0) in
    let is : p ≡ get_or xs i p = get_or_default xs i (pair 0 0) p c.loop-pair-test.true in
    let none : is_some c.in_ok-found.found ≡ false = search rules in
    none_more c.parts-parts.result.now ranges c.args.part.term.now c.as_slice-pair-items.result.now c.loop-pair.pair-index p c.in_ok-found.found (c.loop-pair.invariant ranges kept) c.loop-pair-test.true is
    (c.in_ok-found.ensures ranges kept) none

pub returns : goal.returns
returns c ranges kept =
    let r = c.parts-parts.result.now in
    let all : c.as_slice-pair-items.result.now ≡ pairs r = c.as_slice-pair-items.ensures ∙ c.in-Ok.ensures.0 ∙ ap pairs (sym c.parts-parts.ensures.value) in
    subst (λ q. Match q ranges c.args.part.term.now None) c.parts-parts.ensures.value
    (match_none r ranges c.args.part.term.now c.as_slice-pair-items.result.now all c.loop-pair.pair-index c.loop-pair-test.false (c.loop-pair.invariant ranges kept))
