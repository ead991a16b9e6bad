use Rattle.std.proofs.Common.{rules, arith, ◌≡◌, ◌∙◌, ap, to_z, of_z}
use Rattle.std.specs.Int.{w128}
use Rattle.std.specs.Prelude.{◌≤ℤ◌}
use Rattle.std.proofs.lemmas.Int.{ints, to_z-of_z}
use Rattle.pf_ints.specs.Meaning.Lanes.{least, greatest}
use Rattle.pf_ints.specs.Meaning.Ranges.{range, within}
use Rattle.pf_rules.proofs.ShiftLaws.{range_told}
use Rattle.pf_rules.proofs.shifts.range_of.Goals as goal

pub returns-then-hi-greatest : goal.returns-then-hi-greatest
returns-then-hi-greatest c =
    let t = c.in_ok-ty.ty in
    let lo = c.in_ok-lo-in-Some.lo in
    let hi = c.in_ok-hi-in-Some.hi in
    let low : least t ≤ℤ lo = omega (arith, ints, c.if-least-lo.true, c.least.ensures) in
    let ordered : lo ≤ℤ hi = omega (arith, ints, c.if-lo-hi.true) in
    let high : hi ≤ℤ greatest t = omega (arith, ints, c.if-hi-greatest.true, c.greatest.ensures) in
    let same_lo : to_z w128 (of_z w128 lo) ≡ lo = search (rules, to_z-of_z) in
    let same_hi : to_z w128 (of_z w128 hi) ≡ hi = search (rules, to_z-of_z) in
    range_told c.args.w c.args.k c.args.decl.now c.in-Some.from c.in-Some.to t lo hi c.new.result c.in-Some.is c.in_ok-ty.ensures c.in_ok-lo-in-Some.ensures c.in_ok-hi-in-Some.ensures low ordered high
    (c.new.ensures.value ∙ ap (λ n. within (range n (to_z w128 (of_z w128 hi)))) same_lo ∙ ap (λ n. within (range lo n)) same_hi)
