use Rattle.std.proofs.Common.{◌≡◌, ◌*◌, ◌^◌, ap, arith, ◌∙◌}
use Rattle.pf_layout.specs.Meaning.Orders.{place_of}
use Rattle.pf_layout.proofs.OrderLaws.{plain_place}
use Rattle.pf_layout.proofs.InverseLaws.{plain_inverse, plain_list}
use Rattle.pf_layout.proofs.layout.Layout.plain.Goals as goal

pub invariant_of-result : goal.invariant_of-result
invariant_of-result c = plain_inverse c.args.digits c.requires

pub returns-clause-order : goal.returns-clause-order
returns-clause-order c = plain_list c.args.digits c.requires

pub returns-clause-place : goal.returns-clause-place
returns-clause-place c = λ p lt.
    (let same : p * 2 ^ 0 ≡ p = omega arith in
    ap (λ ds. place_of ds p) (plain_list c.args.digits c.requires) ∙ plain_place 0 c.args.digits p lt ∙ same)
