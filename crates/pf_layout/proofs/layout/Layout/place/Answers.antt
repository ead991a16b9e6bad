use Rattle.std.proofs.Common.{◌∙◌}
use Rattle.pf_layout.proofs.OrderLaws.{place_inside, place_alone}
use Rattle.pf_layout.proofs.InverseLaws.{view_order}
use Rattle.pf_layout.proofs.layout.Layout.place.Goals as goal

pub returns-clause-inside : goal.returns-clause-inside
returns-clause-inside c =
    let order = view_order _ _ c.self.inside.digits _ c.self.invariant c.self.view_is in
    rw c.place_at.ensures (place_inside _ order c.args.pixel)

pub returns-clause-alone : goal.returns-clause-alone
returns-clause-alone c = λ p lt same.
    (let order = view_order _ _ c.self.inside.digits _ c.self.invariant c.self.view_is in
    place_alone _ order c.args.pixel p c.requires lt (same ∙ c.place_at.ensures))
