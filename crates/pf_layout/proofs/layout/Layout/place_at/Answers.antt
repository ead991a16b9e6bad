use Rattle.std.proofs.Common.{ap}
use Rattle.pf_layout.specs.Meaning.Orders.{place_of}
use Rattle.pf_layout.proofs.OrderLaws.{place_small}
use Rattle.pf_layout.proofs.InverseLaws.{is_order}
use Rattle.pf_layout.proofs.layout.Layout.place_at.Goals as goal

pub place_through-requires : goal.place_through-requires
place_through-requires c = rw c.from.ensures (place_small _ (is_order c.self.inside.count c.self.inside.positions c.self.inside.digits c.self.invariant) c.args.pixel)

pub returns : goal.returns
returns c = rw (c.place_through.ensures, c.from.ensures) (ap (λ ds. place_of ds c.args.pixel) c.self.view_is)
