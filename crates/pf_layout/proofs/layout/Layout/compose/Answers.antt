use Rattle.std.proofs.Common.{ap, ◌∙◌}
use Rattle.pf_layout.specs.Meaning.Orders.{place_of}
use Rattle.pf_layout.proofs.OrderLaws.{compose_place}
use Rattle.pf_layout.proofs.InverseLaws.{view_order}
use Rattle.pf_layout.proofs.layout.Layout.compose.Goals as goal

pub returns-clause-place : goal.returns-clause-place
returns-clause-place c = λ p.
    ap (λ ds. place_of ds p) c.through.ensures ∙ compose_place c.args.outer.now c.args.self.now (view_order _ _ c.self.inside.digits _ c.self.invariant c.self.view_is) c.requires p
