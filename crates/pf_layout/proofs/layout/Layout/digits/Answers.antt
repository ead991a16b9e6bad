use Rattle.pf_layout.proofs.InverseLaws.{view_order, view_count}
use Rattle.pf_layout.proofs.layout.Layout.digits.Goals as goal

pub returns-clause-count : goal.returns-clause-count
returns-clause-count c = view_count _ _ c.self.inside.digits _ c.self.invariant c.self.view_is

pub returns-clause-order : goal.returns-clause-order
returns-clause-order c = view_order _ _ c.self.inside.digits _ c.self.invariant c.self.view_is
