use Rattle.std.proofs.Common.{rules}
use Rattle.std.proofs.lemmas.Int.{to_z-of_z}
use Rattle.pf_ints.proofs.RangeLaws.{is_range_at, least_at, is_range_max, least_max}
use Rattle.pf_ints.proofs.interval.Interval.max.Goals as goal

pub invariant_of-result : goal.invariant_of-result
invariant_of-result c =
    is_range_at _ _ (is_range_max _ _ c.self.invariant c.o.invariant) (search (rules, to_z-of_z)) (search (rules, to_z-of_z))

pub returns-clause-least : goal.returns-clause-least
returns-clause-least c =
    rw (← c.self.view_is, ← c.o.view_is)
    (least_at _ _ _ (least_max _ _ c.self.invariant c.o.invariant) (search (rules, to_z-of_z)) (search (rules, to_z-of_z)))
