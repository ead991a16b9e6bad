use Rattle.std.proofs.Common.{rules}
use Rattle.std.proofs.lemmas.Int.{to_z-of_z}
use Rattle.pf_ints.proofs.RangeLaws.{same_range, is_range_at, least_at, is_range_abs, least_abs}
use Rattle.pf_ints.proofs.interval.Interval.abs.Goals as goal

pub invariant_of-result : goal.invariant_of-result
invariant_of-result c =
    is_range_at _ _ (is_range_abs _ c.self.invariant) (search (rules, to_z-of_z)) (search (rules, to_z-of_z))

pub returns-clause-least : goal.returns-clause-least
returns-clause-least c =
    rw (← c.self.view_is)
    (least_at _ _ _ (least_abs _ c.self.invariant) (search (rules, to_z-of_z)) (search (rules, to_z-of_z)))

pub returns-clause-value : goal.returns-clause-value
returns-clause-value c = rw (← c.self.view_is) (same_range _ _ (search (rules, to_z-of_z)) (search (rules, to_z-of_z)))
