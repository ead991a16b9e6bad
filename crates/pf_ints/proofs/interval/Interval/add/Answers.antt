use Rattle.std.proofs.Common.{arith}
use Rattle.std.proofs.lemmas.Int.{ints}
use Rattle.pf_ints.proofs.RangeLaws.{answered, least_sum}
use Rattle.pf_ints.proofs.interval.Interval.add.Goals as goal

pub returns-clause-least : goal.returns-clause-least
returns-clause-least c =
    rw (← c.self.view_is, ← c.o.view_is)
    (answered _ _ _ _ _ (least_sum _ _ c.self.invariant c.o.invariant) c.new.ensures.value (omega (arith, ints)) (omega (arith, ints))).0

pub returns-clause-value : goal.returns-clause-value
returns-clause-value c =
    rw (← c.self.view_is, ← c.o.view_is)
    (answered _ _ _ _ _ (least_sum _ _ c.self.invariant c.o.invariant) c.new.ensures.value (omega (arith, ints)) (omega (arith, ints))).1
