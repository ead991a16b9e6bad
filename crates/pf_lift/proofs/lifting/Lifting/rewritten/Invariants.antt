use Rattle.pf_lift.proofs.Trying.{NoneBefore}
use Rattle.pf_lift.proofs.lifting.Lifting.rewritten.Given as goal

abbrev pub invariant-loop-n : goal.invariant-loop-n
invariant-loop-n l = NoneBefore l.self.rules.now l.self.ranges.now l.whole.term l.n
