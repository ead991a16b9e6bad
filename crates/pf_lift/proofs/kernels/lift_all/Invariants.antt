use Rattle.pf_lift.proofs.KernelTerms.{LiftedSoFar}
use Rattle.pf_lift.proofs.kernels.lift_all.Given as goal

abbrev pub invariant-loop-def : goal.invariant-loop-def
invariant-loop-def g l = LiftedSoFar l.rules.rules l.ranges l.written l.lifted l.def-index l.fn.steps l.steps
