use Rattle.std.proofs.Common.{◌≡◌, ◌+◌, ◌*◌}
use Rattle.pf_values.specs.Meaning.Terms.{weight_of}
use Rattle.pf_bounds.specs.Meaning.KeptBounds.{AreKept}
use Rattle.pf_lift.proofs.Going.{Going}
use Rattle.pf_lift.proofs.lifting.Lifting.+lifting.Given as goal

abbrev pub decreases-normal : goal.decreases-normal
decreases-normal g l = 2 * weight_of l.term.now + 1

abbrev pub decreases-finish : goal.decreases-finish
decreases-finish g l = 2 * weight_of l.whole.term

abbrev pub invariant-normal-loop-arg : goal.invariant-normal-loop-arg
invariant-normal-loop-arg g l =
    record {
      going : Going l.self.rules.now l.self.ranges.now l.op l.ty l.k l.arg-items l.operands.terms l.arg-index l.fn.steps l.steps;
      kept : AreKept l.self.ranges.now l.operands;
    }
