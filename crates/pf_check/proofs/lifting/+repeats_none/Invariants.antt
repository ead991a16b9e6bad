use Rattle.std.proofs.Common.{length}
use Rattle.pf_check.proofs.lifting.+repeats_none.Given as goal

abbrev pub decreases-repeats_none : goal.decreases-repeats_none
decreases-repeats_none l = length l.vars.now
