use Rattle.std.proofs.Common.{length}
use Rattle.pf_leaves.proofs.leaves.+with_defs.Given as goal

abbrev pub decreases-with_defs : goal.decreases-with_defs
decreases-with_defs l = length l.defs.now
