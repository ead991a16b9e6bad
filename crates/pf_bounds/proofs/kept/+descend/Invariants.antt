use Rattle.std.proofs.Common.{length}
use Rattle.pf_bounds.proofs.kept.+descend.Given as goal

abbrev pub decreases-descend : goal.decreases-descend
decreases-descend l = length l.path.now
