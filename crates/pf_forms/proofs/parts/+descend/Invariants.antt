use Rattle.std.proofs.Common.{length}
use Rattle.pf_forms.proofs.parts.+descend.Given as goal

abbrev pub decreases-descend : goal.decreases-descend
decreases-descend l = length l.path.now
