use Rattle.std.proofs.Common.{length}
use Rattle.pf_check.proofs.judging.+are_checked.Given as goal

abbrev pub decreases-are_checked : goal.decreases-are_checked
decreases-are_checked l = length l.earlier.now
