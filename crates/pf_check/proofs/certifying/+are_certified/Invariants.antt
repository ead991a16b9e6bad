use Rattle.std.proofs.Common.{length}
use Rattle.pf_check.proofs.certifying.+are_certified.Given as goal

abbrev pub decreases-are_certified : goal.decreases-are_certified
decreases-are_certified l = length l.pairs.now
