use Rattle.std.proofs.Common.{length}
use Rattle.pf_check.proofs.certifying.+have_ranges.Given as goal

abbrev pub decreases-have_ranges : goal.decreases-have_ranges
decreases-have_ranges l = length l.pairs.now
