use Rattle.std.proofs.Common.{length}
use Rattle.pf_check.proofs.certifying.+are_citable.Given as goal

abbrev pub decreases-are_citable : goal.decreases-are_citable
decreases-are_citable l = length l.steps.now
