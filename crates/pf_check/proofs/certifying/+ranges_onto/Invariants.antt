use Rattle.std.proofs.Common.{length}
use Rattle.pf_check.proofs.certifying.+ranges_onto.Given as goal

abbrev pub decreases-ranges_onto : goal.decreases-ranges_onto
decreases-ranges_onto l = length l.vars.now
