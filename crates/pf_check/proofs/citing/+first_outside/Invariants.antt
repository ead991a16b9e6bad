use Rattle.std.proofs.Common.{length}
use Rattle.pf_check.proofs.citing.+first_outside.Given as goal

abbrev pub decreases-first_outside : goal.decreases-first_outside
decreases-first_outside l = length l.vars.now
