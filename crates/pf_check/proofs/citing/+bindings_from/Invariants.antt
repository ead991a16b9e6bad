use Rattle.std.proofs.Common.{length}
use Rattle.pf_check.proofs.citing.+bindings_from.Given as goal

abbrev pub decreases-bindings_from : goal.decreases-bindings_from
decreases-bindings_from l = length l.vars.now
