use Rattle.std.proofs.Common.{length}
use Rattle.pf_isa.proofs.write.+push_lifted_lines.Given as goal

abbrev pub decreases-push_lifted_lines : goal.decreases-push_lifted_lines
decreases-push_lifted_lines l = length l.lifted.now
