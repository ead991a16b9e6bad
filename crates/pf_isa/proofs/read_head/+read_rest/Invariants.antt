use Rattle.std.specs.Prelude.{length}
use Rattle.pf_isa.proofs.read_head.+read_rest.Given as goal

abbrev pub decreases-read_rest : goal.decreases-read_rest
decreases-read_rest l = length l.lines.now
