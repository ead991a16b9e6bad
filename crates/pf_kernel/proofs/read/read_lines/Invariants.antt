use Rattle.std.proofs.Common.{length}
use Rattle.pf_kernel.specs.Steps.Reads.{IsSoFar}
use Rattle.pf_kernel.proofs.read.read_lines.Given as goal

abbrev pub invariant-lines : goal.invariant-lines
invariant-lines l = IsSoFar l.fn.text l.rest l.count l.reading

abbrev pub decreases-lines : goal.decreases-lines
decreases-lines l = length l.rest
