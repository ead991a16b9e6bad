use Rattle.std.proofs.Common.{arith}
use Rattle.pf_machine.proofs.MachineLaws.{cleared_more}
use Rattle.pf_machine.proofs.machine.clear_vectors.Goals as goal

pub loop-n-preserved : goal.loop-n-preserved
loop-n-preserved c = rw c.overwrite_item.ensures (cleared_more _ _ c.loop-n.n _ (omega arith) c.loop-n.invariant)
