use Rattle.std.proofs.Common.{arith}
use Rattle.pf_ints.proofs.NameLaws.{padded_from}
use Rattle.pf_ints.proofs.name.Name.new.Goals as goal

pub invariant_of-result : goal.invariant_of-result
invariant_of-result c = rw c.copy_from_slice.ensures.after (padded_from c.args.bytes.now (omega arith) (omega arith))
