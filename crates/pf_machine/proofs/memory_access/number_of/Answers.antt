use Rattle.std.proofs.Common.{rules}
use Rattle.pf_machine.proofs.MachineLaws.{number_read}
use Rattle.pf_machine.proofs.memory_access.number_of.Goals as goal

pub returns : goal.returns
returns c = number_read c.args.held.now c.widened.result c.from_le_bytes.result c.widened.ensures c.requires (search rules) c.from_le_bytes.type_inv c.from_le_bytes.ensures
