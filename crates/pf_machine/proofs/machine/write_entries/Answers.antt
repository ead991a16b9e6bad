use Rattle.pf_machine.proofs.MachineLaws.{entries_more, entries_written}
use Rattle.pf_machine.proofs.machine.write_entries.Goals as goal

pub overwrite-requires : goal.overwrite-requires
overwrite-requires c = entries_written c.args.entries.now c.args.table.now c.loop-n.table c.bytes_of.result c.loop-n.n c.loop-n-test.true c.loop-n.invariant c.bytes_of.ensures c.requires

pub loop-n-preserved : goal.loop-n-preserved
loop-n-preserved c = entries_more c.args.entries.now c.args.table.now c.loop-n.table _ c.bytes_of.result c.loop-n.n c.loop-n-test.true c.loop-n.invariant c.bytes_of.ensures c.overwrite.ensures
