use Rattle.pf_machine_tests.proofs.RowBlocks.{is_listed}
use Rattle.pf_machine_tests.proofs.rows.lesser.Goals as goal

pub of-requires : goal.of-requires
of-requires c = rw c.place.ensures.value (is_listed c.args.to c.args.left c.args.right)
