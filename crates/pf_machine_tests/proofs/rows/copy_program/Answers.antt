use Rattle.std.proofs.Common.{ℕ, rules}
use Rattle.pf_neon.specs.Meaning.Neon.{table}
use Rattle.pf_rows.specs.Meaning.BlockRows.{IsRowBlock}
use Rattle.pf_machine_tests.specs.Steps.RowBlocks.{copy_block}
use Rattle.pf_machine_tests.proofs.rows.copy_program.Goals as goal

pub row_program-requires : goal.row_program-requires
row_program-requires g c =
    let there : (slots : ℕ) × IsRowBlock table c.in_ok-head.head slots copy_block = search rules in
    rw c.in_ok-copy_block.ensures there
