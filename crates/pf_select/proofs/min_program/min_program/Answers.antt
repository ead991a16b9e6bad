use Rattle.std.proofs.Common.{◌∙◌, ap, subst}
use Rattle.pf_neon.specs.Meaning.Rows.{row_at}
use Rattle.pf_neon.specs.Meaning.Neon.{table}
use Rattle.pf_rows.specs.Meaning.BlockRows.{IsRowBlock, LeavesLanes, block_cost}
use Rattle.pf_select.proofs.MinBlock.{is_row_block, leaves_least}
use Rattle.pf_select.proofs.min_program.min_program.Goals as goal

pub row_program-requires : goal.row_program-requires
row_program-requires c = rw c.in_ok-block.ensures (0, is_row_block c.args.head c.args.first c.args.second c.requires)

pub returns-clause-work : goal.returns-clause-work
unfolding row_at
returns-clause-work c = c.in_ok-program.ensures.work ∙ ap (block_cost table) c.in_ok-block.ensures

pub returns-clause-right : goal.returns-clause-right
returns-clause-right c =
    let is : IsRowBlock table c.args.head 0 c.in_ok-block.block = rw c.in_ok-block.ensures (is_row_block c.args.head c.args.first c.args.second c.requires) in
    leaves_least c.in_ok-program.program c.args.head c.args.first c.args.second c.in_ok-program.ensures.head c.requires
    (subst (λ block. LeavesLanes table 0 block c.in_ok-program.program) c.in_ok-block.ensures (c.in_ok-program.ensures.lanes 0 is))
