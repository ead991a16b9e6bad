use Rattle.std.proofs.Common.{◌≡◌, ℕ, length, sym, subst, ap}
use Rattle.pf_machine.specs.Meaning.Moved.{Moved, Work}
use Rattle.pf_rows.specs.Meaning.BlockRows.{IsRowBlock, block_cost, RunsBlock, LeavesLanes}
use Rattle.pf_rows.proofs.Lanewise.{runs_block, leaves_lanes}
use Rattle.pf_rows.proofs.RowTexts.{row_is_moved, row_is_work}
use Rattle.pf_rows.proofs.program.row_program.Goals as goal

pub returns-clause-head : goal.returns-clause-head
returns-clause-head g c = ap (λ p. p.head) c.in_ok-program.ensures.value

pub returns-clause-moved : goal.returns-clause-moved
returns-clause-moved g c =
    subst (λ p. Moved g.I.Isa.table (length p.head.taps) p.code p.labels) (sym c.in_ok-program.ensures.value)
    (row_is_moved g.row.I.Denot g.row.I-Op.Denot g.I.Isa.table c.args.head c.requires.0 c.args.block c.requires.1 g.I.Isa.is_op g.met.I.Isa.laws)

pub returns-clause-work : goal.returns-clause-work
returns-clause-work g c =
    subst (λ p. Work g.I.Isa.table p.code ≡ block_cost g.I.Isa.table c.args.block) (sym c.in_ok-program.ensures.value)
    (row_is_work g.row.I.Denot g.row.I-Op.Denot g.I.Isa.table c.args.head c.requires.0 c.args.block c.requires.1 g.I.Isa.is_op g.met.I.Isa.laws)

pub returns-clause-rows : goal.returns-clause-rows
returns-clause-rows g c =
    subst (λ p. (slots : ℕ) → IsRowBlock g.I.Isa.table c.args.head slots c.args.block → RunsBlock g.I.Isa.table slots c.args.block p) (sym c.in_ok-program.ensures.value)
    (λ slots is. runs_block g.row.I.Denot g.row.I-Op.Denot g.I.Isa.table g.I.Isa.is_op g.met.I.Isa.laws c.args.head slots c.args.block c.in_ok-program.ensures.known is)

pub returns-clause-lanes : goal.returns-clause-lanes
returns-clause-lanes g c =
    subst (λ p. (slots : ℕ) → IsRowBlock g.I.Isa.table c.args.head slots c.args.block → LeavesLanes g.I.Isa.table slots c.args.block p) (sym c.in_ok-program.ensures.value)
    (λ slots is. leaves_lanes g.row.I.Denot g.row.I-Op.Denot g.I.Isa.table g.I.Isa.is_op g.met.I.Isa.laws c.args.head slots c.args.block c.in_ok-program.ensures.known is)
