use Rattle.std.proofs.Common.{◌≡◌, ◌++◌, length, drop}
use Rattle.pf_rows.specs.Steps.RowCode.{tap_copies, copy_labels}
use Rattle.pf_rows.proofs.copies.taps.Given as goal

abbrev pub invariant-loop-width : goal.invariant-loop-width
invariant-loop-width g l = record {
  count : l.k ≡ l.width-index;
  lines : l.code ++ tap_copies g.I.Isa.table.vector (length l.widths) l.width-index (drop l.width-index l.widths) ≡ l.fn.code ++ tap_copies g.I.Isa.table.vector (length l.widths) 0 l.widths;
  labels : l.labels ++ copy_labels g.row.I.Denot g.row.I-Op.Denot g.I.Isa.table.vector (length l.widths) l.width-index (length l.code) (drop l.width-index l.widths) ≡ l.fn.labels ++ copy_labels g.row.I.Denot g.row.I-Op.Denot g.I.Isa.table.vector (length l.widths) 0 (length l.fn.code) l.widths;
}
