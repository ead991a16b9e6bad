use Rattle.std.proofs.Common.{◌≡◌, ◌≤◌, length, true, false}
use Rattle.std.specs.Prelude.{slice_index_or}
use Rattle.pf_blocks.specs.Steps.Marks.{AreClosed}
use Rattle.pf_blocks.proofs.needed.needed.Given as goal

abbrev pub invariant-loop-n : goal.invariant-loop-n
invariant-loop-n l = record {
  count : length l.marks.items ≡ length l.fn.items;
  output : slice_index_or l.marks.items l.fn.output false ≡ true;
  closed : AreClosed l.fn.items l.n l.marks.items;
  within : l.n ≤ length l.fn.items;
}

abbrev pub decreases-loop-n : goal.decreases-loop-n
decreases-loop-n l = l.n
