use Rattle.std.proofs.Common.{◌≡◌, ℕ, ◌<◌, ◌≤◌, true, false}
use Rattle.std.specs.Prelude.{slice_index, slice_index_or}
use Rattle.pf_blocks.proofs.needed.mark_all.Given as goal

abbrev pub invariant-loop-a : goal.invariant-loop-a
invariant-loop-a l = record {
  marked : (k : ℕ) → k < l.a-index → slice_index_or l.marks (slice_index l.args k) false ≡ true;
  kept : (a : ℕ) → slice_index_or l.fn.marks a false ≡ true → slice_index_or l.marks a false ≡ true;
  later : (a : ℕ) → l.fn._n ≤ a → slice_index_or l.marks a false ≡ slice_index_or l.fn.marks a false;
}
