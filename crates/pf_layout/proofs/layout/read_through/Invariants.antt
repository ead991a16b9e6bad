use Rattle.std.proofs.Common.{◌≡◌, ℕ, ◌<◌, length}
use Rattle.std.specs.Prelude.{slice_index}
use Rattle.pf_layout.proofs.layout.read_through.Given as goal

abbrev pub invariant-loop-i : goal.invariant-loop-i
invariant-loop-i l = record {
  size : length l.read ≡ 7;
  each : (k : ℕ) → k < l.i → slice_index l.read k ≡ slice_index l.outer (slice_index l.inner k);
}
