use Rattle.std.proofs.Common.{◌≡◌, ◌≤ℤ◌, pos, map, drop}
use Rattle.std.specs.Int.{int_max}
use Rattle.pf_values.specs.Meaning.Kernels.{highest}
use Rattle.pf_values.specs.Meaning.Reach.{offset_along}
use Rattle.pf_values.proofs.reach.greatest_offset.Given as goal

abbrev pub invariant-loop-tap : goal.invariant-loop-tap
invariant-loop-tap l = (int_max l.most (highest (map (offset_along l.axis) (drop l.tap-index l.taps))) ≡ highest (map (offset_along l.axis) l.taps)) × (pos 0 ≤ℤ l.most)
