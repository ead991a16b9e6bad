use Rattle.std.proofs.Common.{◌≡◌, ◌≤ℤ◌, pos, map, drop}
use Rattle.std.specs.Int.{int_min}
use Rattle.pf_values.specs.Meaning.Kernels.{lowest}
use Rattle.pf_values.specs.Meaning.Reach.{offset_along}
use Rattle.pf_values.proofs.reach.least_offset.Given as goal

abbrev pub invariant-loop-tap : goal.invariant-loop-tap
invariant-loop-tap l = (int_min l.least (lowest (map (offset_along l.axis) (drop l.tap-index l.taps))) ≡ lowest (map (offset_along l.axis) l.taps)) × (l.least ≤ℤ pos 0)
