use Rattle.std.proofs.Common.{◌≡◌, map, take}
use Rattle.pf_leaves.specs.Meaning.Leaves.{tap_range}
use Rattle.pf_leaves.proofs.leaves.tap_ranges.Given as goal

abbrev pub invariant-loop-tap : goal.invariant-loop-tap
invariant-loop-tap l = l.ranges ≡ map (tap_range l.images) (take l.tap-index l.taps)
