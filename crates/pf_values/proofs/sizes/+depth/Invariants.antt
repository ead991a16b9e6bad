use Rattle.std.proofs.Common.{◌≡◌, drop, ◌-◌, ◌^◌, ◌<◌, min, max, map}
use Rattle.pf_values.specs.Meaning.Terms.{depth_of, greatest_of}
use Rattle.pf_values.proofs.sizes.+depth.Given as goal

abbrev pub invariant-loop-arg : goal.invariant-loop-arg
invariant-loop-arg l =
    record {
      fits : l.most < 2 ^ 64;
      whole : max l.most (min (greatest_of (map depth_of (drop l.arg-index l.arg-items))) (2 ^ 64 - 1)) ≡ min (greatest_of (map depth_of l.arg-items)) (2 ^ 64 - 1);
    }
