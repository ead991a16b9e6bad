use Rattle.std.proofs.Common.{◌≡◌, drop, ◌+◌, ◌-◌, ◌^◌, ◌<◌, min, map}
use Rattle.std.specs.Prelude.{sum}
use Rattle.pf_rules.specs.Meaning.Counts.{pattern_weight}
use Rattle.pf_rules.proofs.counts.+weight.Given as goal

abbrev pub invariant-loop-arg : goal.invariant-loop-arg
invariant-loop-arg l =
    record {
      fits : l.sum < 2 ^ 64;
      whole : min (l.sum + sum (map pattern_weight (drop l.arg-index l.arg-items))) (2 ^ 64 - 1) ≡ min (pattern_weight l.pattern) (2 ^ 64 - 1);
    }

abbrev pub invariant-loop-arg-2 : goal.invariant-loop-arg-2
invariant-loop-arg-2 l =
    record {
      fits : l.sum < 2 ^ 64;
      whole : min (l.sum + sum (map pattern_weight (drop l.arg-index l.arg-items))) (2 ^ 64 - 1) ≡ min (pattern_weight l.pattern) (2 ^ 64 - 1);
    }
