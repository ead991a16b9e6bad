use Rattle.std.proofs.Common.{◌≡◌, drop, ◌+◌, ◌-◌, ◌^◌, ◌<◌, min, map}
use Rattle.std.specs.Prelude.{sum}
use Rattle.pf_rules.specs.Meaning.Counts.{occurrences}
use Rattle.pf_rules.proofs.counts.+occurrences.Given as goal

abbrev pub invariant-loop-arg : goal.invariant-loop-arg
invariant-loop-arg l =
    record {
      fits : l.sum < 2 ^ 64;
      whole : min (l.sum + sum (map (occurrences l.variable) (drop l.arg-index l.arg-items))) (2 ^ 64 - 1) ≡ min (occurrences l.variable l.pattern) (2 ^ 64 - 1);
    }
