use Rattle.std.proofs.Common.{◌≡◌, drop, map}
use Rattle.pf_values.specs.Meaning.Terms.{all_true}
use Rattle.pf_rules.specs.Meaning.Counts.{is_lane_free}
use Rattle.pf_rules.proofs.counts.+is_lane_free.Given as goal

abbrev pub invariant-loop-arg : goal.invariant-loop-arg
invariant-loop-arg l = all_true (map is_lane_free (drop l.arg-index l.arg-items)) ≡ is_lane_free l.pattern
