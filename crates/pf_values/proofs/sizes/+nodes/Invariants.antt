use Rattle.std.proofs.Common.{◌≡◌, drop, ◌+◌, ◌-◌, ◌^◌, ◌<◌, min, map}
use Rattle.std.specs.Prelude.{sum}
use Rattle.pf_values.specs.Meaning.Terms.{node_count}
use Rattle.pf_values.proofs.sizes.+nodes.Given as goal

abbrev pub invariant-loop-arg : goal.invariant-loop-arg
invariant-loop-arg l =
    record {
      fits : l.sum < 2 ^ 64;
      whole : min (l.sum + sum (map node_count (drop l.arg-index l.arg-items))) (2 ^ 64 - 1) ≡ min (node_count l.term) (2 ^ 64 - 1);
    }
