use Rattle.std.proofs.Common.{◌≡◌, drop, ◌+◌, ◌-◌, ◌^◌, ◌<◌, min, map}
use Rattle.pf_rules.specs.Steps.Sizes.{form_nodes, is_twice, counted_from}
use Rattle.pf_rules.proofs.sizes.+form_nodes.Given as goal

abbrev pub invariant-loop-n : goal.invariant-loop-n
invariant-loop-n l =
    record {
      fits : l.sum < 2 ^ 64;
      whole : min (l.sum + counted_from (is_twice l.pattern) l.n (map form_nodes (drop l.n l.arg-items))) (2 ^ 64 - 1) ≡ min (form_nodes l.pattern) (2 ^ 64 - 1);
    }
