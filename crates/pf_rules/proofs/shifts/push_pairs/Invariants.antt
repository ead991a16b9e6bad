use Rattle.std.proofs.Common.{◌≡◌, ◌+◌, ◌-◌, ◌≤◌, ◌++◌, map}
use Rattle.std.specs.List.{range_with_len}
use Rattle.pf_rules.specs.Meaning.Rules.{pair}
use Rattle.pf_rules.proofs.shifts.push_pairs.Given as goal

abbrev pub invariant-loop-k : goal.invariant-loop-k
invariant-loop-k l =
    record {
      from : l.lo ≤ l.k;
      to : l.k ≤ l.hi + 1;
      small : l.hi ≤ 63;
      so_far : l.all ++ map (pair l.w) (range_with_len l.k (l.hi + 1 - l.k)) ≡ l.fn.all ++ map (pair l.w) (range_with_len l.lo (l.hi - l.lo + 1));
    }

abbrev pub decreases-loop-k : goal.decreases-loop-k
decreases-loop-k l = l.hi + 1 - l.k
