use Rattle.std.proofs.Common.{◌≡◌, drop, length, map}
use Rattle.pf_rules.specs.Meaning.Sorts.{sorting, types_from}
use Rattle.pf_rules.specs.Steps.Sorted.{here}
use Rattle.pf_rules.proofs.SortLaws.{behind}
use Rattle.pf_rules.proofs.sorts.Judge.+sort.Given as goal

abbrev pub invariant-loop-arg : goal.invariant-loop-arg
invariant-loop-arg l =
    record {
      count : length l.types.items ≡ l.arg-index;
      onward : behind l.types.items (types_from l.arg-index (map (sorting l.self.amounts l.self.kind (here l.self.place)) (drop l.arg-index l.arg-items)))
          ≡ types_from 0 (map (sorting l.self.amounts l.self.kind (here l.self.place)) l.arg-items);
    }
