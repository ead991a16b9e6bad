use Rattle.std.proofs.Common.{◌≡◌, true, take, All}
use Rattle.pf_values.specs.Meaning.Terms.{IsWellTyped}
use Rattle.pf_bounds.specs.Meaning.TermBounds.{are_ranges_of}
use Rattle.pf_bounds.proofs.KeptLaws.{AreMarked}
use Rattle.pf_bounds.proofs.kept.+marked.Given as goal

abbrev pub invariant-loop-arg : goal.invariant-loop-arg
invariant-loop-arg l =
    record {
      typed : All (λ t. IsWellTyped t) l.arg-items;
      ranged : All (λ t. are_ranges_of l.ranges t ≡ true) l.arg-items;
      marked : AreMarked l.ranges (take l.arg-index l.arg-items) l.below;
    }
