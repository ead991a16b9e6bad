use Rattle.std.proofs.Common.{◌≡◌, take, map, All}
use Rattle.pf_forms.specs.Meaning.Shapes.{shape}
use Rattle.pf_rules.specs.Meaning.Sides.{typed_form, seconds, HasSort}
use Rattle.pf_rules.specs.Steps.Sorted.{here}
use Rattle.pf_rules.proofs.place.Place.+typed_form.Given as goal

abbrev pub invariant-loop-arg : goal.invariant-loop-arg
invariant-loop-arg l =
    record {
      sorted : All (λ p. HasSort (here l.self) p) l.arg-items;
      types : map (λ t. t) l.types.items ≡ map (λ r. r.0) (map (typed_form (here l.self)) (take l.arg-index l.arg-items));
      forms : map shape l.forms.items ≡ seconds (map (typed_form (here l.self)) (take l.arg-index l.arg-items));
    }
