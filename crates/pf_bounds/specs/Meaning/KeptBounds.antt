-- The intervals of all nodes of a term.
use Rattle.std.specs.Prelude.{◌≡◌, ℕ, true, List, [], ◌∷◌, map, slice_get, Option, Some, None, option_and_then, option_map}
use Rattle.pf_ints.specs.declared.lane.LaneType.{LaneType}
use Rattle.pf_ints.specs.Meaning.Ranges.{Range, IsRange, lies_in, lane_range}
use Rattle.pf_values.specs.declared.term.Term.{Term}
use Rattle.pf_values.specs.declared.term.Term.TheOpen.{Term-F}
use Rattle.pf_values.specs.declared.term.Term.TheOpen.Term-F.{Leaf, Node}
use Rattle.pf_values.specs.declared.term.Term.TheFolds.{fold-Term}
use Rattle.pf_values.specs.Meaning.Terms.{IsWellTyped}
use Rattle.pf_bounds.specs.declared.ranges.Ranges.{Ranges}
use Rattle.pf_bounds.specs.declared.kept.BoundedParts.{BoundedParts}
use Rattle.pf_bounds.specs.declared.kept.OperandParts.{OperandParts}
use Rattle.pf_bounds.specs.declared.kept.Bounds.{Bounds}
use Rattle.pf_bounds.specs.declared.kept.Bounds.TheVariants as mark
use Rattle.pf_bounds.specs.declared.kept.Bounds.TheOpen.{Bounds-F}
use Rattle.pf_bounds.specs.declared.kept.Bounds.TheOpen.Bounds-F.{Leaf as LeafMark, Node as NodeMark}
use Rattle.pf_bounds.specs.declared.kept.Bounds.TheFolds.{fold-Bounds}
use Rattle.pf_bounds.specs.Meaning.TermBounds.{leaf_range, row_range, all_of}

abbrev pub whole_step : Bounds-F Range → Range
whole_step (LeafMark r) = r
whole_step (NodeMark r below) = r

-- the interval of the whole term
abbrev pub whole : Bounds → Range
whole = fold-Bounds Range whole_step

abbrev pub marks_step : Ranges → Term-F (Option Bounds) → Option Bounds
marks_step ranges (Leaf leaf ty) = option_map (λ r. mark.Leaf r) (leaf_range ranges leaf)
marks_step ranges (Node op ty k args) = option_and_then (λ below. option_map (λ r. mark.Node r below) (row_range op ty k (map whole below))) (all_of args)

-- the interval of each node, by those of its operands
abbrev pub marks : Ranges → Term → Option Bounds
marks ranges = fold-Term (Option Bounds) (marks_step ranges)

-- each interval that is kept is that of its part of the term under these ranges
pub record Kept (ranges : Ranges) (b : BoundedParts) : Type 0 where
  pub bounds : marks ranges b.term ≡ Some b.bounds

-- so it is with each of them
pub record AreKept (ranges : Ranges) (o : OperandParts) : Type 0 where
  pub bounds : all_of (map (marks ranges) o.terms) ≡ Some o.bounds

abbrev pub place_step : Bounds-F (List ℕ → Option Range) → List ℕ → Option Range
place_step (LeafMark r) [] = Some r
place_step (LeafMark r) (i ∷ path) = None
place_step (NodeMark r below) [] = Some r
place_step (NodeMark r below) (i ∷ path) = option_and_then (λ f. f path) (slice_get below i)

-- what is kept at a path, or none where it leaves the tree
abbrev pub mark_at : Bounds → List ℕ → Option Range
mark_at = fold-Bounds (List ℕ → Option Range) place_step

-- ---- what is kept under whatever ranges

abbrev pub type_step : Term-F (List ℕ → Option LaneType) → List ℕ → Option LaneType
type_step (Leaf leaf ty) [] = Some ty
type_step (Leaf leaf ty) (i ∷ path) = None
type_step (Node op ty k args) [] = Some ty
type_step (Node op ty k args) (i ∷ path) = option_and_then (λ f. f path) (slice_get args i)

-- the type that stands at a path, or none where it leaves the term
abbrev pub type_at : Term → List ℕ → Option LaneType
type_at = fold-Term (List ℕ → Option LaneType) type_step

-- an interval of the type, or none where there is no type
abbrev pub Suits : Option Range → Option LaneType → Type 0
Suits (Some r) (Some ty) = IsRange r × (lies_in r (lane_range ty) ≡ true)
Suits None None = Unit {0}
Suits (Some r) None = ⊥
Suits None (Some ty) = ⊥

-- a well-typed term, and at each of its nodes an interval of the node's type
pub record IsBounded (t : Term) (b : Bounds) : Type 0 where
  pub typed : IsWellTyped t
  pub suits : (path : List ℕ) → Suits (mark_at b path) (type_at t path)

abbrev pub AreBounded : List Term → List Bounds → Type 0
AreBounded [] [] = Unit {0}
AreBounded (t ∷ ts) (b ∷ bs) = IsBounded t b × AreBounded ts bs
AreBounded [] (b ∷ bs) = ⊥
AreBounded (t ∷ ts) [] = ⊥
