-- The interval of a term, and the numbers of its leaves that lie in their ranges.
use Rattle.std.specs.Prelude.{◌≡◌, ℕ, ℤ, pos, Bool, true, false, List, [], ◌∷◌, slice_get, slice_index_or, Option, Some, None, option_and_then, option_map}
use Rattle.pf_ints.specs.declared.lane.LaneType.{LaneType}
use Rattle.pf_ints.specs.Meaning.Ranges.{Range, Includes, range, within, lies_in, lane_range}
use Rattle.pf_values.specs.declared.op.Op.{Op}
use Rattle.pf_values.specs.declared.term.Env.{Env}
use Rattle.pf_values.specs.declared.term.Leaf.{Leaf as LeafOf}
use Rattle.pf_values.specs.declared.term.Leaf.TheVariants.{Tap, Const, Def}
use Rattle.pf_values.specs.declared.term.Term.{Term}
use Rattle.pf_values.specs.declared.term.Term.TheOpen.{Term-F}
use Rattle.pf_values.specs.declared.term.Term.TheOpen.Term-F.{Leaf, Node}
use Rattle.pf_values.specs.declared.term.Term.TheFolds.{fold-Term}
use Rattle.pf_values.specs.declared.term.Term.TheViews.{out-Term}
use Rattle.pf_values.specs.Meaning.Terms.{all_true}
use Rattle.pf_forms.specs.Meaning.Values.{G}
use Rattle.pf_templates.specs.Meaning.Templates.{at}
use Rattle.pf_laneops.specs.Meaning.Formulas.{formula, vars}
use Rattle.pf_bounds.specs.declared.ranges.Ranges.{Ranges}

-- a leaf's interval: the range of what it stands for, or the constant alone
abbrev pub leaf_range : Ranges → LeafOf → Option Range
leaf_range ranges (Tap n) = slice_get ranges.taps n
leaf_range ranges (Const n) = within (range n n)
leaf_range ranges (Def n) = slice_get ranges.defs n

-- the interval of an operator's formula over the intervals of its operands
abbrev pub row_range : Op → LaneType → ℕ → List Range → Option Range
row_range op ty k rs = G rs (at (vars ty k) (formula op))

-- all intervals, where each is there
abbrev pub all_of : {A : Type 0} → List (Option A) → Option (List A)
all_of [] = Some []
all_of (r ∷ rs) = option_and_then (λ s. option_map (λ more. s ∷ more) (all_of rs)) r

abbrev pub interval_step : Ranges → Term-F (Option Range) → Option Range
interval_step ranges (Leaf leaf ty) = leaf_range ranges leaf
interval_step ranges (Node op ty k args) = option_and_then (row_range op ty k) (all_of args)

-- the interval of a term whose leaves lie in these ranges
abbrev pub interval_of : Ranges → Term → Option Range
interval_of ranges = fold-Term (Option Range) (interval_step ranges)

-- there is an interval, and it lies in the type
abbrev pub lies_in_type : Option Range → LaneType → Bool
lies_in_type (Some r) ty = lies_in r (lane_range ty)
lies_in_type None ty = false

abbrev pub is_ranged_leaf : Ranges → LeafOf → LaneType → Bool
is_ranged_leaf ranges (Tap n) ty = lies_in_type (slice_get ranges.taps n) ty
is_ranged_leaf ranges (Const n) ty = true
is_ranged_leaf ranges (Def n) ty = lies_in_type (slice_get ranges.defs n) ty

abbrev pub ranged_step : Ranges → Term-F Bool → Bool
ranged_step ranges (Leaf leaf ty) = is_ranged_leaf ranges leaf ty
ranged_step ranges (Node op ty k args) = all_true args

-- each tap and each definition of the term has a range, which lies in its type
abbrev pub are_ranges_of : Ranges → Term → Bool
are_ranges_of ranges = fold-Term Bool (ranged_step ranges)

-- the number at each place lies in the range at that place
abbrev pub AreWithin : List Range → List ℤ → Type 0
AreWithin rs xs = (n : ℕ) (r : Range) → slice_get rs n ≡ Some r → Includes r (slice_index_or xs n (pos 0))

-- the numbers of the taps and of the definitions lie in their ranges
pub record IsWithin (ranges : Ranges) (env : Env) : Type 0 where
  pub taps : AreWithin ranges.taps env.taps
  pub defs : AreWithin ranges.defs env.defs

-- ---- the parts of a term

abbrev pub operands_step : {A : Type 0} → Term-F A → List A
operands_step (Leaf leaf ty) = []
operands_step (Node op ty k args) = args

-- the operands at the root of a term
abbrev pub operands : Term → List Term
operands t = operands_step (out-Term t)

-- the part of a term at a path, or none where the path leaves the term
abbrev pub part_of : Term → List ℕ → Option Term
part_of t [] = Some t
part_of t (i ∷ path) = option_and_then (λ x. part_of x path) (slice_get (operands t) i)

-- the interval of the part at a path
abbrev pub interval_at : Ranges → Term → List ℕ → Option Range
interval_at ranges t path = option_and_then (interval_of ranges) (part_of t path)
