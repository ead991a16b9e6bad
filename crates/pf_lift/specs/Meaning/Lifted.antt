-- What a lifted term keeps of the written one.
use Rattle.std.specs.Prelude.{◌≡◌, ℕ, List, Some}
use Rattle.pf_ints.specs.declared.lane.LaneType.{LaneType}
use Rattle.pf_values.specs.declared.term.Env.{Env}
use Rattle.pf_values.specs.declared.term.Leaf.{Leaf as LeafOf}
use Rattle.pf_values.specs.declared.term.Leaf.TheVariants.{Tap, Const, Def}
use Rattle.pf_values.specs.declared.term.Term.{Term}
use Rattle.pf_values.specs.declared.term.Term.TheVariants.{Leaf}
use Rattle.pf_values.specs.Meaning.Terms.{Val, IsWellTyped, stated_type}
use Rattle.pf_bounds.specs.declared.ranges.Ranges.{Ranges}
use Rattle.pf_bounds.specs.Meaning.TermBounds.{part_of, IsWithin}

-- a tap or a definition
abbrev pub IsInput : LeafOf → Type 0
IsInput (Tap n) = Unit {0}
IsInput (Const n) = ⊥
IsInput (Def n) = Unit {0}

-- the leaf stands in the term, with this type
abbrev pub HasLeaf : Term → LeafOf → LaneType → Type 0
HasLeaf t leaf ty = (path : List ℕ) × (part_of t path ≡ Some (Leaf leaf ty))

-- each tap and each definition in u stands in t, with the same type
abbrev pub KeepsInputs : Term → Term → Type 0
KeepsInputs t u = (leaf : LeafOf) (ty : LaneType) → IsInput leaf → HasLeaf u leaf ty → HasLeaf t leaf ty

-- u has the type and the inputs of t, and its value wherever the inputs lie in their ranges
pub record Keeps (ranges : Ranges) (t u : Term) : Type 0 where
  pub typed : IsWellTyped u
  pub stated : stated_type u ≡ stated_type t
  pub value : (env : Env) → IsWithin ranges env → Val env u ≡ Val env t
  pub inputs : KeepsInputs t u
