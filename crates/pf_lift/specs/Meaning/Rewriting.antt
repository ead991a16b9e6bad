-- Terms rewritten by the rules of a file.
use Rattle.std.specs.Prelude.{◌≡◌, ℕ, zero, suc, ◌<◌, ◌⊎◌, List, [], ◌∷◌, ◌++◌, length, slice_get, Option, Some, None}
use Rattle.pf_ints.specs.declared.lane.LaneType.{LaneType}
use Rattle.pf_values.specs.declared.op.Op.{Op}
use Rattle.pf_values.specs.declared.term.Term.{Term}
use Rattle.pf_values.specs.declared.term.Term.TheVariants.{Node}
use Rattle.pf_bounds.specs.declared.ranges.Ranges.{Ranges}
use Rattle.pf_bounds.specs.Meaning.TermBounds.{part_of}
use Rattle.pf_rules.specs.declared.instances.Binding.{Binding}
use Rattle.pf_rules.specs.Meaning.Instances.{instance_of}
use Rattle.pf_match.specs.Meaning.Matches.{Match}
use Rattle.pf_check.specs.declared.checked.CheckedParts.{CheckedParts}

-- no rule matches the term
abbrev pub NoMatch : List CheckedParts → Ranges → Term → Type 0
NoMatch rules ranges t = (n : ℕ) (c : CheckedParts) → slice_get rules n ≡ Some c → Match c.rule ranges t None

-- u is the right side of the first rule in the file that matches t, with the terms of its match for its variables
pub record Rewrites (rules : List CheckedParts) (ranges : Ranges) (t u : Term) : Type 0 where
  pub number : ℕ
  pub checked : CheckedParts
  pub binding : Binding
  pub stands : slice_get rules number ≡ Some checked
  pub first : (n : ℕ) (c : CheckedParts) → n < number → slice_get rules n ≡ Some c → Match c.rule ranges t None
  pub match : Match checked.rule ranges t (Some binding)
  pub is : instance_of binding checked.rule.rhs ≡ Some u

-- of two places of a term, the one that comes earlier in post-order: children before their parent, from left to right
abbrev pub IsEarlier : List ℕ → List ℕ → Type 0
IsEarlier [] q = ⊥
IsEarlier (i ∷ p) [] = Unit {0}
IsEarlier (i ∷ p) (j ∷ q) = (i < j) ⊎ ((i ≡ j) × IsEarlier p q)

-- the two terms differ in an operand at most: x in the one, y in the other
pub record DifferAt (i : ℕ) (t u x y : Term) : Type 0 where
  pub op : Op
  pub ty : LaneType
  pub k : ℕ
  pub before : List Term
  pub after : List Term
  pub here : length before ≡ i
  pub one : t ≡ Node op ty k (before ++ x ∷ after)
  pub other : u ≡ Node op ty k (before ++ y ∷ after)

-- u is t with the part at a path changed so
abbrev pub Changed : (Term → Term → Type 0) → List ℕ → Term → Term → Type 0
Changed becomes [] t u = becomes t u
Changed becomes (i ∷ path) t u = (x : Term) × (y : Term) × DifferAt i t u x y × Changed becomes path x y

-- one step: the first part in post-order that some rule matches is rewritten
pub record Next (rules : List CheckedParts) (ranges : Ranges) (t u : Term) : Type 0 where
  pub path : List ℕ
  pub first : (q : List ℕ) (x : Term) → IsEarlier q path → part_of t q ≡ Some x → NoMatch rules ranges x
  pub changed : Changed (Rewrites rules ranges) path t u

-- so many steps, one after another
abbrev pub Chain : List CheckedParts → Ranges → ℕ → Term → Term → Type 0
Chain rules ranges zero t u = t ≡ u
Chain rules ranges (suc n) t u = (v : Term) × Next rules ranges t v × Chain rules ranges n v u

-- no rule matches any part of the term
abbrev pub IsNormal : List CheckedParts → Ranges → Term → Type 0
IsNormal rules ranges t = (path : List ℕ) (x : Term) → part_of t path ≡ Some x → NoMatch rules ranges x

-- u is the end of the chain of steps from t, which are so many
pub record LiftsTo (rules : List CheckedParts) (ranges : Ranges) (count : ℕ) (t u : Term) : Type 0 where
  pub chain : Chain rules ranges count t u
  pub normal : IsNormal rules ranges u
