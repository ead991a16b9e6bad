-- A rule's left side beside a term, at a width and a shift.
use Rattle.std.specs.Prelude.{◌≡◌, ◌<◌, ℕ, ℤ, pos, ◌+◌, ◌==◌, Bool, true, false, if◌then◌else◌, List, [], ◌∷◌, length, slice_get, Option, Some, None}
use Rattle.pf_ints.specs.declared.lane.LaneType.{LaneType}
use Rattle.pf_values.specs.declared.op.Op.{Op}
use Rattle.pf_values.specs.declared.row.Gives.{Gives}
use Rattle.pf_values.specs.declared.row.Gives.TheVariants.{Stated}
use Rattle.pf_values.specs.declared.term.Term.{Term}
use Rattle.pf_values.specs.Meaning.Operators.{row_of}
use Rattle.pf_values.specs.Meaning.Terms.{stated_type, same_type}
use Rattle.pf_bounds.specs.declared.ranges.Ranges.{Ranges}
use Rattle.pf_bounds.specs.Meaning.TermBounds.{operands}
use Rattle.pf_rules.specs.declared.instances.Binding.{Binding}
use Rattle.pf_rules.specs.declared.pattern.Pattern.{Pattern}
use Rattle.pf_rules.specs.declared.pattern.Pattern.TheOpen.{Pattern-F}
use Rattle.pf_rules.specs.declared.pattern.Pattern.TheOpen.Pattern-F.{Var, Const, Node, Lane}
use Rattle.pf_rules.specs.declared.pattern.Pattern.TheFolds.{fold-Pattern}
use Rattle.pf_rules.specs.declared.rule.RuleParts.{RuleParts}
use Rattle.pf_rules.specs.declared.rule.VarDecl.{VarDecl}
use Rattle.pf_rules.specs.declared.shifts.Pair.{Pair}
use Rattle.pf_rules.specs.Meaning.Instances.{instance_of, HaveTypes}
use Rattle.pf_rules.specs.Meaning.Sorts.{lane_at, type_or}
use Rattle.pf_match.specs.declared.trials.Trial.{Trial}
use Rattle.pf_match.specs.Meaning.Matches.{LiesInside, LieInside, at_binding}

abbrev pub this_or : {A : Type 0} → Option A → Option A → Option A
this_or (Some x) o = Some x
this_or None o = o

abbrev pub first_in : List (Term → Option Term) → List Term → Option Term
first_in [] ts = None
first_in (f ∷ fs) [] = None
first_in (f ∷ fs) (t ∷ ts) = this_or (f t) (first_in fs ts)

abbrev pub standing_step : ℕ → Pattern-F (Term → Option Term) → Term → Option Term
standing_step n (Var m) t = if m == n then Some t else None
standing_step n (Const c ty) t = None
standing_step n (Node op to k fs) t = first_in fs (operands t)
standing_step n (Lane op to k fs) t = None

-- what stands in the term where the variable first stands in the pattern
abbrev pub standing : ℕ → Pattern → Term → Option Term
standing n = fold-Pattern (Term → Option Term) (standing_step n)

-- what stands for a variable of the left side
abbrev pub bound : Trial → ℕ → Option Term
bound x n = standing n x.lhs.now x.term.now

-- whether a type may stand with a node of an operator, if it is a well-typed one
abbrev pub is_type : Gives → Option (Option LaneType) → LaneType → Bool
is_type gives None ty = false
is_type Stated (Some s) ty = same_type (type_or s) ty
is_type _ (Some s) ty = true

-- the operator, the type and the amount of the node are the pattern's
pub record IsHead (op : Op) (s : Option (Option LaneType)) (a : Option ℤ) (other : Op) (ty : LaneType) (k : ℕ) : Type 0 where
  pub same : op ≡ other
  pub typed : is_type (row_of op).gives s ty ≡ true
  pub amount : a ≡ Some (pos k)

-- the term has the variable's type and lies in its range
pub record IsBound (p : Pair) (ranges : Ranges) (d : VarDecl) (t : Term) : Type 0 where
  pub typed : lane_at p.w d.ty ≡ Some (stated_type t)
  pub inside : LiesInside p ranges d t

-- each of the variables from n on has such a term
abbrev pub AreBoundFrom : Pair → Ranges → (ℕ → Option Term) → ℕ → List VarDecl → Type 0
AreBoundFrom p ranges f n [] = Unit {0}
AreBoundFrom p ranges f n (d ∷ ds) = ((t : Term) × (f n ≡ Some t) × IsBound p ranges d t) × AreBoundFrom p ranges f (n + 1) ds

-- the terms of the first variables
pub record AreTermsOf (f : ℕ → Option Term) (count : ℕ) (ts : List Term) : Type 0 where
  pub many : length ts ≡ count
  pub each : (n : ℕ) → n < count → slice_get ts n ≡ f n

-- a match, wherever it is
pub record Fits (r : RuleParts) (ranges : Ranges) (t : Term) (b : Binding) : Type 0 where
  pub is : instance_of b r.lhs ≡ Some t
  pub typed : HaveTypes b.w r.vars b.vars
  pub inside : LieInside (at_binding b) ranges r.vars b.vars

-- the binding with which the rule matches at this width and shift, or none where it doesn't
abbrev pub FitsAt : RuleParts → Ranges → Term → Pair → Option Binding → Type 0
FitsAt r ranges t p (Some b) = (at_binding b ≡ p) × Fits r ranges t b
FitsAt r ranges t p None = (c : Binding) → at_binding c ≡ p → Fits r ranges t c → ⊥
