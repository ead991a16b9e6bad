-- Which rules may match a term, by the operator at its root and by its type.
use Rattle.std.specs.Prelude.{◌≡◌, ℕ, ℤ, pos, ◌<ℤ◌, List, [], ◌∷◌, slice_get, Option, Some, None, Result, Ok, Err, Contains, AllPairs, true}
use Rattle.pf_ints.specs.declared.lane.LaneType.{LaneType}
use Rattle.pf_values.specs.declared.op.Op.{Op}
use Rattle.pf_values.specs.declared.term.Term.{Term}
use Rattle.pf_values.specs.declared.term.Term.TheOpen.{Term-F}
use Rattle.pf_values.specs.declared.term.Term.TheOpen.Term-F.{Leaf as LeafOf, Node as NodeOf}
use Rattle.pf_values.specs.declared.term.Term.TheFolds.{fold-Term}
use Rattle.pf_values.specs.Meaning.Terms.{stated_type, IsWellTyped}
use Rattle.pf_bounds.specs.declared.ranges.Ranges.{Ranges}
use Rattle.pf_rules.specs.declared.fault.SortFault.{SortFault}
use Rattle.pf_rules.specs.declared.instances.Binding.{Binding}
use Rattle.pf_rules.specs.declared.pattern.Pattern.{Pattern}
use Rattle.pf_rules.specs.declared.pattern.Pattern.TheOpen.{Pattern-F}
use Rattle.pf_rules.specs.declared.pattern.Pattern.TheOpen.Pattern-F.{Node}
use Rattle.pf_rules.specs.declared.pattern.Pattern.TheFolds.{fold-Pattern}
use Rattle.pf_rules.specs.declared.rule.Kind.TheVariants.{Lift}
use Rattle.pf_rules.specs.declared.rule.RuleParts.{RuleParts}
use Rattle.pf_rules.specs.declared.shifts.Pair.{Pair}
use Rattle.pf_rules.specs.Meaning.Rules.{is_rule, pairs}
use Rattle.pf_rules.specs.Meaning.Sorts.{place, sorting}
use Rattle.pf_match.specs.declared.key.RuleKey.{RuleKey}
use Rattle.pf_match.specs.Meaning.Matches.{IsMatch}

-- ---- the operator at the root

abbrev pub term_root_step : {A : Type 0} → Term-F A → Option Op
term_root_step (LeafOf leaf ty) = None
term_root_step (NodeOf op ty k args) = Some op

abbrev pub term_root : Term → Option Op
term_root = fold-Term (Option Op) (λ layer. term_root_step layer)

abbrev pub pattern_root_step : {A : Type 0} → Pattern-F A → Option Op
pattern_root_step (Node op to k args) = Some op
pattern_root_step _ = None

abbrev pub pattern_root : Pattern → Option Op
pattern_root = fold-Pattern (Option Op) (λ layer. pattern_root_step layer)

-- ---- candidates

-- the left side has the term's operator at its root, and at one of the rule's widths and shifts it has the term's type
pub record MayMatch (r : RuleParts) (t : Term) : Type 0 where
  pub op : Op
  pub left : pattern_root r.lhs ≡ Some op
  pub root : term_root t ≡ Some op
  pub at : Pair
  pub stated : Contains (pairs r) at
  pub typed : sorting true Lift (place at.w at.k r.vars) r.lhs ≡ Ok (stated_type t)

-- ascending, each once, exactly the numbers of those rules that may match the term
pub record AreCandidates (rules : List RuleParts) (t : Term) (ns : List ℤ) : Type 0 where
  pub ascending : AllPairs (λ m n. m <ℤ n) ns
  pub each : (m : ℤ) → Contains ns m → (n : ℕ) × (r : RuleParts) × (m ≡ pos n) × (slice_get rules n ≡ Some r) × MayMatch r t
  pub all : (n : ℕ) (r : RuleParts) → slice_get rules n ≡ Some r → MayMatch r t → Contains ns (pos n)

-- the number of each rule that matches the well-typed term, under whatever ranges, is among these
abbrev pub HasEachMatch : List RuleParts → Term → List ℤ → Type 0
HasEachMatch rules t ns =
    (n : ℕ) (r : RuleParts) (ranges : Ranges) (b : Binding) → slice_get rules n ≡ Some r → is_rule r ≡ true → IsWellTyped t → IsMatch r ranges t b → Contains ns (pos n)

-- ---- what is kept of a rule

abbrev pub type_or_none : Result LaneType SortFault → Option LaneType
type_or_none (Ok t) = Some t
type_or_none (Err e) = None

abbrev pub type_at : RuleParts → Pair → Option LaneType
type_at r p = type_or_none (sorting true Lift (place p.w p.k r.vars) r.lhs)

abbrev pub type_before : Option LaneType → List LaneType → List LaneType
type_before None ts = ts
type_before (Some t) ts = t ∷ ts

-- the types that the left side has at these widths and shifts, in order
abbrev pub types_at : RuleParts → List Pair → List LaneType
types_at r [] = []
types_at r (p ∷ ps) = type_before (type_at r p) (types_at r ps)

abbrev pub key_of : RuleParts → RuleKey
key_of r = record { op = pattern_root r.lhs; types = types_at r (pairs r) }
