-- What a rule is checked for before its certificate, and what a checked rule keeps.
use Rattle.std.specs.Prelude.{◌≡◌, ℕ, ◌+◌, ◌-◌, ◌^◌, ◌<◌, ◌≤◌, min, nat_lt, Bool, true, false, if◌then◌else◌, List, [], ◌∷◌, length, slice_get, Option, Some, None, option_map, Result, Ok, Err, Contains}
use Rattle.pf_ints.specs.declared.lane.LaneType.{LaneType}
use Rattle.pf_ints.specs.Meaning.Ranges.{Range}
use Rattle.pf_forms.specs.Meaning.Equality.{same_type}
use Rattle.pf_rules.specs.declared.fault.SortFault.{SortFault}
use Rattle.pf_rules.specs.declared.fault.SortFault.TheVariants as sort
use Rattle.pf_rules.specs.declared.pattern.Pattern.{Pattern}
use Rattle.pf_rules.specs.declared.shifts.Pair.{Pair}
use Rattle.pf_rules.specs.declared.rule.VarDecl.{VarDecl}
use Rattle.pf_rules.specs.declared.rule.Kind.{Kind}
use Rattle.pf_rules.specs.declared.rule.Kind.TheVariants.{Lift, Lower}
use Rattle.pf_rules.specs.declared.rule.RuleParts.{RuleParts}
use Rattle.pf_rules.specs.Meaning.Sorts.{At, place, sorting}
use Rattle.pf_rules.specs.Meaning.Counts.{pattern_weight, occurrences}
use Rattle.pf_rules.specs.Meaning.Rules.{suits, pairs, first_bad, range_at, Holds}
use Rattle.pf_check.specs.declared.checked.CheckedParts.{CheckedParts}
use Rattle.pf_check.specs.Meaning.Orders.{this_or, fault_in}
use Rattle.pf_check.specs.Meaning.Faults.{Fault}
use Rattle.pf_check.specs.Meaning.Faults as fault

abbrev pub at_pair : RuleParts → Pair → At
at_pair r p = place p.w p.k r.vars

-- ---- as properties

-- both sides have one type; whether amounts are in their ranges is asked too, or isn't
pub record HasOneType (amounts : Bool) (kind : Kind) (r : RuleParts) (p : Pair) : Type 0 where
  pub ty : LaneType
  pub left : sorting amounts kind (at_pair r p) r.lhs ≡ Ok ty
  pub right : sorting amounts kind (at_pair r p) r.rhs ≡ Ok ty

-- each variable has a range
abbrev pub HasRanges : RuleParts → Pair → Type 0
HasRanges r p = (n : ℕ) (d : VarDecl) → slice_get r.vars n ≡ Some d → (s : Range) × (range_at p.w p.k d ≡ Some s)

-- a weight and a count as they are told: 2^64 - 1 where they are more
abbrev pub weighed : Pattern → ℕ
weighed p = min (pattern_weight p) (2 ^ 64 - 1)

abbrev pub occurs : ℕ → Pattern → ℕ
occurs n p = min (occurrences n p) (2 ^ 64 - 1)

-- a rule that lifts has a lighter right side, with no variable more often than the left one
pub record IsLighter (r : RuleParts) : Type 0 where
  pub lighter : weighed r.rhs < weighed r.lhs
  pub no_more : (n : ℕ) → n < length r.vars → occurs n r.rhs ≤ occurs n r.lhs

abbrev pub LiftsLighter : Kind → RuleParts → Type 0
LiftsLighter Lift r = IsLighter r
LiftsLighter (Lower target) r = Unit {0}

-- at each of its widths and shifts a rule has types, ranges and amounts, and it doesn't lift to what is heavier
pub record IsSound (kind : Kind) (r : RuleParts) : Type 0 where
  pub shifts : first_bad r.widths r.shift ≡ None
  pub types : (p : Pair) → Contains (pairs r) p → HasOneType false kind r p
  pub ranges : (p : Pair) → Contains (pairs r) p → HasRanges r p
  pub lighter : LiftsLighter kind r
  pub amounts : (p : Pair) → Contains (pairs r) p → HasOneType true kind r p

-- what a checked rule keeps
pub record IsChecked (c : CheckedParts) : Type 0 where
  pub suited : suits c.kind c.rule ≡ true
  pub sound : IsSound c.kind c.rule
  pub holds : Holds c.rule

-- ---- as the first fault

abbrev pub shift_fault : RuleParts → Option Fault
shift_fault r = option_map (λ w. fault.Range None w 0) (first_bad r.widths r.shift)

abbrev pub side_fault : Bool → SortFault → Fault
side_fault left (sort.Types path) = fault.Types left path
side_fault left (sort.Amount path amount) = fault.Immediate left path amount
side_fault left sort.Memory = fault.Types left []

abbrev pub two_types : Result LaneType SortFault → Result LaneType SortFault → Option Fault
two_types (Err e) r = Some (side_fault true e)
two_types (Ok t) (Err e) = Some (side_fault false e)
two_types (Ok t) (Ok u) = if same_type t u then None else Some (fault.Types false [])

-- the left side's fault, or the right side's, or that their types differ
abbrev pub types_fault : Bool → Kind → RuleParts → Pair → Option Fault
types_fault amounts kind r p = two_types (sorting amounts kind (at_pair r p) r.lhs) (sorting amounts kind (at_pair r p) r.rhs)

abbrev pub with_range : Range → Result (List Range) Fault → Result (List Range) Fault
with_range s (Ok rs) = Ok (s ∷ rs)
with_range s (Err e) = Err e

abbrev pub ranged : Pair → ℕ → Option Range → Result (List Range) Fault → Result (List Range) Fault
ranged p n (Some s) rest = with_range s rest
ranged p n None rest = Err (fault.Range (Some n) p.w p.k)

-- the ranges of the variables, or the first one that has none, the first of them being variable n
abbrev pub ranges_from : Pair → ℕ → List VarDecl → Result (List Range) Fault
ranges_from p n [] = Ok []
ranges_from p n (d ∷ ds) = ranged p n (range_at p.w p.k d) (ranges_from p (n + 1) ds)

abbrev pub ranges_fault : RuleParts → Pair → Option Fault
ranges_fault r p = fault_in (ranges_from p 0 r.vars)

abbrev pub heavier_fault : RuleParts → Option Fault
heavier_fault r = if nat_lt (weighed r.rhs) (weighed r.lhs) then None else Some (fault.Heavier (weighed r.lhs) (weighed r.rhs))

abbrev pub repeats_fault : RuleParts → ℕ → Option Fault
repeats_fault r n = if nat_lt (occurs n r.lhs) (occurs n r.rhs) then Some (fault.Repeats n) else None

-- the least variable from n on that stands more often in the right side
abbrev pub repeats_from : RuleParts → ℕ → List VarDecl → Option Fault
repeats_from r n [] = None
repeats_from r n (d ∷ ds) = this_or (repeats_fault r n) (repeats_from r (n + 1) ds)

abbrev pub lifting_fault : Kind → RuleParts → Option Fault
lifting_fault Lift r = this_or (heavier_fault r) (repeats_from r 0 r.vars)
lifting_fault (Lower target) r = None
