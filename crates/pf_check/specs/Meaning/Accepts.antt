-- Which rules are accepted, and the first fault of one that isn't.
use Rattle.std.specs.Prelude.{◌≡◌, ℕ, ◌+◌, Bool, true, false, if◌then◌else◌, List, [], ◌∷◌, map, slice_get, Option, Some, None, Contains}
use Rattle.pf_ints.specs.Meaning.Ranges.{Range}
use Rattle.pf_rules.specs.declared.shifts.Pair.{Pair}
use Rattle.pf_rules.specs.declared.rule.By.{By}
use Rattle.pf_rules.specs.declared.rule.By.TheVariants as by
use Rattle.pf_rules.specs.declared.rule.Kind.{Kind}
use Rattle.pf_rules.specs.declared.rule.Step.{Step}
use Rattle.pf_rules.specs.declared.rule.RuleParts.{RuleParts}
use Rattle.pf_rules.specs.Meaning.Sides.{form_at}
use Rattle.pf_rules.specs.Meaning.Rules.{pairs, range_at}
use Rattle.pf_check.specs.declared.checked.CheckedParts.{CheckedParts}
use Rattle.pf_check.specs.Meaning.Orders.{first_some, onward}
use Rattle.pf_check.specs.Meaning.Faults.{Fault}
use Rattle.pf_check.specs.Meaning.Faults as fault
use Rattle.pf_check.specs.Meaning.Checks.{IsSound, at_pair, shift_fault, types_fault, ranges_from, ranges_fault, lifting_fault}
use Rattle.pf_check.specs.Meaning.Replays.{Setting, Proves, replay_of}

abbrev pub setting : List (Option CheckedParts) → Pair → List Range → Setting
setting earlier p ranges = record { w = p.w; k = p.k; ranges = ranges; earlier = earlier }

-- ---- as a property

-- a rule that is cited was checked
abbrev pub IsCitable : List (Option CheckedParts) → By → Type 0
IsCitable earlier (by.Axiom law) = Unit {0}
IsCitable earlier (by.Rule n) = (c : CheckedParts) × (slice_get earlier n ≡ Some (Some c))

abbrev pub AreCitable : List (Option CheckedParts) → List Step → Type 0
AreCitable earlier [] = Unit {0}
AreCitable earlier (t ∷ ts) = IsCitable earlier t.by × AreCitable earlier ts

-- the certificate makes the forms of both sides equal, inside the variables' ranges
pub record IsCertified (r : RuleParts) (earlier : List (Option CheckedParts)) (p : Pair) : Type 0 where
  pub ranges : List Range
  pub are_ranges : map (range_at p.w p.k) r.vars ≡ map Some ranges
  pub proved : Proves (setting earlier p ranges) r.steps (form_at (at_pair r p) r.lhs) (form_at (at_pair r p) r.rhs)

pub record Accepted (r : RuleParts) (kind : Kind) (earlier : List (Option CheckedParts)) : Type 0 where
  pub sound : IsSound kind r
  pub citable : AreCitable earlier r.steps
  pub certified : (p : Pair) → Contains (pairs r) p → IsCertified r earlier p

-- ---- as the first fault

abbrev pub is_checked : Option (Option CheckedParts) → Bool
is_checked (Some (Some c)) = true
is_checked _ = false

abbrev pub is_citable : List (Option CheckedParts) → By → Bool
is_citable earlier (by.Axiom law) = true
is_citable earlier (by.Rule n) = is_checked (slice_get earlier n)

-- the first step that cites a refused rule, the first of them being step n
abbrev pub cites_fault : List (Option CheckedParts) → ℕ → List Step → Option Fault
cites_fault earlier n [] = None
cites_fault earlier n (t ∷ ts) = if is_citable earlier t.by then cites_fault earlier (n + 1) ts else Some (fault.Cites n)

abbrev pub replay_fault : RuleParts → List (Option CheckedParts) → Pair → Option Fault
replay_fault r earlier p =
    onward (ranges_from p 0 r.vars) (λ ranges. replay_of (setting earlier p ranges) r.steps (form_at (at_pair r p) r.lhs) (form_at (at_pair r p) r.rhs))

abbrev pub over : RuleParts → (Pair → Option Fault) → Option Fault
over r fault_at = first_some (map fault_at (pairs r))

-- the first fault of a rule, in the order in which they are judged
abbrev pub first_fault : RuleParts → Kind → List (Option CheckedParts) → Option Fault
first_fault r kind earlier =
    first_some
    (shift_fault r ∷ over r (types_fault false kind r) ∷ over r (ranges_fault r) ∷ lifting_fault kind r ∷ over r (types_fault true kind r)
    ∷ cites_fault earlier 1 r.steps
    ∷ over r (replay_fault r earlier)
    ∷ [])
