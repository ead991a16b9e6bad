-- Files of checked rules.
use Rattle.std.specs.Prelude.{◌≡◌, ℕ, ◌++◌, true, List, [], ◌∷◌, length, Option, Some, None, option_map, slice_get}
use Rattle.pf_rules.specs.declared.rule.Kind.{Kind}
use Rattle.pf_rules.specs.declared.rule.RuleParts.{RuleParts}
use Rattle.pf_rules.specs.Meaning.Rules.{suits, Holds}
use Rattle.pf_check.specs.declared.checked.CheckedParts.{CheckedParts}
use Rattle.pf_check.specs.declared.fault.RuleFault.{RuleFault}
use Rattle.pf_check.specs.declared.fault.RuleFault.TheVariants as told
use Rattle.pf_check.specs.Meaning.Faults.{Fault, IsFaultOver, Tells}
use Rattle.pf_check.specs.Meaning.Accepts.{Accepted, first_fault}

-- those that are there
abbrev pub known : List (Option CheckedParts) → List CheckedParts
known [] = []
known (None ∷ os) = known os
known (Some c ∷ os) = c ∷ known os

abbrev pub rule_of : Kind → RuleParts → CheckedParts
rule_of kind r = record { rule = r; kind = kind }

abbrev pub entry : Kind → RuleParts → Option CheckedParts
entry kind r = Some (rule_of kind r)

-- the rules are accepted, each with those before it
abbrev pub AllAccepted : Kind → List (Option CheckedParts) → List RuleParts → Type 0
AllAccepted kind earlier [] = Unit {0}
AllAccepted kind earlier (r ∷ rs) = Accepted r kind earlier × AllAccepted kind (earlier ++ entry kind r ∷ []) rs

-- what is said of a rule behind earlier ones: nothing of an accepted one, which holds, and of another its first fault
abbrev pub IsOutcome : Kind → List (Option CheckedParts) → RuleParts → Option RuleFault → Type 0
IsOutcome kind earlier r None = Accepted r kind earlier × Holds r
IsOutcome kind earlier r (Some e) =
    (Accepted r kind earlier → ⊥) × Tells e (first_fault r kind earlier) × (e ≡ told.Memory → ⊥) × IsFaultOver (length r.vars) e

-- what is left of it for the rules behind it
abbrev pub left_of : Kind → RuleParts → Option RuleFault → Option CheckedParts
left_of kind r None = entry kind r
left_of kind r (Some e) = None

-- what is said of each rule of a file, in order
abbrev pub AreOutcomes : Kind → List (Option CheckedParts) → List RuleParts → List (Option RuleFault) → Type 0
AreOutcomes kind earlier [] [] = Unit {0}
AreOutcomes kind earlier (r ∷ rs) (o ∷ os) = IsOutcome kind earlier r o × AreOutcomes kind (earlier ++ left_of kind r o ∷ []) rs os
AreOutcomes kind earlier _ _ = ⊥

abbrev pub AreOfKind : Kind → List CheckedParts → Type 0
AreOfKind kind cs = (n : ℕ) (c : CheckedParts) → slice_get cs n ≡ Some c → c.kind ≡ kind

abbrev pub AllSuit : Kind → List RuleParts → Type 0
AllSuit kind [] = Unit {0}
AllSuit kind (r ∷ rs) = (suits kind r ≡ true) × AllSuit kind rs

abbrev pub refused_or : RuleParts → Option Fault → Option (RuleParts × Fault) → Option (RuleParts × Fault)
refused_or r (Some e) rest = Some (r, e)
refused_or r None rest = rest

-- the first rule that is refused with the checked rules before it, and why
abbrev pub first_refused : Kind → List (Option CheckedParts) → List RuleParts → Option (RuleParts × Fault)
first_refused kind earlier [] = None
first_refused kind earlier (r ∷ rs) = refused_or r (first_fault r kind earlier) (first_refused kind (earlier ++ entry kind r ∷ []) rs)

abbrev pub IsNamed : RuleFault → List ℕ → Option (List ℕ) → Type 0
IsNamed told.Memory name o = Unit {0}
IsNamed _ name o = o ≡ Some name

-- the call tells this rule by its name, and its fault, or that memory is wanting
abbrev pub TellsRefused : List ℕ → RuleFault → Option (RuleParts × Fault) → Type 0
TellsRefused name e o = Tells e (option_map (λ p. p.1) o) × IsNamed e name (option_map (λ p. p.0.name) o)
