-- What is kept over widths and shifts.
use Rattle.std.specs.Prelude.{◌≡◌, ℕ, ◌<◌, ◌++◌, true, false, List, [], ◌∷◌, length, Result, Ok, Err, Option, Some, None, IfSome, map}
use Rattle.pf_ints.specs.Meaning.Ranges.{Range}
use Rattle.pf_forms.specs.Meaning.Values.{IsFormOver}
use Rattle.pf_rules.specs.declared.rule.Kind.{Kind}
use Rattle.pf_rules.specs.declared.rule.RuleParts.{RuleParts}
use Rattle.pf_rules.specs.declared.shifts.Pair.{Pair}
use Rattle.pf_check.specs.declared.fault.RuleFault.{RuleFault}
use Rattle.pf_check.specs.declared.checked.CheckedParts.{CheckedParts}
use Rattle.pf_check.specs.Meaning.Orders.{this_or, first_some, fault_in}
use Rattle.pf_check.specs.Meaning.Faults.{Fault, Tells}
use Rattle.pf_check.specs.Meaning.Faults as fault
use Rattle.pf_check.specs.Meaning.Checks.{HasOneType, IsChecked, types_fault, ranges_fault, lifting_fault}
use Rattle.pf_check.specs.Meaning.Accepts.{cites_fault, replay_fault}
use Rattle.pf_check.specs.Meaning.Files.{AreOutcomes}

-- the call makes these ranges, or tells the fault
abbrev pub MakesRanges : Result (List Range) RuleFault → Result (List Range) Fault → Type 0
MakesRanges (Ok rs) o = o ≡ Ok rs
MakesRanges (Err e) o = Tells e (fault_in o)

-- the ranges, and after them these, or the fault
abbrev pub onto : List Range → Result (List Range) Fault → Result (List Range) Fault
onto xs (Ok rs) = Ok (xs ++ rs)
onto xs (Err e) = Err e

abbrev pub AllTyped : Kind → RuleParts → List Pair → Type 0
AllTyped kind r [] = Unit {0}
AllTyped kind r (p ∷ ps) = HasOneType true kind r p × AllTyped kind r ps

-- each earlier rule that is there keeps what a checked one keeps
abbrev pub AllChecked : List (Option CheckedParts) → Type 0
AllChecked [] = Unit {0}
AllChecked (None ∷ es) = AllChecked es
AllChecked (Some c ∷ es) = IsChecked c × AllChecked es

-- variables and steps can be counted
pub record Lasts (r : RuleParts) : Type 0 where
  pub vars : length r.vars < 256
  pub steps : length r.steps < 65536

-- the faults after that of the shift, over these widths and shifts: from the replays on, from the cited rules on, and so on
abbrev pub from_replays : RuleParts → List (Option CheckedParts) → List Pair → Option Fault
from_replays r earlier ps = first_some (map (replay_fault r earlier) ps)

abbrev pub from_cites : RuleParts → List (Option CheckedParts) → List Pair → Option Fault
from_cites r earlier ps = this_or (cites_fault earlier 1 r.steps) (from_replays r earlier ps)

abbrev pub from_amounts : RuleParts → Kind → List (Option CheckedParts) → List Pair → Option Fault
from_amounts r kind earlier ps = this_or (first_some (map (types_fault true kind r) ps)) (from_cites r earlier ps)

abbrev pub from_weights : RuleParts → Kind → List (Option CheckedParts) → List Pair → Option Fault
from_weights r kind earlier ps = this_or (lifting_fault kind r) (from_amounts r kind earlier ps)

abbrev pub from_ranges : RuleParts → Kind → List (Option CheckedParts) → List Pair → Option Fault
from_ranges r kind earlier ps = this_or (first_some (map (ranges_fault r) ps)) (from_weights r kind earlier ps)

abbrev pub from_types : RuleParts → Kind → List (Option CheckedParts) → List Pair → Option Fault
from_types r kind earlier ps = this_or (first_some (map (types_fault false kind r) ps)) (from_ranges r kind earlier ps)

-- a fault whose forms are forms over so many variables, if there is one
abbrev pub IsOver : ℕ → Fault → Type 0
IsOver count (fault.Apart w k left right) = IsFormOver count left × IsFormOver count right
IsOver count _ = Unit {0}

abbrev pub IfOver : ℕ → Option Fault → Type 0
IfOver count o = IfSome o (IsOver count)

-- what was said of the earlier rules, and behind it what is said of these
abbrev pub Continues : Kind → List (Option CheckedParts) → List RuleParts → List (Option RuleFault) → List (Option RuleFault) → Type 0
Continues kind earlier rs before all = (os : List (Option RuleFault)) × (all ≡ before ++ os) × AreOutcomes kind earlier rs os
