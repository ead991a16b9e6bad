-- What the calls of a replay answer.
use Rattle.std.specs.Prelude.{◌≡◌, ℕ, ◌++◌, List, [], ◌∷◌, Bool, Option, Some, None, option_map, Result, Ok, Err}
use Rattle.std.specs.Borrow.{Bor}
use Rattle.pf_forms.specs.declared.form.Form.{Form}
use Rattle.pf_forms.specs.Meaning.Shapes.{Shape, shape}
use Rattle.pf_forms.specs.Meaning.Values.{IsFormOver}
use Rattle.pf_axioms.specs.declared.fault.StepFault.{StepFault}
use Rattle.pf_axioms.specs.declared.fault.StepFault.TheVariants as step
use Rattle.pf_check.specs.declared.citing.Setting.{Setting as SettingOf}
use Rattle.pf_check.specs.declared.fault.RuleFault.{RuleFault}
use Rattle.pf_check.specs.declared.fault.RuleFault.TheVariants as told
use Rattle.pf_check.specs.Meaning.Faults.{Fault, Tells}
use Rattle.pf_ints.specs.declared.lane.LaneType.{LaneType}
use Rattle.pf_rules.specs.declared.fault.SortFault.{SortFault}
use Rattle.pf_check.specs.Meaning.Checks.{side_fault}
use Rattle.pf_check.specs.Meaning.Orders.{fault_in}
use Rattle.pf_check.specs.Meaning.Replays.{Setting}

abbrev pub here : SettingOf → Setting
here s = record { w = s.w; k = s.k; ranges = s.ranges.now; earlier = s.earlier.now }

-- the call makes this form, or tells the fault
abbrev pub Makes : Result Form RuleFault → Result Shape Fault → Type 0
Makes (Ok f) o = o ≡ Ok (shape f)
Makes (Err e) o = Tells e (fault_in o)

abbrev pub refused : ℕ → ℕ → ℕ → StepFault → RuleFault
refused n w k step.Memory = told.Memory
refused n w k e = told.Step n w k e

abbrev pub AreForms : ℕ → List Shape → Type 0
AreForms count [] = Unit {0}
AreForms count (f ∷ fs) = IsFormOver count f × AreForms count fs

-- the forms, and after them these, if there are such
abbrev pub joined : List Shape → Option (List Shape) → Option (List Shape)
joined fs o = option_map (λ gs. fs ++ gs) o

abbrev pub lent : Option (Bor Form) → Option Shape
lent o = option_map (λ x. shape x.now) o

-- the call tells a side's type, or its fault
abbrev pub side_told : Bool → Result LaneType SortFault → Option Fault
side_told left (Ok t) = None
side_told left (Err e) = Some (side_fault left e)

abbrev pub SortsSide : Bool → Result LaneType RuleFault → Result LaneType SortFault → Type 0
SortsSide left (Ok t) o = o ≡ Ok t
SortsSide left (Err e) o = Tells e (side_told left o)
