-- Why a rule is refused, with its forms as trees.
use Rattle.std.specs.Prelude.{◌≡◌, ℕ, ℤ, Bool, List, Option, Some, None, Result, Ok, Err}
use Rattle.pf_forms.specs.Meaning.Shapes.{Shape, shape}
use Rattle.pf_forms.specs.Meaning.Values.{IsFormOver}
use Rattle.pf_axioms.specs.declared.fault.StepFault.{StepFault}
use Rattle.pf_check.specs.declared.fault.RuleFault.{RuleFault}
use Rattle.pf_check.specs.declared.fault.RuleFault.TheVariants as told

pub data Fault : Type 0 where
  Types : Bool → List ℕ → Fault
  Range : Option ℕ → ℕ → ℕ → Fault
  Heavier : ℕ → ℕ → Fault
  Repeats : ℕ → Fault
  Immediate : Bool → List ℕ → ℤ → Fault
  Cites : ℕ → Fault
  TooLarge : ℕ → ℕ → ℕ → ℕ → Fault
  Step : ℕ → ℕ → ℕ → StepFault → Fault
  Apart : ℕ → ℕ → Shape → Shape → Fault

-- the call tells this fault, or that memory is wanting
abbrev pub Tells : RuleFault → Option Fault → Type 0
Tells (told.Types left path) o = o ≡ Some (Types left path)
Tells (told.Range var w k) o = o ≡ Some (Range var w k)
Tells (told.Heavier left right) o = o ≡ Some (Heavier left right)
Tells (told.Repeats var) o = o ≡ Some (Repeats var)
Tells (told.Immediate left path amount) o = o ≡ Some (Immediate left path amount)
Tells (told.Cites n) o = o ≡ Some (Cites n)
Tells (told.TooLarge n w k count) o = o ≡ Some (TooLarge n w k count)
Tells (told.Step n w k fault) o = o ≡ Some (Step n w k fault)
Tells (told.Apart w k left right) o = o ≡ Some (Apart w k (shape left) (shape right))
Tells told.Memory o = Unit {0}

-- the call says that there is no fault, or tells it
abbrev pub Says : {A : Type 0} → Result A RuleFault → Option Fault → Type 0
Says (Ok x) o = o ≡ None
Says (Err e) o = Tells e o

-- the forms that are told are forms over so many variables
abbrev pub IsFaultOver : ℕ → RuleFault → Type 0
IsFaultOver count (told.Apart w k left right) = IsFormOver count (shape left) × IsFormOver count (shape right)
IsFaultOver count _ = Unit {0}
