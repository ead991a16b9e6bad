-- Numbers that are read from forms.
use Rattle.std.specs.Prelude.{◌≡◌, ℤ, false, ◌&&◌, neg_ℤ, Result, Ok, Err}
use Rattle.pf_ints.specs.Meaning.Ranges.{Includes, range, furthest}
use Rattle.pf_forms.specs.Meaning.Shapes.{Shape, Num}
use Rattle.pf_axioms.specs.declared.fault.StepFault.{StepFault}
use Rattle.pf_axioms.specs.declared.fault.StepFault.TheVariants.{NoMatch}
use Rattle.pf_axioms.specs.Meaning.Folds.{is_number}

-- f is the number, and that one is within the limits
pub record IsWithinForms (f : Shape) (n : ℤ) : Type 0 where
  pub number : f ≡ Num n
  pub near : Includes (range (neg_ℤ furthest) furthest) n

-- the number that a form is, or that it is none
abbrev pub IsNumberOf : Shape → Result ℤ StepFault → Type 0
IsNumberOf f (Ok n) = IsWithinForms f n
IsNumberOf f (Err e) = (e ≡ NoMatch) × (is_number f ≡ false)

-- the two numbers that two forms are, or that one of them is none
abbrev pub AreNumbersOf : Shape → Shape → Result (ℤ × ℤ) StepFault → Type 0
AreNumbersOf f g (Ok p) = IsWithinForms f p.0 × IsWithinForms g p.1
AreNumbersOf f g (Err e) = (e ≡ NoMatch) × (is_number f && is_number g ≡ false)
