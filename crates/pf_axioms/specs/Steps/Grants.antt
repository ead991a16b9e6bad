-- What the test of the intervals said, and a law as it stands in the code.
use Rattle.std.specs.Prelude.{◌≡◌, Result, Ok, Err}
use Rattle.pf_templates.specs.Meaning.Templates.{tree}
use Rattle.pf_axioms.specs.declared.fault.StepFault.{StepFault}
use Rattle.pf_axioms.specs.declared.fault.StepFault.TheVariants.{TooWide, NotGranted}
use Rattle.pf_axioms.specs.declared.laws.Law.{Law as CodeLaw}
use Rattle.pf_axioms.specs.Meaning.AxiomSteps.{Verdict, Granted, Missing, Denied}
use Rattle.pf_axioms.specs.Meaning.Rows.{AxiomRow, Law}

abbrev pub Allows : Result (Unit {0}) StepFault → Verdict → Type 0
Allows (Ok u) v = v ≡ Granted
Allows (Err TooWide) v = v ≡ Missing
Allows (Err (NotGranted got)) v = v ≡ Denied got
Allows (Err _) v = ⊥

-- a law as it stands in the code
abbrev pub law_of : CodeLaw → AxiomRow
law_of r = Law (tree r.0) (tree r.1) r.2
