-- Outcomes of a file's rules tell forms over the rules' variables.
use Rattle.std.specs.Prelude.{List, [], ◌∷◌, ◌++◌, Option, Some, None}
use Rattle.pf_rules.specs.declared.rule.Kind.{Kind}
use Rattle.pf_rules.specs.declared.rule.RuleParts.{RuleParts}
use Rattle.pf_check.specs.declared.checked.CheckedParts.{CheckedParts}
use Rattle.pf_check.specs.declared.fault.RuleFault.{RuleFault}
use Rattle.pf_check.specs.Meaning.Files.{AreOutcomes, IsOutcome, left_of}
use Rattle.pf_verdicts.specs.Steps.{IsTold, AreTold}

outcome_told : (kind : Kind) (earlier : List (Option CheckedParts)) (r : RuleParts) (o : Option RuleFault) → IsOutcome kind earlier r o → IsTold r o
outcome_told kind earlier r None h = tt
outcome_told kind earlier r (Some e) h = h.3

pub outcomes_told : (kind : Kind) (earlier : List (Option CheckedParts)) (rs : List RuleParts) (os : List (Option RuleFault)) → AreOutcomes kind earlier rs os → AreTold rs os
outcomes_told kind earlier [] os h = tt
outcomes_told kind earlier (r ∷ rs) [] h = tt
outcomes_told kind earlier (r ∷ rs) (o ∷ os) h = (outcome_told kind earlier r o h.0, outcomes_told kind (earlier ++ left_of kind r o ∷ []) rs os h.1)
