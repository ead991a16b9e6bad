-- What holds of each outcome whose line is written.
use Rattle.std.specs.Prelude.{List, ◌∷◌, length, Option, Some, None}
use Rattle.pf_check.specs.declared.fault.RuleFault.{RuleFault}
use Rattle.pf_check.specs.Meaning.Faults.{IsFaultOver}
use Rattle.pf_rules.specs.declared.rule.RuleParts.{RuleParts}

-- the forms that are told are over the rule's variables
abbrev pub IsTold : RuleParts → Option RuleFault → Type 0
IsTold r None = Unit {0}
IsTold r (Some e) = IsFaultOver (length r.vars) e

abbrev pub AreTold : List RuleParts → List (Option RuleFault) → Type 0
AreTold (r ∷ rs) (o ∷ os) = IsTold r o × AreTold rs os
AreTold _ _ = Unit {0}
