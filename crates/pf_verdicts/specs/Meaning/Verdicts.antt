-- What is said of the rules of a file: a line for each.
use Rattle.std.specs.Prelude.{◌≡◌, ◌↔◌, ℕ, true, List, [], ◌∷◌, ◌++◌, Option, Some, None, codes, All}
use Rattle.pf_check.specs.declared.fault.RuleFault.{RuleFault}
use Rattle.pf_check.specs.Meaning.Files.{AreOutcomes}
use Rattle.pf_outside.specs.Meaning.Reports.{line_end}
use Rattle.pf_rules.specs.declared.rule.RuleParts.{RuleParts}
use Rattle.pf_rules.specs.declared.rule_file.FileParts.{FileParts}
use Rattle.pf_verdicts.specs.declared.verdicts.Verdicts.{Verdicts}
use Rattle.pf_verdicts.specs.Meaning.FaultTexts.{fault_text}

-- `ok NAME` of an accepted rule, `bad NAME: FAULT` of another
abbrev pub verdict_line : RuleParts → Option RuleFault → List ℕ
verdict_line r None = codes "ok " ++ (r.name ++ line_end)
verdict_line r (Some e) = codes "bad " ++ (r.name ++ (codes ": " ++ (fault_text r.vars e ++ line_end)))

abbrev pub verdict_lines : List RuleParts → List (Option RuleFault) → List (List ℕ)
verdict_lines [] _ = []
verdict_lines (r ∷ rs) [] = []
verdict_lines (r ∷ rs) (o ∷ os) = verdict_line r o ∷ verdict_lines rs os

-- the rules are checked in order, each with those before it that were accepted; these are the lines that say so, and whether none is refused
abbrev pub AreVerdicts : FileParts → Verdicts → Type 0
AreVerdicts f v = (os : List (Option RuleFault)) × AreOutcomes f.kind [] f.rules os × (v.lines ≡ verdict_lines f.rules os) × ((v.accepted ≡ true) ↔ All (λ o. o ≡ None) os)
