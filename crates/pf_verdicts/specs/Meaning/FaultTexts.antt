-- Why a rule is refused, as a text.
use Rattle.std.specs.Prelude.{ℕ, Bool, true, false, List, [], ◌++◌, Option, Some, None, codes, decimal, map, slice_get}
use Rattle.std.specs.Fmt.{signed_decimal}
use Rattle.pf_axioms.specs.declared.fault.StepFault.{StepFault}
use Rattle.pf_axioms.specs.declared.fault.StepFault.TheVariants as step
use Rattle.pf_check.specs.declared.fault.RuleFault.{RuleFault}
use Rattle.pf_check.specs.declared.fault.RuleFault.TheVariants.{Types, Range, Heavier, Repeats, Immediate, Cites, TooLarge, Step, Apart, Memory}
use Rattle.pf_forms.specs.Meaning.FormTexts.{form_text}
use Rattle.pf_forms.specs.Meaning.Shapes.{shape}
use Rattle.pf_ints.specs.declared.interval.Interval.{Interval}
use Rattle.pf_rulefile.specs.Meaning.RuleTexts.{path_text}
use Rattle.pf_rules.specs.declared.rule.VarDecl.{VarDecl}

abbrev pub side_word : Bool → List ℕ
side_word true = codes "left "
side_word false = codes "right "

-- a node of a side, by its path
abbrev pub place_text : Bool → List ℕ → List ℕ
place_text left path = side_word left ++ path_text path

abbrev pub weights_text : ℕ → ℕ → List ℕ
weights_text left right = (codes "left weighs " ++ decimal left) ++ (codes ", right weighs " ++ decimal right)

abbrev pub at_text : ℕ → ℕ → List ℕ
at_text w k = codes " at width " ++ (decimal w ++ (codes " shift " ++ decimal k))

abbrev pub declared_name : Option VarDecl → List ℕ
declared_name None = []
declared_name (Some d) = d.name

abbrev pub var_name : List VarDecl → ℕ → List ℕ
var_name vars n = declared_name (slice_get vars n)

-- the variable, or else the shift
abbrev pub ranged_name : List VarDecl → Option ℕ → List ℕ
ranged_name vars None = codes "k"
ranged_name vars (Some n) = var_name vars n

abbrev pub var_names : List VarDecl → List (List ℕ)
var_names vars = map (λ d. d.name) vars

abbrev pub interval_text : Interval → List ℕ
interval_text i = signed_decimal i.lo ++ (codes " to " ++ signed_decimal i.hi)

abbrev pub step_fault_text : StepFault → List ℕ
step_fault_text step.NoMatch = codes "no match"
step_fault_text step.TooWide = codes "too wide"
step_fault_text (step.NotGranted got) = codes "not granted, got " ++ interval_text got
step_fault_text step.Memory = codes "out of memory"

abbrev pub at_step : ℕ → ℕ → ℕ → List ℕ
at_step n w k = codes "step " ++ (decimal n ++ (at_text w k ++ codes ": "))

abbrev pub fault_text : List VarDecl → RuleFault → List ℕ
fault_text vars (Types left path) = codes "types " ++ place_text left path
fault_text vars (Range var w k) = codes "range " ++ (ranged_name vars var ++ at_text w k)
fault_text vars (Heavier left right) = weights_text left right
fault_text vars (Repeats var) = codes "repeats " ++ var_name vars var
fault_text vars (Immediate left path amount) = codes "immediate " ++ (place_text left path ++ (codes " is " ++ signed_decimal amount))
fault_text vars (Cites n) = codes "step " ++ (decimal n ++ codes " cites a refused rule")
fault_text vars (Step n w k fault) = at_step n w k ++ step_fault_text fault
fault_text vars (TooLarge n w k count) = at_step n w k ++ (codes "too large, " ++ decimal count)
fault_text vars (Apart w k left right) =
    codes "apart" ++ (at_text w k ++ (codes ": " ++ (form_text (var_names vars) (shape left) ++ (codes ", " ++ form_text (var_names vars) (shape right)))))
fault_text vars Memory = codes "out of memory"
