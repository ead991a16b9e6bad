-- Files of rules, for a target or for any.
use Rattle.std.specs.Prelude.{◌≡◌, ℕ, Bool, true, false, List, Option, Some, None}
use Rattle.pf_ints.specs.declared.target.Target.{Target}
use Rattle.pf_ints.specs.declared.target.Target.TheVariants.{Neon, Avx2, Hvx}
use Rattle.pf_outside.specs.Meaning.Formats.{Format}
use Rattle.pf_rulefile.specs.declared.fault.RuleTextFault.TheVariants.{At}
use Rattle.pf_rulefile.specs.Meaning.RuleFiles.{byte_limit, IsRules, IsRulesFault}
use Rattle.pf_rules.specs.declared.rule.Kind.{Kind}
use Rattle.pf_rules.specs.declared.rule.Kind.TheVariants.{Lift, Lower}
use Rattle.pf_rules.specs.declared.rule_file.FileParts.{FileParts}
use Rattle.pf_top.specs.declared.fault.FileFault.{FileFault}
use Rattle.pf_top.specs.declared.fault.FileFault.TheVariants.{Rules, RuleKind}

-- rules that lift are for every target, others for their own; where no target is asked for, all are right
abbrev pub is_for : Option Target → Kind → Bool
is_for None _ = true
is_for (Some _) Lift = true
is_for (Some Neon) (Lower Neon) = true
is_for (Some Avx2) (Lower Avx2) = true
is_for (Some Hvx) (Lower Hvx) = true
is_for (Some _) (Lower _) = false

-- the bytes are a file of such rules
abbrev pub IsRulesFor : Option Target → FileParts → List ℕ → Type 0
IsRulesFor t f bytes = IsRules bytes f × (is_for t f.kind ≡ true)

-- the first fault of a text of no rules, or the kind of rules that aren't right
abbrev pub BlamesRulesFor : Option Target → FileFault → List ℕ → Type 0
BlamesRulesFor t (Rules (At line kind)) bytes = IsRulesFault bytes line kind
BlamesRulesFor t (RuleKind kind) bytes = (f : FileParts) × IsRules bytes f × (f.kind ≡ kind) × (is_for t kind ≡ false)
BlamesRulesFor t _ bytes = ⊥

abbrev pub rules_for : Option Target → Format FileFault FileParts
rules_for t = record { most = byte_limit; Spells = IsRulesFor t; Blames = BlamesRulesFor t }
