use Rattle.std.proofs.Common.{◌≡◌, ◌++◌, drop}
use Rattle.std.specs.List.{flat_map}
use Rattle.pf_rulefile.specs.Meaning.RuleTexts.{rule_text}
use Rattle.pf_rulefile.proofs.write.write_all.Given as goal

abbrev pub invariant-loop-rule : goal.invariant-loop-rule
invariant-loop-rule l = l.text.items ++ flat_map (rule_text l.rules) (drop l.rule-index l.rules) ≡ l.fn.text.items ++ flat_map (rule_text l.rules) l.rules
