use Rattle.std.proofs.Common.{ap, ◌∙◌, ◌++◌}
use Rattle.pf_rules.specs.declared.rule.RuleParts.{RuleParts}
use Rattle.pf_rulefile.specs.Meaning.RuleTexts.{rule_text}
use Rattle.pf_rulefile.proofs.WriteLaws.{written_next}
use Rattle.pf_rulefile.proofs.write.write_all.Goals as goal

pub loop-rule-preserved : goal.loop-rule-preserved
loop-rule-preserved c =
    written_next (rule_text c.args.rules.now) c.args.rules.now c.loop-rule.rule-index c.rule-item.result c.loop-rule.text.items c.write_rule.new.text.items _
    c.loop-rule-test.true c.rule-item.is (c.in_ok-write_rule.ensures ∙ ap (λ (r : RuleParts). c.loop-rule.text.items ++ rule_text c.args.rules.now r) c.parts.ensures.value) c.loop-rule.invariant
