use Rattle.std.proofs.Common.{◌∙◌, ap}
use Rattle.pf_rules.specs.Meaning.Rules.{is_rule}
use Rattle.pf_rules.proofs.rule.RuleDuplicate.copy.Goals as goal

pub invariant_of-result : goal.invariant_of-result
invariant_of-result c = ap is_rule c.in_ok-copy.ensures ∙ c.self.invariant
