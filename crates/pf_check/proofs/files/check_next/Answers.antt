use Rattle.std.proofs.Common.{◌≡◌, ◌∙◌, subst}
use Rattle.pf_rules.specs.Meaning.Rules.{Holds}
use Rattle.pf_check.specs.Meaning.Accepts.{Accepted}
use Rattle.pf_check.proofs.files.check_next.Goals as goal

pub returns-in-Ok-check_rule-clause-outcome : goal.returns-in-Ok-check_rule-clause-outcome
returns-in-Ok-check_rule-clause-outcome c =
    (subst (λ r. Accepted r c.args.kind c.args.earlier.now) c.in-Ok.ensures c.in-Ok-check_rule.ensures.accepted, subst Holds (c.in-Ok-check_rule.ensures.rule ∙ c.in-Ok.ensures) c.rule-rule.ensures.kept.holds)
