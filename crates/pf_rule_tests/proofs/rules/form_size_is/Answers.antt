use Rattle.std.proofs.Common.{sym, ◌∙◌}
use Rattle.pf_rule_tests.proofs.rules.form_size_is.Goals as goal

pub form_size-requires : goal.form_size-requires
form_size-requires c = (3, sym c.is_formed.ensures ∙ c.if-is_formed.true)
