use Rattle.std.proofs.Common.{sym, ◌∙◌}
use Rattle.pf_rulefile.proofs.NameLaws.{name_made}
use Rattle.pf_rulefile.proofs.field.name_of.Goals as goal

pub returns-then-is_rule_name : goal.returns-then-is_rule_name
returns-then-is_rule_name c = name_made c.args.word.now c.new.result (sym c.is_rule_name.ensures ∙ c.if-is_rule_name.true) c.new.ensures.value c.new.ensures.some.1
