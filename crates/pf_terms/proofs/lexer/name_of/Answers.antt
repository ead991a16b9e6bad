use Rattle.std.proofs.Common.{sym, ◌∙◌}
use Rattle.pf_terms.proofs.Lexing.{name_found}
use Rattle.pf_terms.proofs.lexer.name_of.Goals as goal

pub returns-then-is_name : goal.returns-then-is_name
returns-then-is_name c = name_found c.args.run.now c.new.result (sym c.is_name.ensures ∙ c.if-is_name.true) c.new.ensures.value c.new.ensures.some.1
