use Rattle.std.proofs.Common.{sym, ◌∙◌}
use Rattle.pf_isa.proofs.HeadWordLaws.{name_only}
use Rattle.pf_isa.proofs.head_words.name_of_word.Goals as goal

pub returns-then-is_name : goal.returns-then-is_name
returns-then-is_name c = name_only c.args.word.now c.new.result (sym c.is_name.ensures ∙ c.if-is_name.true) c.new.ensures.value c.new.ensures.some.1
