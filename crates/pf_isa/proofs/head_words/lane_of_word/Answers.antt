use Rattle.pf_isa.proofs.HeadWordLaws.{type_only}
use Rattle.pf_isa.proofs.head_words.lane_of_word.Goals as goal

pub returns : goal.returns
returns c = type_only c.args.word.now c.type_of_word.result c.type_of_word.ensures
