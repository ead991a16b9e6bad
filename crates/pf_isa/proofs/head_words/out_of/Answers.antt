use Rattle.std.specs.Prelude.{codes}
use Rattle.pf_ints.specs.Meaning.Images.{IsPixelType}
use Rattle.pf_terms.specs.Meaning.TermTexts.{type_word}
use Rattle.pf_isa.proofs.HeadWordLaws.{only_behind}
use Rattle.pf_isa.proofs.head_words.out_of.Goals as goal

pub returns : goal.returns
returns c = only_behind IsPixelType type_word (codes ".out") _ _ _ c.in_ok-behind_word.ensures c.pixel_type_of_word.ensures
