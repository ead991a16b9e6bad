use Rattle.std.proofs.Common.{refl, sym}
use Rattle.pf_isa.specs.Steps.HeadWords.{is_space}
use Rattle.pf_isa.proofs.HeadWordLaws.{part_in_front, parts_alone}
use Rattle.pf_isa.proofs.words.first_word.Goals as goal

pub returns-in-Some-clause-split : goal.returns-in-Some-clause-split
returns-in-Some-clause-split c = part_in_front c.args.line.now c.in-Some.end _ c.in-Some.ensures.value refl

pub returns-in-None-clause-split : goal.returns-in-None-clause-split
returns-in-None-clause-split c = parts_alone is_space c.args.line.now (sym c.in-None.ensures.value)
