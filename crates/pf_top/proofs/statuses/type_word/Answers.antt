use Rattle.std.proofs.Common.{refl, true, false}
use Rattle.std.specs.Prelude.{codes}
use Rattle.pf_ints.specs.declared.lane.Bits.TheVariants.{Eight, Sixteen, ThirtyTwo}
use Rattle.pf_terms.proofs.Lexing.{word_is}
use Rattle.pf_top.proofs.statuses.type_word.Goals as goal

pub returns-in-true-Eight : goal.returns-in-true-Eight
returns-in-true-Eight c = word_is c.args.ty true Eight (codes "i8") c.in-true-Eight.is-0 c.in-true-Eight.is-1 refl

pub returns-in-true-Sixteen : goal.returns-in-true-Sixteen
returns-in-true-Sixteen c = word_is c.args.ty true Sixteen (codes "i16") c.in-true-Sixteen.is-0 c.in-true-Sixteen.is-1 refl

pub returns-in-true-ThirtyTwo : goal.returns-in-true-ThirtyTwo
returns-in-true-ThirtyTwo c = word_is c.args.ty true ThirtyTwo (codes "i32") c.in-true-ThirtyTwo.is-0 c.in-true-ThirtyTwo.is-1 refl

pub returns-in-false-Eight : goal.returns-in-false-Eight
returns-in-false-Eight c = word_is c.args.ty false Eight (codes "u8") c.in-false-Eight.is-0 c.in-false-Eight.is-1 refl

pub returns-in-false-Sixteen : goal.returns-in-false-Sixteen
returns-in-false-Sixteen c = word_is c.args.ty false Sixteen (codes "u16") c.in-false-Sixteen.is-0 c.in-false-Sixteen.is-1 refl

pub returns-in-false-ThirtyTwo : goal.returns-in-false-ThirtyTwo
returns-in-false-ThirtyTwo c = word_is c.args.ty false ThirtyTwo (codes "u32") c.in-false-ThirtyTwo.is-0 c.in-false-ThirtyTwo.is-1 refl
