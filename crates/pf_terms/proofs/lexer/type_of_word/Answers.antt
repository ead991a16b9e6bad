use Rattle.std.proofs.Common.{arith, refl}
use Rattle.pf_terms.proofs.Lexing.{type_place}
use Rattle.pf_terms.proofs.lexer.type_of_word.Goals as goal

pub returns : goal.returns
returns c = λ t. type_place t c.args.word.now _ refl (λ k below. c.loop-ty.invariant k (omega arith))
