use Rattle.std.proofs.Common.{arith}
use Rattle.pf_terms.proofs.Lexing.{call_place}
use Rattle.pf_terms.proofs.lexer.op_of_word.Goals as goal

pub returns : goal.returns
returns c = λ op h. call_place op c.args.word.now (λ k below. c.loop-op.invariant k (omega arith)) h
