use Rattle.std.proofs.Common.{rules, arith}
use Rattle.std.proofs.lemmas.Int.{to_z-of_z}
use Rattle.pf_terms.proofs.Lexing.{not_digits, number_is}
use Rattle.pf_terms.proofs.lexer.number_of.Goals as goal

pub returns-then-digit_length-digits : goal.returns-then-digit_length-digits
returns-then-digit_length-digits c = λ n h. not_digits c.args.digits.now c.digit_length.result n c.if-digit_length-digits.true c.digit_length.ensures.longest h

pub returns : goal.returns
returns c = number_is c.args.digits.now c.digit_length.result _ c.digit_length.ensures.bytes (omega arith) (omega arith) (omega arith) (search (rules, to_z-of_z))
