use Rattle.std.proofs.Common.{arith}
use Rattle.pf_terms.proofs.Lexing.{too_few, no_long_type, long_is, long_typed}
use Rattle.pf_terms.proofs.lexer.long_of.Goals as goal

pub returns-then-count-lt11 : goal.returns-then-count-lt11
returns-then-count-lt11 c =
    let e = c.digit_length-count.ensures in
    too_few c.args.run.now c.digit_length-count.result e.within e.bytes e.longest c.if-count-lt11.true

pub returns-then-run-count : goal.returns-then-run-count
returns-then-run-count c =
    let e = c.digit_length-count.ensures in
    long_is c.args.run.now c.digit_length-count.result e.bytes e.within (omega arith) (omega arith)

pub returns-in_err-ty : goal.returns-in_err-ty
returns-in_err-ty c =
    let e = c.digit_length-count.ensures in
    rw c.from_residual.ensures (no_long_type c.args.run.now c.digit_length-count.result (omega arith) e.bytes e.longest c.in_err-ty.ensures)

pub returns : goal.returns
returns c =
    let e = c.digit_length-count.ensures in
    long_typed c.args.run.now c.digit_length-count.result c.in_ok-ty.ty e.within e.bytes (omega arith) c.in_ok-ty.ensures
