use Rattle.pf_terms.proofs.Lexing.{no_number, no_type}
use Rattle.pf_terms.proofs.lexer.typed_of.Goals as goal

pub returns-in_err-n : goal.returns-in_err-n
returns-in_err-n c =
    let e = c.digit_length-count.ensures in
    rw c.from_residual.ensures (no_number c.args.run.now c.digit_length-count.result e.within e.bytes e.longest c.in_err-n.ensures)

pub returns-in_err-ty : goal.returns-in_err-ty
returns-in_err-ty c =
    let e = c.digit_length-count.ensures in
    rw c.from_residual-in_err-ty.ensures (no_type c.args.run.now c.digit_length-count.result e.within e.bytes e.longest c.in_err-ty.ensures)
