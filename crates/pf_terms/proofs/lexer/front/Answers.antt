use Rattle.std.proofs.Common.{arith, inl, inr}
use Rattle.pf_terms.proofs.Lexing.{no_run_here, long_front, short_at, byte_at}
use Rattle.pf_terms.proofs.lexer.front.Goals as goal

pub returns-in-Some : goal.returns-in-Some
returns-in-Some c =
    let solid = no_run_here c.args.text.now c.run_length-run.result (omega arith) c.run_length-run.ensures.longest in
    inr (inl (long_front c.args.text.now c.in-Some.kind solid c.in-Some.ensures))

pub returns-in-Some-short_sign : goal.returns-in-Some-short_sign
returns-in-Some-short_sign c =
    let solid = no_run_here c.args.text.now c.run_length-run.result (omega arith) c.run_length-run.ensures.longest in
    short_at c.args.text.now c.in-Some-short_sign.kind c.requires solid c.in_default.ensures c.in-Some-short_sign.ensures

pub returns-in-None : goal.returns-in-None
returns-in-None c =
    let solid = no_run_here c.args.text.now c.run_length-run.result (omega arith) c.run_length-run.ensures.longest in
    byte_at c.args.text.now c.requires solid c.in_default.ensures c.in-None.ensures
