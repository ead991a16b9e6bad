use Rattle.std.proofs.Common.{arith, ◌≡◌, ap, ◌∙◌, sym}
use Rattle.std.proofs.lemmas.List.{drop_all}
use Rattle.pf_terms.specs.Meaning.Tokens.{digits_behind}
use Rattle.pf_terms.proofs.Lexing.{number_value}
use Rattle.pf_terms.proofs.lexer.digits_value.Goals as goal

pub returns : goal.returns
returns c =
    let i = c.loop-digit.invariant in
    let whole : c.loop-digit.n ≡ digits_behind 0 c.args.digits.now =
    ap (digits_behind c.loop-digit.n) (sym (drop_all c.loop-digit.digit-index c.args.digits.now (omega arith))) ∙ i.onward in
    number_value c.loop-digit.n c.loop-digit.digit-index (digits_behind 0 c.args.digits.now) i.small (omega arith) whole
