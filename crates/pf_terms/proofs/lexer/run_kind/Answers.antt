use Rattle.std.proofs.Common.{◌≡◌, refl, false}
use Rattle.std.specs.Prelude.{codes}
use Rattle.pf_text.specs.Meaning.Words.{is_name}
use Rattle.pf_terms.proofs.Lexing.{other_run, not_word}
use Rattle.pf_terms.proofs.lexer.run_kind.Goals as goal

pub returns-in-None : goal.returns-in-None
returns-in-None c =
    other_run c.args.run.now c.in_default.ensures c.in_default-op_of_word.ensures c.in_default-line_of_word.ensures
    (not_word c.args.run.now c.as_slice.result.now (codes "select") c.eq.result c.eq.ensures c.if-eq.false c.as_slice.ensures refl)
    (λ h. let no : is_name c.args.run.now ≡ false = c.in_default-name_of.ensures in absurd (cc)) c.in_default-number_of.ensures c.in_default-typed_of.ensures c.in-None.ensures
