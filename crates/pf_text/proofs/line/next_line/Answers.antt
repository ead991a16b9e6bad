use Rattle.std.proofs.Common.{drop, sym, ◌∙◌, ap, ◌+◌, ℕ, List, ◌∷◌, length}
use Rattle.std.specs.Str.Lines.{lines}
use Rattle.pf_text.proofs.LineLaws.{first_ended, last_line, rest_is}
use Rattle.pf_text.proofs.line.next_line.Goals as goal

pub returns-in-Some-clause-lines : goal.returns-in-Some-clause-lines
returns-in-Some-clause-lines c =
    let text = c.args.text.now in
    first_ended text c.in-Some.end c.in-Some.ensures.value c.in-Some.ensures.within
    ∙ ap (λ (l : List ℕ). l ∷ lines (drop (c.in-Some.end + 1) text)) (sym c.without_return.ensures.value)
    ∙ ap (λ (us : List ℕ). c.without_return.result.now ∷ lines us) (sym (rest_is text (c.in-Some.end + 1)))

pub returns-in-None-clause-lines : goal.returns-in-None-clause-lines
returns-in-None-clause-lines c =
    let text = c.args.text.now in
    last_line text c.in-None.ensures.value c.requires ∙ ap (λ (us : List ℕ). text ∷ lines us) (sym (rest_is text (length text)))
