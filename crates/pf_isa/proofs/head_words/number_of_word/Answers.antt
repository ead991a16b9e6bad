use Rattle.std.proofs.Common.{◌≡◌, sym, ap, ◌∙◌, refl, arith, rules}
use Rattle.std.specs.Fmt.{decimal}
use Rattle.pf_isa.proofs.HeadWordLaws.{long_number, other_bytes, value_is}
use Rattle.pf_isa.proofs.head_words.number_of_word.Goals as goal

pub returns-then-word-gt20 : goal.returns-then-word-gt20
returns-then-word-gt20 c = long_number c.args.word.now c.if-word-gt20.true

pub returns-then-not-are_digits : goal.returns-then-not-are_digits
returns-then-not-are_digits c = other_bytes c.args.word.now (sym c.are_digits.ensures ∙ c.if-not-are_digits.true)

pub returns-then-from-n : goal.returns-then-from-n
returns-then-from-n c = λ n h. let is = value_is c.args.word.now c.value_of_digits-n.result n c.value_of_digits-n.ensures.value h in absurd (omega (arith, is, h.0, c.if-from-n.true, c.from.ensures))

pub returns-then-is_printed : goal.returns-then-is_printed
returns-then-is_printed c = ((omega (arith, c.if-from-n.false, c.from.ensures), c.if-is_printed.ensures.0 refl), λ n h. value_is c.args.word.now c.value_of_digits-n.result n c.value_of_digits-n.ensures.value h)

pub returns-else-is_printed : goal.returns-else-is_printed
returns-else-is_printed c = λ n h.
    let is = value_is c.args.word.now c.value_of_digits-n.result n c.value_of_digits-n.ensures.value h in
    let never : ◌≡◌ _ _ = c.if-is_printed.ensures.1 (ap decimal (sym is) ∙ h.1) in absurd (search rules)
