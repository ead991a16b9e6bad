use Rattle.std.proofs.Common.{◌≡◌, ℕ, ◌<◌, get_or, false}
use Rattle.pf_ints.specs.declared.lane.Bits.TheVariants.{Eight}
use Rattle.pf_terms.specs.Meaning.TermTexts.{type_word}
use Rattle.pf_terms.proofs.lexer.type_of_word.Given as goal

abbrev pub invariant-loop-ty : goal.invariant-loop-ty
invariant-loop-ty l = (k : ℕ) → k < l.ty-index → type_word (get_or l.ty-items k (record { signed = false; bits = Eight })) ≡ l.word → ⊥
