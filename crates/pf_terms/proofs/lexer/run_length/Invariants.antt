use Rattle.std.proofs.Common.{◌≡◌, ℕ, ◌<◌, get_or, true}
use Rattle.pf_text.specs.Meaning.Words.{is_name_byte}
use Rattle.pf_terms.proofs.lexer.run_length.Given as goal

abbrev pub invariant-loop-n : goal.invariant-loop-n
invariant-loop-n l = (k : ℕ) → k < l.n → is_name_byte (get_or l.text k 0) ≡ true
