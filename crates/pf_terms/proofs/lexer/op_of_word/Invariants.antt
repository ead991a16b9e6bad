use Rattle.std.proofs.Common.{◌≡◌, ℕ, ◌<◌, get_or}
use Rattle.pf_values.specs.declared.op.Op.TheVariants.{Min}
use Rattle.pf_values.specs.Meaning.Spellings.{op_word}
use Rattle.pf_terms.proofs.lexer.op_of_word.Given as goal

abbrev pub invariant-loop-op : goal.invariant-loop-op
invariant-loop-op l = (k : ℕ) → k < l.op-index → op_word (get_or l.op-items k Min) ≡ l.word → ⊥
