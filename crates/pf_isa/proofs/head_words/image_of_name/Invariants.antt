use Rattle.std.proofs.Common.{◌≢◌, ℕ, ◌<◌, get_or}
use Rattle.pf_values.specs.Meaning.NamedTerms.{no_image}
use Rattle.pf_isa.proofs.head_words.image_of_name.Given as goal

abbrev pub invariant-loop-n : goal.invariant-loop-n
invariant-loop-n l = (k : ℕ) → k < l.n → (get_or l.images k no_image).name ≢ l.name
