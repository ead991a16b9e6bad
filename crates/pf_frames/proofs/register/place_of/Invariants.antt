use Rattle.std.proofs.Common.{◌≡◌, ℕ, ◌<◌, [], get_or}
use Rattle.pf_frames.specs.Meaning.Frames.{register_words}
use Rattle.pf_frames.proofs.register.place_of.Given as goal

abbrev pub invariant-loop-n : goal.invariant-loop-n
invariant-loop-n l = (k : ℕ) → k < l.n → get_or (register_words l.mark) k [] ≡ l.word → ⊥
