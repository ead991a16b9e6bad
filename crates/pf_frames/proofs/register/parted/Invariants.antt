use Rattle.std.proofs.Common.{◌≡◌, ◌++◌, drop, take}
use Rattle.pf_frames.specs.Steps.Reading.{leading_word, behind_word}
use Rattle.pf_frames.proofs.register.parted.Given as goal

abbrev pub invariant-loop-i : goal.invariant-loop-i
invariant-loop-i l =
    record { word : take l.i l.text ++ leading_word (drop l.i l.text) ≡ leading_word l.text; rest : behind_word (drop l.i l.text) ≡ behind_word l.text }
