use Rattle.std.proofs.Common.{◌≡◌, length, arith, sym}
use Rattle.pf_frames.specs.Meaning.Frames.{register_words}
use Rattle.pf_frames.proofs.OperandLaws.{nine_words, word_place_nowhere}
use Rattle.pf_frames.proofs.register.place_of.Goals as goal

pub returns : goal.returns
returns c =
    let nine : length (register_words c.args.mark) ≡ 9 = nine_words c.args.mark (omega arith) in
    sym (word_place_nowhere (register_words c.args.mark) c.args.word.now (λ k less. c.loop-n.invariant k (omega arith)))
