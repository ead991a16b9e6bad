use Rattle.std.proofs.Common.{◌≡◌, length, arith, ap}
use Rattle.pf_frames.specs.Meaning.LineTables.{around}
use Rattle.pf_frames.proofs.TextLaws.{around_is}
use Rattle.pf_frames.proofs.read.jump_line.Goals as goal

pub word-line-requires : goal.word-line-requires
word-line-requires g c =
    let facts = around_is g.L.Lines.table g.L.Lines.is_op g.L.Lines.lines g.L.Lines.jumps g.met.L.Lines.laws g.met.L.Lines.texts c.args.below in
    let none : length c.new.result ≡ 0 = ap length c.new.ensures in
    let front : length c.around.result.0.now ≡ length (around g.L.Lines.jumps c.args.below).front = ap length c.around.ensures.front in
    let label : length c.as_slice.result.now ≡ length c.args.label = ap length c.as_slice.ensures.value in
    omega (arith, facts.few, c.word.ensures.size, c.as_slice.ensures.few)

pub word-requires-2 : goal.word-requires-2
word-requires-2 g c =
    let facts = around_is g.L.Lines.table g.L.Lines.is_op g.L.Lines.lines g.L.Lines.jumps g.met.L.Lines.laws g.met.L.Lines.texts c.args.below in
    let none : length c.new.result ≡ 0 = ap length c.new.ensures in
    let front : length c.around.result.0.now ≡ length (around g.L.Lines.jumps c.args.below).front = ap length c.around.ensures.front in
    let back : length c.around.result.1.now ≡ length (around g.L.Lines.jumps c.args.below).back = ap length c.around.ensures.back in
    let label : length c.as_slice.result.now ≡ length c.args.label = ap length c.as_slice.ensures.value in
    omega (arith, facts.few, c.word.ensures.size, c.word-line.ensures.size, c.as_slice.ensures.few)
