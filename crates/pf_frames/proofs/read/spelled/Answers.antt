use Rattle.std.proofs.Common.{◌≡◌, length, arith, ap, sym, ◌∙◌, length-append}
use Rattle.pf_frames.specs.Meaning.Laws.{IsTableLine}
use Rattle.pf_frames.proofs.ReadLaws.{short_at, spelled_parts}
use Rattle.pf_frames.proofs.read.spelled.Goals as goal

pub word-line-requires : goal.word-line-requires
word-line-requires g c =
    let short = short_at g.L.Lines.lines (IsTableLine g.L.Lines.table g.L.Lines.is_op) g.met.L.Lines.laws c.args.spelling.now.place c.requires.inside in
    rw (c.new.ensures, c.parts-parts.ensures.word) (omega (arith, short.bytes, length-append (g.L.Lines.lines.word c.args.spelling.now.place) (g.L.Lines.lines.pattern c.args.spelling.now.place)))

pub filled-requires : goal.filled-requires
filled-requires g c =
    let short = short_at g.L.Lines.lines (IsTableLine g.L.Lines.table g.L.Lines.is_op) g.met.L.Lines.laws c.args.spelling.now.place c.requires.inside in
    let none : length c.new.result ≡ 0 = ap length c.new.ensures in
    let word : length c.parts-parts.result.word.now ≡ length (g.L.Lines.lines.word c.args.spelling.now.place) = ap length c.parts-parts.ensures.word in
    let pattern : length c.parts-parts.result.pattern.now ≡ length (g.L.Lines.lines.pattern c.args.spelling.now.place) = ap length c.parts-parts.ensures.pattern in
    let numbers : length c.as_slice.result.now ≡ length c.args.spelling.now.numbers = ap length c.as_slice.ensures in
    record { room = omega (arith, short.bytes, c.word-line.ensures.size, c.requires.few, length-append (g.L.Lines.lines.word c.args.spelling.now.place) (g.L.Lines.lines.pattern c.args.spelling.now.place)) }

pub returns : goal.returns
returns g c =
    let parts = spelled_parts g.L.Lines.lines (IsTableLine g.L.Lines.table g.L.Lines.is_op) g.met.L.Lines.laws c.args.spelling.now c.requires.inside in
    c.filled.ensures ∙ rw (c.word-line.ensures.value, c.new.ensures, c.parts-parts.ensures.word, c.parts-parts.ensures.pattern, c.as_slice.ensures) (sym parts)
