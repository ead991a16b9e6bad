use Rattle.pf_frames.specs.Meaning.Laws.{IsTableLine}
use Rattle.pf_frames.proofs.ReadLaws.{few_marks}
use Rattle.pf_frames.proofs.read.read_at.Goals as goal

pub matched-requires : goal.matched-requires
matched-requires g c = rw c.parts-parts.ensures.pattern (few_marks g.L.Lines.lines (IsTableLine g.L.Lines.table g.L.Lines.is_op) g.met.L.Lines.laws c.args.place c.requires)
