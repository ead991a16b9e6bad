use Rattle.std.proofs.Common.{length, refl}
use Rattle.std.proofs.lemmas.Option.{slice_get_read}
use Rattle.pf_blocks.proofs.MarkLaws.{closed_marked}
use Rattle.pf_blocks.proofs.needed.visit.Goals as goal

pub returns-clause-closed : goal.returns-clause-closed
returns-clause-closed c =
    closed_marked c.args.items.now c.args.n c.index-items-n.result c.args.marks.now c.mark.new.marks
    (slice_get_read c.args.items.now (length c.args.items.now) c.args.n c.index-items-n.result refl c.requires.inside c.index-items-n.is)
    c.mark.ensures.marked c.mark.ensures.kept c.mark.ensures.later c.requires.closed
