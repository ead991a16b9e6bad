use Rattle.pf_images.proofs.Writers.{SoFar}
use Rattle.pf_images.proofs.streams.write_whole.Given as goal

abbrev pub invariant-tries : goal.invariant-tries
invariant-tries g l = SoFar (g.W.Write.contents l.fn.to) l.bytes (g.W.Write.contents l.to) l.rest
