use Rattle.std.proofs.Common.{arith}
use Rattle.pf_images.proofs.Pairs.{pairs_done}
use Rattle.pf_images.proofs.reading.wide_pixels.Goals as goal

pub returns : goal.returns
returns c = pairs_done _ c.pairs.n _ _ (omega arith) c.pairs.invariant
