use Rattle.std.proofs.Common.{arith}
use Rattle.pf_images.proofs.ReadAnswers.{decided}
use Rattle.pf_images.proofs.reading.read_pgm.Goals as goal

pub returns : goal.returns
returns c = decided c.args.ty c.args.bytes.now c.image_of.result c.requires (λ i. omega (arith, c.type_inv.bytes i)) c.image_of.ensures
