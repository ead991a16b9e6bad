use Rattle.std.proofs.Common.{arith}
use Rattle.pf_images.proofs.Faults.{left_within}
use Rattle.pf_images.proofs.ReadAnswers.{image_ready, refused}
use Rattle.pf_images.proofs.reading.image_of.Goals as goal

pub new-requires : goal.new-requires
new-requires c = image_ready c.args.ty c.args.bytes.now (c.in-Ok.header, c.in-Ok.samples.now) c.in_ok-pixels-in-Ok.pixels c.requires (λ i. omega (arith, c.type_inv.bytes i)) c.in-Ok.ensures c.in_ok-pixels-in-Ok.ensures

pub placed-requires : goal.placed-requires
placed-requires c = left_within c.args.ty c.args.bytes.now c.in-Err.fault c.in-Err.ensures

pub returns-in-Err : goal.returns-in-Err
returns-in-Err c = refused c.args.ty c.args.bytes.now c.in-Err.fault c.placed.result c.in-Err.ensures c.placed.ensures
