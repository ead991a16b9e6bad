use Rattle.pf_isa.specs.Meaning.TextFaults.{texts}
use Rattle.pf_isa.proofs.HeadStepLaws.{image_goes, no_image_goes}
use Rattle.pf_isa.proofs.so_far.HeadSoFar.with_declaration.Goals as goal

pub returns-in-Some : goal.returns-in-Some
returns-in-Some c = image_goes c.args.self.head (texts c.args.words.now) c.in-Some.image c.with_image.result c.in-Some.ensures c.with_image.ensures

pub returns-in-None : goal.returns-in-None
returns-in-None c = no_image_goes c.args.self.head (texts c.args.words.now) c.with_tap_or_out.result c.in-None.ensures c.with_tap_or_out.ensures
