use Rattle.std.proofs.Common.{◌≡◌, rules, map}
use Rattle.pf_machine.specs.Meaning.Heads.{image_name}
use Rattle.pf_isa.specs.Meaning.TextFaults.{texts}
use Rattle.pf_isa.proofs.NameLaws.{images_distinct}
use Rattle.pf_isa.proofs.HeadStepLaws.{the_tap, the_no_tap, tap_goes, no_tap_goes}
use Rattle.pf_isa.proofs.so_far.HeadSoFar.with_tap_or_out.Goals as goal

pub tap_of-requires-clause-distinct : goal.tap_of-requires-clause-distinct
tap_of-requires-clause-distinct c =
    let is : c.as_slice.result.now ≡ map image_name c.args.self.head.images = search rules in
    images_distinct c.args.self.head c.as_slice.result.now is c.requires.names

pub returns-in-Some : goal.returns-in-Some
returns-in-Some c =
    let is : c.as_slice.result.now ≡ map image_name c.args.self.head.images = search rules in
    tap_goes c.args.self.head (texts c.args.words.now) c.in-Some.tap c.with_tap.result (the_tap c.args.self.head c.as_slice.result.now (texts c.args.words.now) c.in-Some.tap is c.in-Some.ensures) c.with_tap.ensures

pub returns-in-None : goal.returns-in-None
returns-in-None c =
    let is : c.as_slice.result.now ≡ map image_name c.args.self.head.images = search rules in
    no_tap_goes c.args.self.head (texts c.args.words.now) c.with_out_words.result (the_no_tap c.args.self.head c.as_slice.result.now (texts c.args.words.now) is c.in-None.ensures) c.with_out_words.ensures
