use Rattle.std.proofs.Common.{◌≡◌, take, map}
use Rattle.pf_machine.specs.Meaning.Heads.{image_name}
use Rattle.pf_isa.proofs.write.names_of_taps.Given as goal

abbrev pub invariant-loop-image : goal.invariant-loop-image
invariant-loop-image l = l.images ≡ map image_name (take l.image-index l.image-items)
