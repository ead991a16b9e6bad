use Rattle.std.proofs.Common.{◌≡◌, ◌++◌, take, map}
use Rattle.pf_isa.specs.Meaning.Texts.{printed, image_line}
use Rattle.pf_isa.proofs.write.push_image_lines.Given as goal

abbrev pub invariant-loop-image : goal.invariant-loop-image
invariant-loop-image l = l.text.items ≡ l.fn.text.items ++ printed (map image_line (take l.image-index l.images))
