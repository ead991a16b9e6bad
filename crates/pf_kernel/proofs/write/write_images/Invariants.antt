use Rattle.std.proofs.Common.{◌≡◌, ◌++◌, drop}
use Rattle.std.specs.List.{flat_map}
use Rattle.pf_kernel.specs.Meaning.Texts.{ended, image_text}
use Rattle.pf_kernel.proofs.write.write_images.Given as goal

abbrev pub invariant-loop-image : goal.invariant-loop-image
invariant-loop-image l = l.text.items ++ flat_map (λ d. ended (image_text d)) (drop l.image-index l.images) ≡ l.fn.text.items ++ flat_map (λ d. ended (image_text d)) l.images
