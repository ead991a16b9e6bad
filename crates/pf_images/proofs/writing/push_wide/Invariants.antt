use Rattle.std.proofs.Common.{◌≡◌, ◌++◌, take}
use Rattle.std.specs.List.{flat_map}
use Rattle.std.specs.Int.{w16, to_be_bytes}
use Rattle.pf_images.proofs.writing.push_wide.Given as goal

abbrev pub invariant-pixels : goal.invariant-pixels
invariant-pixels l = l.text.items ≡ l.fn.text.items ++ flat_map (to_be_bytes w16) (take l.pixel-index l.pixels)
