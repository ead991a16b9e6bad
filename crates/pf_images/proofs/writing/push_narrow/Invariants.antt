use Rattle.std.proofs.Common.{◌≡◌, ◌++◌, take}
use Rattle.pf_images.proofs.writing.push_narrow.Given as goal

abbrev pub invariant-pixels : goal.invariant-pixels
invariant-pixels l = l.text.items ≡ l.fn.text.items ++ take l.pixel-index l.pixels
