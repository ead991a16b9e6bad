use Rattle.std.proofs.Common.{◌≡◌, ◌*◌, ◌++◌, drop}
use Rattle.pf_images.specs.Steps.Reading.{pairs}
use Rattle.pf_images.proofs.reading.wide_pixels.Given as goal

abbrev pub invariant-pairs : goal.invariant-pairs
invariant-pairs l = l.pixels.items ++ pairs (drop (2 * l.n) l.bytes) ≡ pairs l.bytes
