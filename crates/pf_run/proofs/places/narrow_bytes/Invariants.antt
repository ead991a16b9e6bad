use Rattle.std.proofs.Common.{◌≡◌, take}
use Rattle.pf_machine.specs.Meaning.Bytes.{packed}
use Rattle.pf_run.proofs.places.narrow_bytes.Given as goal

abbrev pub invariant-pixels : goal.invariant-pixels
invariant-pixels l = l.bytes.items ≡ packed 1 (take l.pixel-index l.pixels)
