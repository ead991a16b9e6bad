use Rattle.std.proofs.Common.{◌≡◌, take}
use Rattle.pf_machine.specs.Meaning.Bytes.{packed}
use Rattle.pf_run.proofs.places.wide_bytes.Given as goal

abbrev pub invariant-pixels : goal.invariant-pixels
invariant-pixels l = l.bytes.items ≡ packed 2 (take l.pixel-index l.pixels)
