use Rattle.std.proofs.Common.{◌≡◌, ◌+◌, drop, false}
use Rattle.pf_images.specs.Steps.Reading.{blank_count}
use Rattle.pf_images.proofs.header.blank_count.Given as goal

abbrev pub invariant-bytes : goal.invariant-bytes
invariant-bytes l = l.place + blank_count l.is_inside (drop l.place l.bytes) ≡ blank_count false l.bytes
