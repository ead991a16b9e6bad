use Rattle.std.proofs.Common.{◌≡◌, ◌+◌, drop}
use Rattle.pf_images.specs.Steps.Reading.{digit_count}
use Rattle.pf_images.proofs.header.digit_count.Given as goal

abbrev pub invariant-bytes : goal.invariant-bytes
invariant-bytes l = l.place + digit_count (drop l.place l.bytes) ≡ digit_count l.bytes
