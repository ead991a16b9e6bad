use Rattle.std.proofs.Common.{◌≡◌, ◌≤◌, min, drop}
use Rattle.pf_images.specs.Meaning.Pgm.{number_from}
use Rattle.pf_images.proofs.header.capped_number.Given as goal

abbrev pub invariant-digits : goal.invariant-digits
invariant-digits l = record { below : l.number ≤ 65536; onwards : min (number_from l.number (drop l.digit-index l.digits)) 65536 ≡ min (number_from 0 l.digits) 65536 }
