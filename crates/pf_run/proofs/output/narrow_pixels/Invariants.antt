use Rattle.std.proofs.Common.{◌≡◌, take}
use Rattle.pf_run.proofs.output.narrow_pixels.Given as goal

abbrev pub invariant-bytes : goal.invariant-bytes
invariant-bytes l = l.pixels.items ≡ take l.byte-index l.bytes
