use Rattle.std.proofs.Common.{◌≡◌, ◌*◌, ◌<◌, take, All}
use Rattle.pf_machine.specs.Meaning.Bytes.{packed}
use Rattle.pf_run.proofs.output.wide_pixels.Given as goal

abbrev pub invariant-pairs : goal.invariant-pairs
invariant-pairs l = record {
  spelled : packed 2 l.pixels.items ≡ take (2 * l.n) l.bytes;
  small : All (λ n. n < 65536) l.pixels.items;
}
