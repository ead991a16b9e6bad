use Rattle.std.proofs.Common.{◌≡◌, map, take}
use Rattle.pf_values.specs.Meaning.Kernels.{tap_value}
use Rattle.pf_run.proofs.eval.fill_taps.Given as goal

abbrev pub invariant-taps : goal.invariant-taps
invariant-taps l = l.numbers.items ≡ map (tap_value l.taps l.planes l.x l.y) (take l.tap-index l.taps)
