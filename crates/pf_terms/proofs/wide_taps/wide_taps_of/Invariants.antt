use Rattle.std.proofs.Common.{◌≡◌, take}
use Rattle.pf_terms.proofs.wide_taps.wide_taps_of.Given as goal

abbrev pub invariant-loop-tap : goal.invariant-loop-tap
invariant-loop-tap l = l.wide_taps ≡ take l.tap-index l.taps
