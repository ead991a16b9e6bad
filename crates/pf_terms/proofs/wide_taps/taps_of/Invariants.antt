use Rattle.std.proofs.Common.{◌≡◌, take}
use Rattle.pf_terms.proofs.wide_taps.taps_of.Given as goal

abbrev pub invariant-loop-wide_tap : goal.invariant-loop-wide_tap
invariant-loop-wide_tap l = l.taps ≡ take l.wide_tap-index l.wide_taps
