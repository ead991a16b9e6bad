use Rattle.std.proofs.Common.{length}
use Rattle.pf_layout.proofs.layout.+place_through.Given as goal

abbrev pub decreases-place_through : goal.decreases-place_through
decreases-place_through l = length l.positions.now
