use Rattle.std.proofs.Common.{rules}
use Rattle.pf_ints.specs.Meaning.Lanes.{clamped}
use Rattle.pf_ints.proofs.lane.clamped_number.Goals as goal

pub returns : goal.returns
unfolding clamped
returns c = search rules
