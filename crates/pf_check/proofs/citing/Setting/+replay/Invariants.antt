use Rattle.std.proofs.Common.{length}
use Rattle.pf_check.proofs.citing.Setting.+replay.Given as goal

abbrev pub decreases-replay : goal.decreases-replay
decreases-replay l = length l.steps.now
