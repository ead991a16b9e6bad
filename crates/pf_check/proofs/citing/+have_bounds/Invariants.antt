use Rattle.std.proofs.Common.{length}
use Rattle.pf_check.proofs.citing.+have_bounds.Given as goal

abbrev pub decreases-have_bounds : goal.decreases-have_bounds
decreases-have_bounds l = length l.forms.now
