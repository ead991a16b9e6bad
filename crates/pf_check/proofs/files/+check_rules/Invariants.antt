use Rattle.std.proofs.Common.{length}
use Rattle.pf_check.proofs.files.+check_rules.Given as goal

abbrev pub decreases-check_rules : goal.decreases-check_rules
decreases-check_rules l = length l.rules.now
