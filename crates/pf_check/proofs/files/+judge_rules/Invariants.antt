use Rattle.std.proofs.Common.{length}
use Rattle.pf_check.proofs.files.+judge_rules.Given as goal

abbrev pub decreases-judge_rules : goal.decreases-judge_rules
decreases-judge_rules l = length l.rules.now
