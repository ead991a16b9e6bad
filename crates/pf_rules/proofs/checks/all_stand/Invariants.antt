use Rattle.std.proofs.Common.{◌≡◌}
use Rattle.pf_rules.specs.Meaning.Counts.{all_stand}
use Rattle.pf_rules.proofs.checks.all_stand.Given as goal

abbrev pub invariant-loop-n : goal.invariant-loop-n
invariant-loop-n l = all_stand l.n l.pattern ≡ all_stand l.count l.pattern

abbrev pub decreases-loop-n : goal.decreases-loop-n
decreases-loop-n l = l.n
