use Rattle.std.proofs.Common.{◌≡◌, ◌≤◌}
use Rattle.pf_rulefile.specs.Steps.LineReads.{all_used}
use Rattle.pf_rulefile.proofs.line.all_used.Given as goal

abbrev pub invariant-vars : goal.invariant-vars
invariant-vars l = record { within : l.left ≤ 8; rest : all_used l.left l.used ≡ all_used l.count l.used }

abbrev pub decreases-vars : goal.decreases-vars
decreases-vars l = l.left
