use Rattle.std.proofs.Common.{◌≡◌, drop, map}
use Rattle.pf_values.specs.Meaning.Terms.{all_true}
use Rattle.pf_rules.specs.Meaning.Counts.{is_op_free}
use Rattle.pf_rules.proofs.counts.+is_op_free.Given as goal

abbrev pub invariant-loop-arg : goal.invariant-loop-arg
invariant-loop-arg l = all_true (map is_op_free (drop l.arg-index l.arg-items)) ≡ is_op_free l.pattern
