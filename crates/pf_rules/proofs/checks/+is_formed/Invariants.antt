use Rattle.std.proofs.Common.{◌≡◌, drop, map}
use Rattle.pf_values.specs.Meaning.Terms.{all_true}
use Rattle.pf_rules.specs.Meaning.Counts.{is_formed}
use Rattle.pf_rules.proofs.checks.+is_formed.Given as goal

abbrev pub invariant-loop-arg : goal.invariant-loop-arg
invariant-loop-arg l = all_true (map (is_formed l.vars) (drop l.arg-index l.arg-items)) ≡ is_formed l.vars l.pattern

abbrev pub invariant-loop-arg-2 : goal.invariant-loop-arg-2
invariant-loop-arg-2 l = all_true (map (is_formed l.vars) (drop l.arg-index l.arg-items)) ≡ is_formed l.vars l.pattern
