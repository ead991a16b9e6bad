use Rattle.std.proofs.Common.{◌≡◌, drop, map}
use Rattle.pf_values.specs.Meaning.Terms.{all_true}
use Rattle.pf_rules.specs.Meaning.Rules.{is_free_part}
use Rattle.pf_rules.proofs.checks.are_free.Given as goal

abbrev pub invariant-loop-part : goal.invariant-loop-part
invariant-loop-part l = all_true (map is_free_part (drop l.part-index l.parts)) ≡ all_true (map is_free_part l.parts)
