use Rattle.std.proofs.Common.{◌≡◌, drop}
use Rattle.pf_rules.specs.Meaning.Files.{are_rules}
use Rattle.pf_rules.proofs.rule_file.are_rules.Given as goal

abbrev pub invariant-loop-n : goal.invariant-loop-n
invariant-loop-n l = are_rules l.allowed l.kind l.n (drop l.n l.rules) ≡ are_rules l.allowed l.kind 0 l.rules
