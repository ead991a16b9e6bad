use Rattle.std.proofs.Common.{◌≡◌, drop}
use Rattle.pf_rulefile.specs.Meaning.Says.{rule_place}
use Rattle.pf_rulefile.proofs.field.rule_place.Given as goal

abbrev pub invariant-loop-n : goal.invariant-loop-n
invariant-loop-n l = rule_place l.n (drop l.n l.rules) l.name ≡ rule_place 0 l.rules l.name
