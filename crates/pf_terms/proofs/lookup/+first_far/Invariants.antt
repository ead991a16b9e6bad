use Rattle.std.proofs.Common.{◌≡◌, drop, map}
use Rattle.pf_terms.specs.Meaning.Meanings.{first_far, first_some}
use Rattle.pf_terms.proofs.lookup.+first_far.Given as goal

abbrev pub invariant-loop-arg : goal.invariant-loop-arg
invariant-loop-arg l = first_some (map first_far (drop l.arg-index l.arg-items)) ≡ first_some (map first_far l.arg-items)
