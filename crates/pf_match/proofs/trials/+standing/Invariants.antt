use Rattle.std.proofs.Common.{◌≡◌, map, drop}
use Rattle.pf_bounds.specs.Meaning.TermBounds.{operands}
use Rattle.pf_match.specs.Steps.Trials.{first_in, standing}
use Rattle.pf_match.proofs.trials.+standing.Given as goal

abbrev pub invariant-loop-i : goal.invariant-loop-i
invariant-loop-i l = first_in (map (standing l.n) (drop l.i l.arg-items)) (drop l.i (operands l.term)) ≡ standing l.n l.pattern l.term
