use Rattle.std.proofs.Common.{◌≡◌, take}
use Rattle.pf_match.specs.Meaning.Candidates.{types_at}
use Rattle.pf_match.proofs.roots.types_at.Given as goal

abbrev pub invariant-loop-pair : goal.invariant-loop-pair
invariant-loop-pair l = l.types ≡ types_at l.parts (take l.pair-index l.pairs)
