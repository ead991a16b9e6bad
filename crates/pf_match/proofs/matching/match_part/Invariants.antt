use Rattle.std.proofs.Common.{◌≡◌, Some}
use Rattle.pf_bounds.specs.declared.ranges.Ranges.{Ranges}
use Rattle.pf_bounds.specs.Meaning.KeptBounds.{marks}
use Rattle.pf_match.proofs.MatchLaws.{NoneBefore}
use Rattle.pf_match.proofs.matching.match_part.Given as goal

abbrev pub invariant-loop-pair : goal.invariant-loop-pair
invariant-loop-pair l = (ranges : Ranges) → marks ranges l.part.term.now ≡ Some l.part.bounds.now → NoneBefore l.parts ranges l.part.term.now l.pair-items l.pair-index
