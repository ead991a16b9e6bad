use Rattle.std.proofs.Common.{◌≡◌, ◌++◌, drop, map}
use Rattle.pf_outside.specs.Meaning.Reports.{line_of}
use Rattle.pf_outside.specs.Steps.LineSteps.{piece_text}
use Rattle.pf_outside.proofs.report.line_of.Given as goal

abbrev pub invariant-pieces : goal.invariant-pieces
invariant-pieces l = l.line.items ++ line_of (map piece_text (drop l.piece-index l.pieces)) ≡ line_of (map piece_text l.pieces)
