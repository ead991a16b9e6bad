use Rattle.std.proofs.Common.{◌≡◌, length}
use Rattle.pf_terms.specs.Steps.Parsing.{finished}
use Rattle.pf_terms.proofs.parse.reader.finish.Given as goal

abbrev pub invariant-loop-symbol : goal.invariant-loop-symbol
invariant-loop-symbol l = finished l.symbols l.build ≡ finished l.fn.symbols l.fn.build

abbrev pub decreases-loop-symbol : goal.decreases-loop-symbol
decreases-loop-symbol l = length l.symbols
