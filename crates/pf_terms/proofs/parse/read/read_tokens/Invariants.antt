use Rattle.pf_terms.specs.Meaning.Tokens.{kinds}
use Rattle.pf_terms.proofs.Places.{Keeps}
use Rattle.pf_terms.proofs.parse.read.read_tokens.Given as goal

abbrev pub invariant-loop-n : goal.invariant-loop-n
invariant-loop-n l = Keeps (kinds l.tokens) l.n l.reader
