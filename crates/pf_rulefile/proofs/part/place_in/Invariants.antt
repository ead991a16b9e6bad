use Rattle.std.proofs.Common.{◌≡◌, drop}
use Rattle.pf_rulefile.specs.Meaning.Says.{place_in}
use Rattle.pf_rulefile.proofs.part.place_in.Given as goal

abbrev pub invariant-loop-n : goal.invariant-loop-n
invariant-loop-n l = place_in l.n (drop l.n l.vars) l.word ≡ place_in 0 l.vars l.word
