use Rattle.pf_match.specs.Steps.Trials.{bound, AreTermsOf}
use Rattle.pf_match.proofs.trials.Trial.terms.Given as goal

abbrev pub invariant-loop-n : goal.invariant-loop-n
invariant-loop-n l = AreTermsOf (bound l.self) l.n l.terms
