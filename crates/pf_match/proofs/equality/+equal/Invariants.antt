use Rattle.std.proofs.Common.{◌≡◌, length, Some}
use Rattle.pf_match.proofs.TrialLaws.{Rest}
use Rattle.pf_match.proofs.equality.+equal.Given as goal

abbrev pub invariant-loop-n : goal.invariant-loop-n
invariant-loop-n l = record { alike : length l.arg-items ≡ length l.terms; rest : Rest Some l.arg-items l.terms (l.a ≡ l.b) l.n }
