use Rattle.std.proofs.Common.{◌≡◌, length, Some, All}
use Rattle.pf_values.specs.Meaning.Terms.{IsWellTyped}
use Rattle.pf_rules.specs.Meaning.Instances.{instance_by}
use Rattle.pf_match.specs.Steps.Trials.{bound}
use Rattle.pf_match.proofs.TrialLaws.{Rest}
use Rattle.pf_match.proofs.trials.Trial.+fits.Given as goal

abbrev pub invariant-loop-i : goal.invariant-loop-i
invariant-loop-i l =
    record {
      alike : length l.arg-items ≡ length l.terms;
      typed : All (λ t. IsWellTyped t) l.terms;
      rest : Rest (instance_by l.self.w l.self.k (bound l.self)) l.arg-items l.terms (instance_by l.self.w l.self.k (bound l.self) l.pattern ≡ Some l.term) l.i;
    }
