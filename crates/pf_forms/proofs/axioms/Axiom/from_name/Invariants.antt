use Rattle.std.proofs.Common.{◌≡◌, ℕ, ◌<◌, get_or}
use Rattle.pf_forms.specs.declared.axioms.Axiom.TheVariants.{AddComm}
use Rattle.pf_forms.specs.Meaning.Axioms.{axiom_name}
use Rattle.pf_forms.proofs.axioms.Axiom.from_name.Given as goal

abbrev pub invariant-loop-axiom : goal.invariant-loop-axiom
invariant-loop-axiom l = (k : ℕ) → k < l.axiom-index → axiom_name (get_or l.axiom-items k AddComm) ≡ l.name → ⊥
