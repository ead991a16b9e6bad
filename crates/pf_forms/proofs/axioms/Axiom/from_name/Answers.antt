use Rattle.std.proofs.Common.{◌∙◌, ap, arith}
use Rattle.pf_forms.specs.Meaning.Axioms.{axiom_name}
use Rattle.pf_forms.proofs.AxiomPlaces.{place_of}
use Rattle.pf_forms.proofs.axioms.Axiom.from_name.Goals as goal

pub returns : goal.returns
returns c = λ a e. (let p = place_of a in c.loop-axiom.invariant p.0 (omega arith) (ap axiom_name p.2 ∙ e))
