use Rattle.std.proofs.Common.{◌≡◌, drop}
use Rattle.pf_rulefile.specs.Meaning.Says.{axiom_in}
use Rattle.pf_rulefile.proofs.field.axiom_in.Given as goal

abbrev pub invariant-loop-axiom : goal.invariant-loop-axiom
invariant-loop-axiom l = axiom_in (drop l.axiom-index l.axioms) l.word ≡ axiom_in l.axioms l.word
