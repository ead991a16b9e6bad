use Rattle.std.proofs.Common.{◌≡◌, drop}
use Rattle.pf_rulefile.specs.Steps.Fronts.{from_solid}
use Rattle.pf_rulefile.proofs.token.from_solid.Given as goal

abbrev pub invariant-loop-i : goal.invariant-loop-i
invariant-loop-i l = from_solid (drop l.i l.text) ≡ from_solid l.text
