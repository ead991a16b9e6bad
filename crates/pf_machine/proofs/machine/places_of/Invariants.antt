use Rattle.std.proofs.Common.{take}
use Rattle.pf_machine.specs.Steps.Places.{Finds}
use Rattle.pf_machine.proofs.machine.places_of.Given as goal

abbrev pub invariant-loop-label : goal.invariant-loop-label
invariant-loop-label l = Finds l.places (take l.label-index l.labels)
