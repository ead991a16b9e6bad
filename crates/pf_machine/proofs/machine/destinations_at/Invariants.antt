use Rattle.std.proofs.Common.{◌≡◌, List, length, map, take}
use Rattle.pf_machine.specs.declared.code.Label.{Label}
use Rattle.pf_machine.specs.Steps.Places.{Finds}
use Rattle.pf_machine.specs.Meaning.Machines.{destination_of}
use Rattle.pf_machine.proofs.machine.destinations_at.Given as goal

abbrev pub invariant-loop-line : goal.invariant-loop-line
invariant-loop-line g l =
    (labels : List Label) → Finds l.places labels → l.ends.items ≡ map (destination_of labels (length l.code)) (take l.line-index l.code)
