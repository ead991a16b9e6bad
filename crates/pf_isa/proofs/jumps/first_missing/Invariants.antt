use Rattle.std.proofs.Common.{◌≡◌, take, true, All}
use Rattle.pf_isa.specs.Steps.CodeReading.{has_name}
use Rattle.pf_isa.proofs.jumps.first_missing.Given as goal

abbrev pub invariant-loop-jump : goal.invariant-loop-jump
invariant-loop-jump l = All (λ j. has_name l.names j.label ≡ true) (take l.jump-index l.jumps)
