use Rattle.std.proofs.Common.{◌≡◌}
use Rattle.std.specs.Prelude.{replicate}
use Rattle.pf_machine.proofs.machine.zero_vectors.Given as goal

abbrev pub invariant-loop : goal.invariant-loop
invariant-loop l = l.vectors ≡ replicate l.counter (replicate l.size 0)
