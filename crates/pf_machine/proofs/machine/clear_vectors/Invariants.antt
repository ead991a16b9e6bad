use Rattle.std.proofs.Common.{◌≡◌, ◌++◌, drop}
use Rattle.std.specs.Prelude.{replicate}
use Rattle.pf_machine.proofs.machine.clear_vectors.Given as goal

abbrev pub invariant-loop-n : goal.invariant-loop-n
invariant-loop-n l = l.vectors ≡ replicate l.n l.zeros ++ drop l.n l.fn.vectors
