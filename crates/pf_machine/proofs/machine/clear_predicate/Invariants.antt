use Rattle.std.proofs.Common.{◌≡◌, ◌++◌, drop, false}
use Rattle.std.specs.Prelude.{replicate}
use Rattle.pf_machine.proofs.machine.clear_predicate.Given as goal

abbrev pub invariant-loop-n : goal.invariant-loop-n
invariant-loop-n l = l.predicate ≡ replicate l.n false ++ drop l.n l.fn.predicate
