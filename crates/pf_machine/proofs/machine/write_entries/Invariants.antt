use Rattle.std.proofs.Common.{◌≡◌, ◌*◌, ◌++◌, take, drop}
use Rattle.pf_machine.specs.Meaning.Bytes.{packed}
use Rattle.pf_machine.proofs.machine.write_entries.Given as goal

abbrev pub invariant-loop-n : goal.invariant-loop-n
invariant-loop-n l = l.table ≡ packed 8 (take l.n l.entries) ++ drop (8 * l.n) l.fn.table
