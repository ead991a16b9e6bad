use Rattle.std.proofs.Common.{arith}
use Rattle.pf_machine.specs.declared.registers.Reg.TheVariants.{K}
use Rattle.pf_tables.proofs.effects.write_shifted.Goals as goal

pub content-a-requires-clause-within : goal.content-a-requires-clause-within
content-a-requires-clause-within g c = let there = rw c.in-Shift.is at c.requires.there in there 0 K (omega arith)

pub content-a-requires-in-ByConstant-clause-within : goal.content-a-requires-in-ByConstant-clause-within
content-a-requires-in-ByConstant-clause-within g c = let there = rw c.in-ByConstant.is at c.requires.there in there 0 K (omega arith)

pub content-left-requires-clause-within : goal.content-left-requires-clause-within
content-left-requires-clause-within g c = let there = rw c.in-JoinedByConstant.is at c.requires.there in there 0 K (omega arith)

pub content-right-requires-clause-within : goal.content-right-requires-clause-within
content-right-requires-clause-within g c = let there = rw c.in-JoinedByConstant.is at c.requires.there in there 1 K (omega arith)

pub content-left-requires-in-Choose-clause-within : goal.content-left-requires-in-Choose-clause-within
content-left-requires-in-Choose-clause-within g c = let there = rw c.in-Choose.is at c.requires.there in there 0 K (omega arith)

pub content-right-requires-in-Choose-clause-within : goal.content-right-requires-in-Choose-clause-within
content-right-requires-in-Choose-clause-within g c = let there = rw c.in-Choose.is at c.requires.there in there 1 K (omega arith)
