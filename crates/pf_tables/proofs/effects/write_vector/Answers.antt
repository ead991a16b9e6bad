use Rattle.std.proofs.Common.{arith}
use Rattle.pf_machine.specs.declared.registers.Reg.TheVariants.{K}
use Rattle.pf_tables.proofs.effects.write_vector.Goals as goal

pub content-requires-clause-within : goal.content-requires-clause-within
content-requires-clause-within g c = let there = rw c.in-Copy.is at c.requires.there in there 0 K (omega arith)

pub content-kept-requires-clause-within : goal.content-kept-requires-clause-within
content-kept-requires-clause-within g c = let there = rw c.in-Upper.is at c.requires.there in there 0 K (omega arith)

pub content-a-requires-clause-within : goal.content-a-requires-clause-within
content-a-requires-clause-within g c = let there = rw c.in-Upper.is at c.requires.there in there 1 K (omega arith)

pub content-kept-requires-in-UpperShift-clause-within : goal.content-kept-requires-in-UpperShift-clause-within
content-kept-requires-in-UpperShift-clause-within g c = let there = rw c.in-UpperShift.is at c.requires.there in there 0 K (omega arith)

pub content-a-requires-in-UpperShift-clause-within : goal.content-a-requires-in-UpperShift-clause-within
content-a-requires-in-UpperShift-clause-within g c = let there = rw c.in-UpperShift.is at c.requires.there in there 1 K (omega arith)
