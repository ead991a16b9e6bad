use Rattle.std.proofs.Common.{arith}
use Rattle.pf_machine.specs.declared.registers.Reg.TheVariants.{K}
use Rattle.pf_tables.proofs.effects.write_plain.Goals as goal

pub content-a-requires-clause-within : goal.content-a-requires-clause-within
content-a-requires-clause-within g c = let there = rw c.in-Unary.is at c.requires.there in there 0 K (omega arith)

pub content-left-requires-clause-within : goal.content-left-requires-clause-within
content-left-requires-clause-within g c = let there = rw c.in-Binary.is at c.requires.there in there 0 K (omega arith)

pub content-right-requires-clause-within : goal.content-right-requires-clause-within
content-right-requires-clause-within g c = let there = rw c.in-Binary.is at c.requires.there in there 1 K (omega arith)

pub content-left-requires-in-Accumulate-clause-within : goal.content-left-requires-in-Accumulate-clause-within
content-left-requires-in-Accumulate-clause-within g c = let there = rw c.in-Accumulate.is at c.requires.there in there 1 K (omega arith)

pub content-right-requires-in-Accumulate-clause-within : goal.content-right-requires-in-Accumulate-clause-within
content-right-requires-in-Accumulate-clause-within g c = let there = rw c.in-Accumulate.is at c.requires.there in there 2 K (omega arith)

pub content-requires-clause-within : goal.content-requires-clause-within
content-requires-clause-within g c = let there = rw c.in-Accumulate.is at c.requires.there in there 0 K (omega arith)

pub content-left-requires-in-Blend-clause-within : goal.content-left-requires-in-Blend-clause-within
content-left-requires-in-Blend-clause-within g c = let there = rw c.in-Blend.is at c.requires.there in there 0 K (omega arith)

pub content-right-requires-in-Blend-clause-within : goal.content-right-requires-in-Blend-clause-within
content-right-requires-in-Blend-clause-within g c = let there = rw c.in-Blend.is at c.requires.there in there 1 K (omega arith)

pub content-requires-in-Blend-clause-within : goal.content-requires-in-Blend-clause-within
content-requires-in-Blend-clause-within g c = let there = rw c.in-Blend.is at c.requires.there in there 2 K (omega arith)
