use Rattle.std.proofs.Common.{◌<◌, ◌∙◌, sym, length, arith}
use Rattle.std.proofs.lemmas.List.{length-set}
use Rattle.pf_machine.specs.declared.registers.Reg.TheVariants.{K}
use Rattle.pf_machine.proofs.FileLaws.{vector_long}
use Rattle.pf_tables.specs.Meaning.Tables.{table_of}
use Rattle.pf_tables.proofs.PairLaws.{long_after}
use Rattle.pf_tables.proofs.effects.put_pair.Goals as goal

pub overwrite_item-requires-clause-alike : goal.overwrite_item-requires-clause-alike
overwrite_item-requires-clause-alike g c =
    let f = c.args.regs.now in
    let there = rw (← c.ends-to.ensures) at c.requires.runs.defs in
    let inside : c.ends-to.result.low < length f.vectors = there 0 K (omega arith) in
    c.write_vectors.ensures.first ∙ sym (vector_long (table_of g.R.Rows.set) (length f.vectors) f c.requires.runs.file c.ends-to.result.low inside)

pub overwrite_item-requires-2-clause-within : goal.overwrite_item-requires-2-clause-within
overwrite_item-requires-2-clause-within g c =
    let there = rw (← c.ends-to.ensures) at c.requires.runs.defs in
    rw (c.overwrite_item.ensures, length-set c.args.regs.now.vectors c.ends-to.result.low c.write_vectors.new.low) (there 1 K (omega arith))

pub overwrite_item-requires-2-clause-alike : goal.overwrite_item-requires-2-clause-alike
overwrite_item-requires-2-clause-alike g c =
    let f = c.args.regs.now in
    let there = rw (← c.ends-to.ensures) at c.requires.runs.defs in
    let inside : c.ends-to.result.high < length f.vectors = there 1 K (omega arith) in
    let long = long_after g.R.Rows.set.vector f.vectors c.ends-to.result.low c.ends-to.result.high c.write_vectors.new.low c.requires.runs.file.vectors c.write_vectors.ensures.first inside in
    rw c.overwrite_item.ensures (c.write_vectors.ensures.second ∙ sym long)
