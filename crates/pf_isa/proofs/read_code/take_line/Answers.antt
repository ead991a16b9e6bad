use Rattle.pf_isa.proofs.CodeLaws.{blank_taken, label_taken, instruction_taken}
use Rattle.pf_isa.proofs.read_code.take_line.Goals as goal

pub returns-in-Some-Blank : goal.returns-in-Some-Blank
returns-in-Some-Blank g c = λ start ls said numbered r.
    let says = rw c.in-Some-Blank.field-0-is at c.in-Some-Blank.ensures in
    blank_taken g.I.Isa.table g.I.Isa.is_op start ls said c.args.line.now c.args.number c.args.reading.now numbered r says

pub returns-in-Some-Label : goal.returns-in-Some-Label
returns-in-Some-Label g c = λ start ls said numbered r.
    let says = rw c.in-Some-Label.field-0-is at c.in-Some-Label.ensures in
    label_taken g.I.Isa.table g.I.Isa.is_op start ls said c.args.line.now c.in-Some-Label.name.now c.args.number c.args.reading.now c.add_label.new.reading c.add_label.result numbered r says c.add_label.ensures

pub returns-in-Some-Instruction : goal.returns-in-Some-Instruction
returns-in-Some-Instruction g c = λ start ls said numbered r.
    let says = rw c.in-Some-Instruction.field-0-is at c.in-Some-Instruction.ensures in
    instruction_taken g.I.Isa.table g.I.Isa.is_op start ls said c.args.line.now c.in-Some-Instruction.instruction c.args.number c.args.reading.now c.add_instruction.new.reading c.add_instruction.result numbered r says c.add_instruction.ensures
