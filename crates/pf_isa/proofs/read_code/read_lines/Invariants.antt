use Rattle.std.proofs.Common.{take, drop, List}
use Rattle.pf_isa.specs.Meaning.Texts.{CodeMeaning}
use Rattle.pf_isa.specs.Meaning.TextFaults.{texts}
use Rattle.pf_isa.specs.Steps.CodeReading.{IsCodeReading}
use Rattle.pf_isa.proofs.read_code.read_lines.Given as goal

abbrev pub invariant-loop-n : goal.invariant-loop-n
invariant-loop-n g l = (said : List (CodeMeaning g.row.I.Denot g.row.I-Op.Denot)) × IsCodeReading g.I.Isa.table g.I.Isa.is_op l.start (take l.n (drop l.start (texts l.lines))) said l.reading
