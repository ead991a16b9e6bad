-- The meaning of a set of instructions that a table of rows makes.
use Rattle.pf_machine.specs.Meaning.Tables.{Table}
use Rattle.pf_frames.specs.declared.line.TableLine.TheVariants.{Vector}
use Rattle.pf_frames.specs.Meaning.LineTables.{text_of, others, control_text_of}
use Rattle.pf_tables.specs.declared.instruction.Instruction.{Instruction}
use Rattle.pf_tables.specs.declared.instruction.Instruction.TheVariants.{Load, Store}
use Rattle.pf_tables.specs.Meaning.Sets.{InstructionSet, is_fixed}
use Rattle.pf_tables.specs.Meaning.Instructions.{uses, defs, access, cost, renamed, renamed_all}
use Rattle.pf_tables.specs.Meaning.Effects.{outcome}
use Rattle.pf_tables.specs.Meaning.Lines.{lines, also}

abbrev pub table_of : InstructionSet → Table Instruction
table_of s = record {
  target = s.target;
  vector = s.vector;
  names = s.names;
  vectors = s.vectors;
  uses = uses;
  defs = defs;
  outcome = outcome s;
  access = access s;
  cost = cost s;
  renamed = renamed s;
  renamed_all = renamed_all s;
  fixed = is_fixed s;
  load = λ to j. Load (record { vector = to; base = 5; j = j });
  store = λ from j. Store (record { vector = from; base = 5; j = j });
  text = λ op. text_of (lines s) (Vector op);
  also = λ op. others (lines s) (also s (Vector op));
  control_text = control_text_of (lines s) s.jumps;
}
