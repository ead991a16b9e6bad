-- The instructions of HVX as one table.
use Rattle.std.specs.Prelude.{codes}
use Rattle.pf_ints.specs.declared.target.Target.TheVariants.{Hvx as OnHvx}
use Rattle.pf_machine.specs.Meaning.Tables.{Table}
use Rattle.pf_frames.specs.Meaning.LineTables.{Jumps}
use Rattle.pf_tables.specs.declared.isa.SetOf.{SetOf}
use Rattle.pf_tables.specs.declared.instruction.Instruction.{Instruction}
use Rattle.pf_tables.specs.Meaning.Sets.{InstructionSet}
use Rattle.pf_tables.specs.Meaning.Instructions.{IsListed}
use Rattle.pf_tables.specs.Meaning.Tables.{table_of}
use Rattle.pf_hvx.specs.declared.hvx.HvxRows.{HvxRows}
use Rattle.pf_hvx.specs.declared.rows.TheConstants.{PLACES, STYLE}
use Rattle.pf_hvx.specs.Meaning.Rows.{word_at, pattern_at, row_at}

abbrev pub jumps : Jumps
jumps = record {
  below = record { front = codes "{ if (p0) jump "; back = codes " }" };
  onward = record { front = codes "{ jump "; back = codes " }" };
}

abbrev pub hvx_set : InstructionSet
hvx_set = record {
  target = OnHvx;
  vector = 128;
  names = 26;
  vectors = 32;
  places = PLACES;
  word = word_at;
  pattern = pattern_at;
  row = row_at;
  style = STYLE;
  jumps = jumps;
}

abbrev pub table : Table Instruction
table = table_of hvx_set

-- the set for the machine, and the values that are its instructions
abbrev pub Hvx : Type 0
Hvx = SetOf HvxRows

abbrev pub IsHvxInstruction : Instruction → Type 0
IsHvxInstruction i = IsListed hvx_set i
