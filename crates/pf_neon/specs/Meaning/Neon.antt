-- The instructions of A64 Advanced SIMD as one table.
use Rattle.std.specs.Prelude.{[], codes}
use Rattle.pf_ints.specs.declared.target.Target.TheVariants.{Neon as OnNeon}
use Rattle.pf_machine.specs.Meaning.Tables.{Table}
use Rattle.pf_frames.specs.Meaning.LineTables.{Jumps}
use Rattle.pf_tables.specs.declared.isa.SetOf.{SetOf}
use Rattle.pf_tables.specs.declared.instruction.Instruction.{Instruction}
use Rattle.pf_tables.specs.Meaning.Sets.{InstructionSet}
use Rattle.pf_tables.specs.Meaning.Instructions.{IsListed}
use Rattle.pf_tables.specs.Meaning.Tables.{table_of}
use Rattle.pf_neon.specs.declared.neon.NeonRows.{NeonRows}
use Rattle.pf_neon.specs.declared.rows.TheConstants.{PLACES, STYLE}
use Rattle.pf_neon.specs.Meaning.Rows.{word_at, pattern_at, row_at}

abbrev pub jumps : Jumps
jumps = record { below = record { front = codes "b.lo "; back = [] }; onward = record { front = codes "b "; back = [] } }

abbrev pub neon_set : InstructionSet
neon_set = record {
  target = OnNeon;
  vector = 16;
  names = 28;
  vectors = 32;
  places = PLACES;
  word = word_at;
  pattern = pattern_at;
  row = row_at;
  style = STYLE;
  jumps = jumps;
}

abbrev pub table : Table Instruction
table = table_of neon_set

-- the set for the machine, and the values that are its instructions
abbrev pub Neon : Type 0
Neon = SetOf NeonRows

abbrev pub IsNeonInstruction : Instruction → Type 0
IsNeonInstruction i = IsListed neon_set i
