-- The instructions of AVX2 as one table.
use Rattle.std.specs.Prelude.{[], codes}
use Rattle.pf_ints.specs.declared.target.Target.TheVariants.{Avx2 as OnAvx2}
use Rattle.pf_machine.specs.Meaning.Tables.{Table}
use Rattle.pf_frames.specs.Meaning.LineTables.{Jumps}
use Rattle.pf_tables.specs.declared.isa.SetOf.{SetOf}
use Rattle.pf_tables.specs.declared.instruction.Instruction.{Instruction}
use Rattle.pf_tables.specs.Meaning.Sets.{InstructionSet}
use Rattle.pf_tables.specs.Meaning.Instructions.{IsListed}
use Rattle.pf_tables.specs.Meaning.Tables.{table_of}
use Rattle.pf_avx2.specs.declared.avx2.Avx2Rows.{Avx2Rows}
use Rattle.pf_avx2.specs.declared.rows.TheConstants.{PLACES, STYLE}
use Rattle.pf_avx2.specs.Meaning.Rows.{word_at, pattern_at, row_at}

abbrev pub jumps : Jumps
jumps = record { below = record { front = codes "jb "; back = [] }; onward = record { front = codes "jmp "; back = [] } }

abbrev pub avx2_set : InstructionSet
avx2_set = record {
  target = OnAvx2;
  vector = 32;
  names = 12;
  vectors = 16;
  places = PLACES;
  word = word_at;
  pattern = pattern_at;
  row = row_at;
  style = STYLE;
  jumps = jumps;
}

abbrev pub table : Table Instruction
table = table_of avx2_set

-- the set for the machine, and the values that are its instructions
abbrev pub Avx2 : Type 0
Avx2 = SetOf Avx2Rows

abbrev pub IsAvx2Instruction : Instruction → Type 0
IsAvx2Instruction i = IsListed avx2_set i
