-- A set of instructions: its rows by their places, and how it writes registers and numbers.
use Rattle.std.specs.Prelude.{ℕ, ◌&&◌, ◌||◌, Bool, List, ◌==◌, if◌then◌else◌}
use Rattle.pf_ints.specs.declared.target.Target.{Target}
use Rattle.pf_frames.specs.Meaning.LineTables.{Jumps}
use Rattle.pf_tables.specs.declared.row.Row.{Row}
use Rattle.pf_tables.specs.declared.row.Style.{Style}

pub record InstructionSet : Type 0 where
  pub target : Target
  -- bytes of a vector, vectors that an allocator may hand out, and vectors of the machine
  pub vector : ℕ
  pub names : ℕ
  pub vectors : ℕ
  -- the rows by their places: the word and the rest of the line, and what stands with them
  pub places : ℕ
  pub word : ℕ → List ℕ
  pub pattern : ℕ → List ℕ
  pub row : ℕ → Row
  pub style : Style
  pub jumps : Jumps

-- a name that stands for one register of the machine for good: those of the pair
abbrev pub is_fixed : InstructionSet → ℕ → Bool
is_fixed s n = s.style.packets && (n == 30 || n == 31)

-- the number of the general register of a role, and the role of a general register
abbrev pub general : InstructionSet → ℕ → ℕ
general s role = if s.style.packets && role == 7 then 8 else role
