-- A machine: its program and its state, and what its calls answer.
use Rattle.std.specs.Prelude.{◌≡◌, ℕ, ◌+◌, ◌*◌, ◌^◌, ◌<◌, List, length, map, Bool, true, false, IsTrue, ◌&&◌, ◌==◌, Option, Some, None, Result, Ok, Err, slice_index_or, slice_set, position, is_some, All}
use Rattle.std.specs.List.{AllPairs}
use Rattle.pf_machine.specs.declared.steps.Core.{Core}
use Rattle.pf_machine.specs.declared.steps.Trap.{Trap}
use Rattle.pf_machine.specs.declared.steps.Trap.TheVariants.{Outside, Spent as Overspent}
use Rattle.pf_machine.specs.declared.memory.Region.{Region}
use Rattle.pf_machine.specs.declared.code.Line.{Line}
use Rattle.pf_machine.specs.declared.code.Line.TheVariants.{Vector, Control as Controls}
use Rattle.pf_machine.specs.declared.code.Label.{Label}
use Rattle.pf_machine.specs.Meaning.Bytes.{packed}
use Rattle.pf_machine.specs.Meaning.Tables.{Table, IsFile, IsOver}
use Rattle.pf_machine.specs.Meaning.Memory.{nowhere, Apart}
use Rattle.pf_machine.specs.Meaning.Programs.{ProgramOf, IsProgram, jumps_to}
use Rattle.pf_machine.specs.Meaning.MachineSteps.{State, Outcome, Continues, Returned, Trapped, End, Ended, Stopped, OutOfSteps, place_of}

-- a program, and the state of the machine that runs it
pub record Running (I O : Type 0) : Type 0 where
  pub text : ProgramOf I O
  pub state : State

-- the state that a machine keeps in its fields
abbrev pub state_of : Core → State
state_of c = record { at = c.at; general = c.general; flag = c.flag; file = c.file; regions = c.regions.items }

-- the machine has eight general registers, and the file of the table's machine
pub record IsState {O : Type 0} (t : Table O) (s : State) : Type 0 where
  pub general : length s.general ≡ 8
  pub file : IsFile t t.vectors s.file

-- the memory that a machine may be given: regions that are apart and end below 2^31
pub record IsMemory (regions : List Region) : Type 0 where
  pub apart : AllPairs Apart regions
  pub low : All (λ r. r.start + length r.bytes < 2 ^ 31) regions

-- what a step answers, and the state that it leaves: false is a return, and instructions are counted from 1
abbrev pub AnswersStep : Outcome → Result Bool Trap → State → State → Type 0
AnswersStep (Continues s) result old new = (result ≡ Ok true) × (new ≡ s)
AnswersStep Returned result old new = (result ≡ Ok false) × (new ≡ old)
AnswersStep (Trapped address count) result old new = (result ≡ Err (Outside (old.at + 1) address count)) × (new ≡ old)

-- what a row answers, of so many steps at most, and the state that it leaves
abbrev pub Ends : End → ℕ → Result (Unit {0}) Trap → State → Type 0
Ends (Ended s) budget result new = (result ≡ Ok tt) × (new ≡ s)
Ends (Stopped at address count s) budget result new = (result ≡ Err (Outside at address count)) × (new ≡ s)
Ends (OutOfSteps s) budget result new = (result ≡ Err (Overspent budget)) × (new ≡ s)

-- the region is the table of a row, of so many bytes
abbrev pub is_table : ℕ → ℕ → Region → Bool
is_table table size r = r.start == table && length r.bytes == size

-- the regions with other bytes in the one at this place
abbrev pub region_rewritten : List Region → List ℕ → Option ℕ → List Region
region_rewritten regions new None = regions
region_rewritten regions new (Some k) = slice_set regions k (record (slice_index_or regions k nowhere) { bytes = new })

-- the memory with these entries in the table
abbrev pub with_entries : List Region → ℕ → List ℕ → List Region
with_entries regions table entries = region_rewritten regions (packed 8 entries) (position (is_table table (8 * length entries)) regions)

-- there is a table of so many bytes
abbrev pub HasTable : List Region → ℕ → ℕ → Type 0
HasTable regions table size = IsTrue (is_some (position (is_table table size) regions))

-- a line's vectors are the machine's
abbrev pub IsLineOver : {I O : Type 0} → Table O → Line I O → Type 0
IsLineOver t (Vector op) = IsOver t op
IsLineOver t (Controls c) = Unit {0}

-- where a line may jump to: the number of instructions before its label
abbrev pub destination : List Label → ℕ → Option (List ℕ) → ℕ
destination labels end None = end
destination labels end (Some name) = place_of labels end name

abbrev pub destination_of : {I O : Type 0} → List Label → ℕ → Line I O → ℕ
destination_of labels end (Vector op) = end
destination_of labels end (Controls c) = destination labels end (jumps_to c)

-- what a machine keeps: its program, its state, and where each of its lines may jump to
pub record IsMachine {I O : Type 0} (t : Table O) (p : ProgramOf I O) (ends : List ℕ) (s : State) : Type 0 where
  pub program : IsProgram t p
  pub places : ends ≡ map (destination_of p.labels (length p.code)) p.code
  pub state : IsState t s
