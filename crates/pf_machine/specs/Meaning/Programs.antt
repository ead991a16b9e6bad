-- Programs: a head, code and labels.
use Rattle.std.specs.Prelude.{◌≢◌, ℕ, ◌≤◌, List, length, map, IsTrue, All, Contains, Option, Some, None}
use Rattle.std.specs.List.{AllPairs, last_or}
use Rattle.pf_text.specs.Meaning.Words.{is_name}
use Rattle.pf_machine.specs.declared.program.Head.{Head}
use Rattle.pf_machine.specs.declared.code.Line.{Line}
use Rattle.pf_machine.specs.declared.code.Line.TheVariants.{Vector, Control as Controls}
use Rattle.pf_machine.specs.declared.code.Label.{Label}
use Rattle.pf_machine.specs.declared.control.Control.{Control}
use Rattle.pf_machine.specs.declared.control.Control.TheVariants.{Below, Jump, Return}
use Rattle.pf_machine.specs.Meaning.Tables.{Table, IsOver}
use Rattle.pf_machine.specs.Meaning.Control.{IsControl}
use Rattle.pf_machine.specs.Meaning.Heads.{IsHead}

pub record ProgramOf (I O : Type 0) : Type 0 where
  pub head : Head
  pub code : List (Line I O)
  pub labels : List Label

-- an instruction names the machine's vectors alone, and the label of a jump is there
abbrev pub jumps_to : Control → Option (List ℕ)
jumps_to (Below label) = Some label
jumps_to (Jump label) = Some label
jumps_to _ = None

abbrev pub IsThere : List Label → Option (List ℕ) → Type 0
IsThere labels None = Unit {0}
IsThere labels (Some name) = Contains (map (λ l. l.name) labels) name

abbrev pub IsInstructionOf : {I O : Type 0} → Table O → List Label → Line I O → Type 0
IsInstructionOf t labels (Vector op) = IsOver t op
IsInstructionOf t labels (Controls c) = IsControl c × IsThere labels (jumps_to c)

-- the end of the code isn't reached from its last instruction
abbrev pub IsLast : {I O : Type 0} → Option (Line I O) → Type 0
IsLast (Some (Controls (Jump label))) = Unit {0}
IsLast (Some (Controls Return)) = Unit {0}
IsLast _ = ⊥

-- a label has a name, and stands behind so many of the instructions
pub record IsLabel (count : ℕ) (l : Label) : Type 0 where
  pub name : IsTrue (is_name l.name)
  pub before : l.before ≤ count

pub record IsProgram {I O : Type 0} (t : Table O) (p : ProgramOf I O) : Type 0 where
  pub head : IsHead p.head
  pub code : All (λ line. IsInstructionOf t p.labels line) p.code
  pub last : IsLast (last_or None p.code)
  pub labels : All (IsLabel (length p.code)) p.labels
  pub distinct : AllPairs (λ l m. (l.name ≢ m.name) × (l.before ≤ m.before)) p.labels
