-- How the lines behind a head are read.
use Rattle.std.specs.Prelude.{◌≡◌, ℕ, ◌+◌, List, [], ◌∷◌, ◌++◌, length, Bool, true, false, if◌then◌else◌, All, Option, Some, None, Result, Ok, Err}
use Rattle.std.specs.Borrow.{Bor}
use Rattle.std.specs.BTreeSet.{BTreeSet, contains_by}
use Rattle.std.specs.Cmp.Lexicographic.{slice_cmp}
use Rattle.std.specs.Ordering.{nat_cmp}
use Rattle.std.specs.List.{list_any}
use Rattle.std.specs.Str.{bytes_eq}
use Rattle.pf_machine.specs.declared.code.Line.{Line}
use Rattle.pf_isa.specs.declared.fault.TextFault.{TextFault}
use Rattle.pf_isa.specs.declared.fault.TextFault.TheVariants.{At, Memory}
use Rattle.pf_isa.specs.declared.fault.TextKind.TheVariants.{Label as LabelFault}
use Rattle.pf_isa.specs.declared.jumps.Jump.{Jump}
use Rattle.pf_isa.specs.declared.read_code.CodeReading.{CodeReading}
use Rattle.pf_machine.specs.Meaning.Tables.{Table}
use Rattle.pf_isa.specs.Meaning.TextFaults.{label_names, AreCodeLines, IsCodeLineFault, IsBadLine}
use Rattle.pf_isa.specs.declared.code_line.CodeLine.{CodeLine}
use Rattle.pf_isa.specs.declared.code_line.CodeLine.TheVariants.{Blank, Label, Instruction}
use Rattle.pf_text.specs.Meaning.Lines.{is_blank}
use Rattle.pf_isa.specs.Meaning.Texts.{CodeMeaning, Nothing, Named, Does, code_of, labels_of}
use Rattle.pf_machine.specs.Steps.Places.{jump_label}

-- what a line that was read says
abbrev pub said_by : {I O : Type 0} → CodeLine I O → CodeMeaning I O
said_by Blank = Nothing
said_by (Label name) = Named name.now
said_by (Instruction line) = Does line

-- the first byte is no blank, and the last one isn't
abbrev pub BeginsPlain : List ℕ → Type 0
BeginsPlain [] = Unit {0}
BeginsPlain (c ∷ cs) = is_blank c ≡ false

abbrev pub EndsPlain : List ℕ → Type 0
EndsPlain [] = Unit {0}
EndsPlain (c ∷ []) = is_blank c ≡ false
EndsPlain (c ∷ d ∷ cs) = EndsPlain (d ∷ cs)

-- ---- jumps

abbrev pub jump_at : ℕ → Option (List ℕ) → List Jump
jump_at line None = []
jump_at line (Some label) = record { line = line; label = label } ∷ []

abbrev pub jump_of : {I O : Type 0} → ℕ → CodeMeaning I O → List Jump
jump_of line (Does l) = jump_at line (jump_label l)
jump_of line _ = []

-- the jumps of the lines, where so many lines stand before them
abbrev pub jumps_of : {I O : Type 0} → ℕ → List (CodeMeaning I O) → List Jump
jumps_of n [] = []
jumps_of n (s ∷ more) = jump_of (n + 1) s ++ jumps_of (n + 1) more

-- the set has the name
abbrev pub has_name : BTreeSet (Bor (List ℕ)) → List ℕ → Bool
has_name names name = contains_by (λ key. slice_cmp nat_cmp name key.now) names

-- the first jump whose label has no place, and its line
pub record IsFirstMissing (has : List ℕ → Bool) (jumps : List Jump) (line : ℕ) : Type 0 where
  pub front : List Jump
  pub jump : Jump
  pub rest : List Jump
  pub parts : jumps ≡ front ++ jump ∷ rest
  pub before : All (λ j. has j.label ≡ true) front
  pub missing : has jump.label ≡ false
  pub line_is : line ≡ jump.line

-- ---- the lines so far

-- lines behind the first `start` were read, and say this
pub record IsCodeReading {I O : Type 0} (t : Table O) (is_op : O → Type 0) (start : ℕ) (ls : List (List ℕ)) (said : List (CodeMeaning I O)) (r : CodeReading I O) : Type 0 where
  pub read : AreCodeLines t is_op ls said
  pub code_is : r.code ≡ code_of said
  pub labels_are : r.labels ≡ labels_of 0 said
  pub names_are : (name : List ℕ) → has_name r.names name ≡ list_any (bytes_eq name) (label_names said)
  pub jumps_are : r.jumps.items ≡ jumps_of start said

-- a label is added, unless it is there
pub record HasLabel {I O : Type 0} (name : List ℕ) (old new : CodeReading I O) : Type 0 where
  pub unknown : has_name old.names name ≡ false
  pub code_is : new.code ≡ old.code
  pub labels_are : new.labels ≡ old.labels ++ record { name = name; before = length old.code } ∷ []
  pub names_are : (other : List ℕ) → has_name new.names other ≡ (if bytes_eq name other then true else has_name old.names other)
  pub jumps_are : new.jumps.items ≡ old.jumps.items

abbrev pub AddsLabel : {I O : Type 0} → List ℕ → ℕ → CodeReading I O → CodeReading I O → Result (Unit {0}) TextFault → Type 0
AddsLabel name number old new (Ok done) = HasLabel name old new
AddsLabel name number old new (Err (At at kind)) = (at ≡ number) × (kind ≡ LabelFault) × (has_name old.names name ≡ true)
AddsLabel name number old new (Err Memory) = Unit {0}

-- an instruction is added
pub record HasInstruction {I O : Type 0} (line : Line I O) (number : ℕ) (old new : CodeReading I O) : Type 0 where
  pub code_is : new.code ≡ old.code ++ line ∷ []
  pub labels_are : new.labels ≡ old.labels
  pub names_are : (name : List ℕ) → has_name new.names name ≡ has_name old.names name
  pub jumps_are : new.jumps.items ≡ old.jumps.items ++ jump_at number (jump_label line)

abbrev pub AddsInstruction : {I O : Type 0} → Line I O → ℕ → CodeReading I O → CodeReading I O → Result (Unit {0}) TextFault → Type 0
AddsInstruction line number old new (Ok done) = HasInstruction line number old new
AddsInstruction line number old new (Err (At at kind)) = ⊥
AddsInstruction line number old new (Err Memory) = Unit {0}

-- one line more is read
abbrev pub IsTaken : {I O : Type 0} → Table O → (O → Type 0) → ℕ → List (List ℕ) → List (CodeMeaning I O) → List ℕ → ℕ → CodeReading I O → Result (Unit {0}) TextFault → Type 0
IsTaken {I} {O} t is_op start ls said line number new (Ok done) = (s : CodeMeaning I O) × IsCodeReading t is_op start (ls ++ line ∷ []) (said ++ s ∷ []) new
IsTaken t is_op start ls said line number new (Err (At at kind)) = (at ≡ number) × IsCodeLineFault t is_op said line kind
IsTaken t is_op start ls said line number new (Err Memory) = Unit {0}

abbrev pub TakesLine : {I O : Type 0} → Table O → (O → Type 0) → List ℕ → ℕ → CodeReading I O → CodeReading I O → Result (Unit {0}) TextFault → Type 0
TakesLine {I} {O} t is_op line number old new result =
    (start : ℕ) (ls : List (List ℕ)) (said : List (CodeMeaning I O)) → number ≡ start + length ls + 1 → IsCodeReading t is_op start ls said old → IsTaken t is_op start ls said line number new result

-- why the lines were not read to the end
abbrev pub IsLineRefusal : (I : Type 0) {O : Type 0} → Table O → (O → Type 0) → ℕ → List (List ℕ) → TextFault → Type 0
IsLineRefusal I t is_op start ls (At at kind) = (n : ℕ) × IsBadLine I t is_op ls n kind × (at ≡ start + n + 1)
IsLineRefusal I t is_op start ls Memory = Unit {0}
