-- What control instructions of selected code may do: they move addresses and whole pixels, and never compute with pixels.
use Rattle.std.specs.Prelude.{◌≡◌, ◌≢◌, ℕ, ◌+◌, ◌≤◌, List, ◌∷◌, map, sum, false, All, Option, Some, None, MatchOption, ◌⊎◌}
use Rattle.pf_machine.specs.Meaning.Roles.{table_role, count_role, scratch_role, pixel_role, kept_role, pointer_role, value_role, end_role}
use Rattle.pf_machine.specs.declared.control.Control.{Control}
use Rattle.pf_machine.specs.declared.control.Control.TheVariants.{LoadPtr, StorePtr, Imm, AddImm, AddReg, LoadByte, LoadHalf, StoreByte, StoreHalf, Compare}
use Rattle.pf_machine.specs.declared.code.Line.{Line}
use Rattle.pf_machine.specs.declared.code.Line.TheVariants.{Vector, Control as Controls}
use Rattle.pf_machine.specs.declared.code.Label.{Label}
use Rattle.pf_machine.specs.Meaning.Tables.{Table}

-- In these comments the general registers have the letters of Roles.

-- the sum of the costs of the vector instructions
abbrev pub line_cost : {I O : Type 0} → Table O → Line I O → ℕ
line_cost table (Vector op) = table.cost op
line_cost table (Controls c) = 0

abbrev pub Work : {I O : Type 0} → Table O → List (Line I O) → ℕ
Work table code = sum (map (line_cost table) code)

-- the general register that an instruction writes
abbrev pub written_by : Control → Option ℕ
written_by (LoadPtr to base entry) = Some to
written_by (Imm to number) = Some to
written_by (AddImm to from down by) = Some to
written_by (AddReg to left right) = Some to
written_by (LoadByte to at) = Some to
written_by (LoadHalf to at) = Some to
written_by _ = None

-- the fact holds of the control instruction
abbrev pub OfControl : {I O : Type 0} → (Control → Type 0) → Line I O → Type 0
OfControl P (Vector op) = Unit {0}
OfControl P (Controls c) = P c

-- an instruction that writes the register is such a one
abbrev pub WritesOnly : {I O : Type 0} → ℕ → (Control → Type 0) → Line I O → Type 0
WritesOnly r P = OfControl (λ c. written_by c ≡ Some r → P c)

-- one of two registers; the sum of a register and x, in either order
abbrev pub Either : ℕ → ℕ → ℕ → Type 0
Either a b r = (r ≡ a) ⊎ (r ≡ b)

abbrev pub WithPixel : ℕ → ℕ → ℕ → Type 0
WithPixel r left right = ((left ≡ r) × (right ≡ pixel_role)) ⊎ ((left ≡ pixel_role) × (right ≡ r))

abbrev pub MovesPixel : Control → Type 0
MovesPixel (Imm to number) = Unit {0}
MovesPixel (AddImm to from down by) = Either pixel_role count_role from
MovesPixel _ = ⊥

abbrev pub MovesTable : Control → Type 0
MovesTable (AddImm to from down by) = (by ≡ 0) × Either scratch_role kept_role from
MovesTable _ = ⊥

abbrev pub MovesEnd : ℕ → Control → Type 0
MovesEnd taps (Imm to number) = Unit {0}
MovesEnd taps (LoadPtr to base entry) = (base ≡ kept_role) × (entry ≤ taps + 2)
MovesEnd taps (AddImm to from down by) = (from ≡ pixel_role) ⊎ Either scratch_role end_role from
MovesEnd taps (AddReg to left right) = WithPixel end_role left right
MovesEnd taps _ = ⊥

abbrev pub MovesPointer : Control → Type 0
MovesPointer (LoadPtr to base entry) = Either table_role kept_role base
MovesPointer (AddImm to from down by) = Either scratch_role pointer_role from
MovesPointer (AddReg to left right) = WithPixel pointer_role left right
MovesPointer _ = ⊥

abbrev pub MovesValue : Control → Type 0
MovesValue (LoadByte to at) = at ≡ pointer_role
MovesValue (LoadHalf to at) = at ≡ pointer_role
MovesValue _ = ⊥

-- a pixel is stored from v at e, and nothing else reads v
abbrev pub StoresValue : Control → Type 0
StoresValue (StoreByte at from) = (at ≡ end_role) × (from ≡ value_role)
StoresValue (StoreHalf at from) = (at ≡ end_role) × (from ≡ value_role)
StoresValue (StorePtr base entry from) = (base ≢ value_role) × (from ≢ value_role)
StoresValue (LoadPtr to base entry) = base ≢ value_role
StoresValue (AddImm to from down by) = from ≢ value_role
StoresValue (AddReg to left right) = (left ≢ value_role) × (right ≢ value_role)
StoresValue (LoadByte to at) = at ≢ value_role
StoresValue (LoadHalf to at) = at ≢ value_role
StoresValue (Compare left right) = (left ≢ value_role) × (right ≢ value_role)
StoresValue _ = Unit {0}

abbrev pub IsCounter : ℕ → Type 0
IsCounter r = (r ≡ count_role) ⊎ Either pixel_role end_role r

abbrev pub Compares : Control → Type 0
Compares (Compare left right) = IsCounter left × IsCounter right
Compares _ = Unit {0}

abbrev pub StoresPointer : Control → Type 0
StoresPointer (StorePtr base entry from) = (base ≡ scratch_role) × (from ≡ end_role)
StoresPointer _ = Unit {0}

-- each vector load and store goes through p
abbrev pub AccessesPointer : {I O : Type 0} → Table O → Line I O → Type 0
AccessesPointer table (Vector op) = MatchOption (table.access op) (Unit {0}) (λ a. a.base ≡ pointer_role)
AccessesPointer table (Controls c) = Unit {0}

-- the code of a program with so many taps
pub record Moved {I O : Type 0} (table : Table O) (taps : ℕ) (code : List (Line I O)) (labels : List Label) : Type 0 where
  -- the first instruction keeps t in u; no label stands before it, and nothing else writes u
  pub rest : List (Line I O)
  pub kept : code ≡ Controls (AddImm kept_role table_role false 0) ∷ rest
  pub kept_for_good : All (WritesOnly kept_role (λ _. ⊥)) rest
  pub no_label : All (λ l. 1 ≤ l.before) labels
  -- n, s, x, t, e, p and v are written only so
  pub count : All (WritesOnly count_role (λ c. c ≡ LoadPtr count_role kept_role (taps + 2))) code
  pub scratch : All (WritesOnly scratch_role (λ c. c ≡ LoadPtr scratch_role kept_role (taps + 1))) code
  pub pixel : All (WritesOnly pixel_role MovesPixel) code
  pub pointers : All (WritesOnly table_role MovesTable) code
  pub end : All (WritesOnly end_role (MovesEnd taps)) code
  pub pointer : All (WritesOnly pointer_role MovesPointer) code
  pub value : All (WritesOnly value_role MovesValue) code
  -- v is stored alone, n, x and e are compared alone, and e is kept in the scratch's table alone
  pub value_stored : All (OfControl StoresValue) code
  pub compared : All (OfControl Compares) code
  pub pointer_stored : All (OfControl StoresPointer) code
  pub accesses : All (AccessesPointer table) code
