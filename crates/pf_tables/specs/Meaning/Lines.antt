-- How the instructions of a table are printed, and which instruction a frame with operands is.
use Rattle.std.specs.Prelude.{Bool, ℕ, ◌+◌, ◌*◌, ◌/◌, ◌%◌, ◌-◌, ◌^◌, List, [], ◌∷◌, true, false, not, ◌==◌, ◌&&◌, nat_lt, if◌then◌else◌, Option, Some, None, slice_index}
use Rattle.pf_machine.specs.declared.control.Control.{Control}
use Rattle.pf_machine.specs.declared.control.Control.TheVariants.{LoadPtr, StorePtr, Imm, AddImm, AddReg, LoadByte, LoadHalf, StoreByte, StoreHalf, Below, Jump, Return}
use Rattle.pf_machine.specs.declared.control.Control.TheVariants as Controls
use Rattle.pf_lanes.specs.declared.registers.Double.{Double}
use Rattle.pf_lanes.specs.declared.registers.Triple.{Triple}
use Rattle.pf_lanes.specs.declared.registers.Transfer.{Transfer}
use Rattle.pf_frames.specs.declared.line.TableLine.{TableLine}
use Rattle.pf_frames.specs.declared.line.TableLine.TheVariants.{Vector, Control as OfControl}
use Rattle.pf_frames.specs.declared.line.Spelling.{Spelling}
use Rattle.pf_frames.specs.Meaning.LineTables.{LineTable}
use Rattle.pf_tables.specs.declared.row.Shape.{Shape}
use Rattle.pf_tables.specs.declared.row.Shape.TheVariants as Shapes
use Rattle.pf_tables.specs.declared.row.place.TheConstants as Places
use Rattle.pf_tables.specs.declared.operands.Sources.{Sources}
use Rattle.pf_tables.specs.declared.operands.Ends.{Ends}
use Rattle.pf_tables.specs.declared.instruction.Instruction.{Instruction}
use Rattle.pf_tables.specs.declared.instruction.Instruction.TheVariants.{Load, Store, Copy, Constant, ConstantHigh, FromConstant, Unary, Binary, Accumulate, Shift, ByConstant, JoinedByConstant, Upper, UpperShift, Blend, Choose, Compare, Pair, PairUnary, Move}
use Rattle.pf_tables.specs.Meaning.Sets.{InstructionSet, general}
use Rattle.pf_tables.specs.Meaning.Instructions.{place_of}

-- the operands of an instruction, in the order of its line
abbrev pub constant_numbers : Option ℕ → ℕ → List ℕ
constant_numbers None n = n ∷ []
constant_numbers (Some k) n = k ∷ n ∷ []

-- the vector last, or first
abbrev pub transfer_numbers : InstructionSet → Bool → Transfer → List ℕ
transfer_numbers s last r = if last then general s r.base ∷ s.style.unit * r.j ∷ r.vector ∷ [] else r.vector ∷ general s r.base ∷ s.style.unit * r.j ∷ []

abbrev pub numbers : InstructionSet → Instruction → List ℕ
numbers s (Load r) = transfer_numbers s false r
numbers s (Store r) = transfer_numbers s s.style.stores_last r
numbers s (Copy r) = r.to ∷ r.from ∷ []
numbers s (Constant n) = constant_numbers s.style.constant n
numbers s (ConstantHigh n) = n ∷ []
numbers s (FromConstant place to) = to ∷ []
numbers s (Unary place r) = r.to ∷ r.from ∷ []
numbers s (Binary place r) = r.to ∷ r.left ∷ r.right ∷ []
numbers s (Accumulate place r) = r.to ∷ r.left ∷ r.right ∷ []
numbers s (Shift place r by) = r.to ∷ r.from ∷ by ∷ []
numbers s (ByConstant place r) = r.to ∷ r.from ∷ []
numbers s (JoinedByConstant place r) = r.to ∷ r.left ∷ r.right ∷ []
numbers s (Upper place r) = r.to ∷ r.from ∷ []
numbers s (UpperShift place r by) = r.to ∷ r.from ∷ by ∷ []
numbers s (Blend place r mask) = r.to ∷ r.left ∷ r.right ∷ mask ∷ []
numbers s (Choose place r) = r.to ∷ r.left ∷ r.right ∷ []
numbers s (Compare place r) = r.left ∷ r.right ∷ []
numbers s (Pair place to r) = to.high ∷ to.low ∷ r.left ∷ r.right ∷ []
numbers s (PairUnary place to from) = to.high ∷ to.low ∷ from ∷ []
numbers s (Move place to r) = to.high ∷ to.low ∷ r.left ∷ r.right ∷ []

-- a number that is added in pages of 4096
abbrev pub is_pages : InstructionSet → Bool → ℕ → Bool
is_pages s down by = not down && (s.style.adds_pages && nat_lt 4095 by)

-- the place of the row of a control instruction, and its operands. Jumps have none.
abbrev pub control_place : InstructionSet → Control → ℕ
control_place s (LoadPtr to base entry) = Places.LOAD_POINTER
control_place s (StorePtr base entry from) = Places.STORE_POINTER
control_place s (Imm to n) = Places.SET_NUMBER
control_place s (AddImm to from down by) = if down then Places.SUB else (if is_pages s down by then Places.ADD_PAGES else Places.ADD)
control_place s (AddReg to left right) = Places.ADD_REGISTER
control_place s (LoadByte to at) = Places.LOAD_BYTE
control_place s (LoadHalf to at) = Places.LOAD_HALF
control_place s (StoreByte at from) = Places.STORE_BYTE
control_place s (StoreHalf at from) = Places.STORE_HALF
control_place s (Controls.Compare left right) = Places.COMPARE
control_place s (Below label) = Places.RETURN
control_place s (Jump label) = Places.RETURN
control_place s Return = Places.RETURN

-- two registers, in this order or the other
abbrev pub two_registers : InstructionSet → Bool → (first last : ℕ) → List ℕ
two_registers s kept first last = if kept then general s first ∷ general s last ∷ [] else general s last ∷ general s first ∷ []

-- what is stored last, or first
abbrev pub store_pointer_numbers : InstructionSet → Bool → (base entry from : ℕ) → List ℕ
store_pointer_numbers s last base entry from = if last then general s base ∷ 8 * entry ∷ general s from ∷ [] else general s from ∷ general s base ∷ 8 * entry ∷ []

abbrev pub control_numbers : InstructionSet → Control → List ℕ
control_numbers s (LoadPtr to base entry) = general s to ∷ general s base ∷ 8 * entry ∷ []
control_numbers s (StorePtr base entry from) = store_pointer_numbers s s.style.stores_last base entry from
control_numbers s (Imm to n) = general s to ∷ n ∷ []
control_numbers s (AddImm to from down by) = general s to ∷ general s from ∷ (if is_pages s down by then by / 4096 else by) ∷ []
control_numbers s (AddReg to left right) = general s to ∷ general s left ∷ general s right ∷ []
control_numbers s (LoadByte to at) = general s to ∷ general s at ∷ []
control_numbers s (LoadHalf to at) = general s to ∷ general s at ∷ []
control_numbers s (StoreByte at from) = two_registers s s.style.stores_last at from
control_numbers s (StoreHalf at from) = two_registers s s.style.stores_last at from
control_numbers s (Controls.Compare left right) = two_registers s (not s.style.packets) left right
control_numbers s (Below label) = []
control_numbers s (Jump label) = []
control_numbers s Return = []

-- a place of the table. Values that are no instructions may name others; they have the first.
abbrev pub row_place : InstructionSet → ℕ → ℕ
row_place s place = if nat_lt place s.places then place else 0

abbrev pub printed : InstructionSet → TableLine Instruction → Spelling
printed s (Vector i) = record { place = row_place s (place_of s i); numbers = numbers s i }
printed s (OfControl c) = record { place = control_place s c; numbers = control_numbers s c }

-- the constants 2 ^ 32 - 1 to 2 ^ 32 - 4 are also read as -1 to -4 in packets
abbrev pub also_constant : InstructionSet → ℕ → Option Spelling
also_constant s n = if s.style.packets && nat_lt (2 ^ 32 - 5) n then Some (record { place = Places.NEGATIVE_CONSTANT; numbers = 7 ∷ (2 ^ 32 - n) ∷ [] }) else None

abbrev pub also : InstructionSet → TableLine Instruction → Option Spelling
also s (Vector (Constant n)) = also_constant s n
also s x = None

-- what the operands of a line are

-- the role of a general register
abbrev pub role : InstructionSet → ℕ → ℕ
role s n = (if s.style.packets && n == 8 then 7 else n) % 256

abbrev nth : List ℕ → ℕ → ℕ
nth ns k = slice_index ns k

abbrev pub double : List ℕ → Double
double ns = record { to = nth ns 0; from = nth ns 1 }

abbrev pub triple : List ℕ → Triple
triple ns = record { to = nth ns 0; left = nth ns 1; right = nth ns 2 }

-- two vectors, from a place on
abbrev pub sources : List ℕ → ℕ → Sources
sources ns k = record { left = nth ns k; right = nth ns (k + 1) }

abbrev pub ends : List ℕ → Ends
ends ns = record { low = nth ns 1; high = nth ns 0 }

abbrev pub transfer : InstructionSet → (vector base offset : ℕ) → Transfer
transfer s vector base offset = record { vector = vector; base = role s base; j = offset / s.style.unit % 256 }

abbrev pub stored : InstructionSet → List ℕ → Transfer
stored s ns = if s.style.stores_last then transfer s (nth ns 2) (nth ns 0) (nth ns 1) else transfer s (nth ns 0) (nth ns 1) (nth ns 2)

-- a number is set in the constant register or in a general one
abbrev pub is_constant : Option ℕ → ℕ → Bool
is_constant None n = false
is_constant (Some k) n = n == k

abbrev pub set_number : InstructionSet → List ℕ → TableLine Instruction
set_number s ns = if is_constant s.style.constant (nth ns 0) then Vector (Constant (nth ns 1)) else OfControl (Imm (role s (nth ns 0)) (nth ns 1 % 65536))

abbrev pub store_pointer : InstructionSet → List ℕ → Control
store_pointer s ns = if s.style.stores_last then StorePtr (role s (nth ns 0)) (nth ns 1 / 8 % 256) (role s (nth ns 2)) else StorePtr (role s (nth ns 1)) (nth ns 2 / 8 % 256) (role s (nth ns 0))

-- the role at one place or at the other
abbrev pub role_at : InstructionSet → Bool → List ℕ → ℕ → ℕ → ℕ
role_at s first ns k l = role s (nth ns (if first then k else l))

-- the instruction of a row with these operands
abbrev pub made_by_shape : InstructionSet → Shape → (place : ℕ) → List ℕ → Option (TableLine Instruction)
made_by_shape s Shapes.Absent place ns = None
made_by_shape s Shapes.Load place ns = Some (Vector (Load (transfer s (nth ns 0) (nth ns 1) (nth ns 2))))
made_by_shape s Shapes.Store place ns = Some (Vector (Store (stored s ns)))
made_by_shape s Shapes.Copy place ns = Some (Vector (Copy (double ns)))
made_by_shape s Shapes.Constant place ns = Some (Vector (Constant (nth ns 0)))
made_by_shape s Shapes.ConstantHigh place ns = Some (Vector (ConstantHigh (nth ns 0)))
made_by_shape s Shapes.FromConstant place ns = Some (Vector (FromConstant place (nth ns 0)))
made_by_shape s Shapes.Unary place ns = Some (Vector (Unary place (double ns)))
made_by_shape s Shapes.Binary place ns = Some (Vector (Binary place (triple ns)))
made_by_shape s Shapes.Accumulate place ns = Some (Vector (Accumulate place (triple ns)))
made_by_shape s Shapes.Shift place ns = Some (Vector (Shift place (double ns) (nth ns 2 % 256)))
made_by_shape s Shapes.ByConstant place ns = Some (Vector (ByConstant place (double ns)))
made_by_shape s Shapes.JoinedByConstant place ns = Some (Vector (JoinedByConstant place (triple ns)))
made_by_shape s Shapes.Upper place ns = Some (Vector (Upper place (double ns)))
made_by_shape s Shapes.UpperShift place ns = Some (Vector (UpperShift place (double ns) (nth ns 2 % 256)))
made_by_shape s Shapes.Blend place ns = Some (Vector (Blend place (triple ns) (nth ns 3)))
made_by_shape s Shapes.Choose place ns = Some (Vector (Choose place (triple ns)))
made_by_shape s Shapes.Compare place ns = Some (Vector (Compare place (sources ns 0)))
made_by_shape s Shapes.Pair place ns = Some (Vector (Pair place (ends ns) (sources ns 2)))
made_by_shape s Shapes.PairUnary place ns = Some (Vector (PairUnary place (ends ns) (nth ns 2)))
made_by_shape s Shapes.Move place ns = Some (Vector (Move place (ends ns) (sources ns 2)))
made_by_shape s Shapes.NegativeConstant place ns = Some (Vector (Constant ((2 ^ 32 - nth ns 1) % 2 ^ 32)))
made_by_shape s Shapes.LoadPointer place ns = Some (OfControl (LoadPtr (role s (nth ns 0)) (role s (nth ns 1)) (nth ns 2 / 8 % 256)))
made_by_shape s Shapes.StorePointer place ns = Some (OfControl (store_pointer s ns))
made_by_shape s Shapes.SetNumber place ns = Some (set_number s ns)
made_by_shape s Shapes.Add place ns = Some (OfControl (AddImm (role s (nth ns 0)) (role s (nth ns 1)) false (nth ns 2)))
made_by_shape s Shapes.Sub place ns = Some (OfControl (AddImm (role s (nth ns 0)) (role s (nth ns 1)) true (nth ns 2)))
made_by_shape s Shapes.AddPages place ns = Some (OfControl (AddImm (role s (nth ns 0)) (role s (nth ns 1)) false (nth ns 2 % 65536 * 4096)))
made_by_shape s Shapes.AddRegister place ns = Some (OfControl (AddReg (role s (nth ns 0)) (role s (nth ns 1)) (role s (nth ns 2))))
made_by_shape s Shapes.LoadByte place ns = Some (OfControl (LoadByte (role s (nth ns 0)) (role s (nth ns 1))))
made_by_shape s Shapes.LoadHalf place ns = Some (OfControl (LoadHalf (role s (nth ns 0)) (role s (nth ns 1))))
made_by_shape s Shapes.StoreByte place ns = Some (OfControl (StoreByte (role_at s s.style.stores_last ns 0 1) (role_at s s.style.stores_last ns 1 0)))
made_by_shape s Shapes.StoreHalf place ns = Some (OfControl (StoreHalf (role_at s s.style.stores_last ns 0 1) (role_at s s.style.stores_last ns 1 0)))
made_by_shape s Shapes.CompareNumbers place ns = Some (OfControl (Controls.Compare (role_at s (not s.style.packets) ns 0 1) (role_at s (not s.style.packets) ns 1 0)))
made_by_shape s Shapes.Return place ns = Some (OfControl Return)

abbrev pub is_there : Shape → Bool
is_there Shapes.Absent = false
is_there shape = true

abbrev pub lines : InstructionSet → LineTable (TableLine Instruction)
lines s = record {
  places = s.places;
  is = λ k. is_there (s.row k).shape;
  word = s.word;
  pattern = s.pattern;
  printed = printed s;
  also = also s;
  made = λ k ns. made_by_shape s (s.row k).shape k ns;
}
