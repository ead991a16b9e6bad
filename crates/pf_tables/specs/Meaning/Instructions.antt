-- Instructions of a table: which there are, what they read and change, what they cost.
use Rattle.std.specs.Prelude.{◌≡◌, ℕ, ◌<◌, ◌*◌, ◌^◌, nat_lt, nat_le, Bool, ◌&&◌, ◌==◌, List, [], ◌∷◌, true, false, if◌then◌else◌, Option, Some, None}
use Rattle.pf_lanes.specs.Meaning.Registers.{renamed_double, renamed_triple, renamed_transfer}
use Rattle.pf_machine.specs.declared.registers.Reg.{Reg}
use Rattle.pf_machine.specs.declared.registers.Reg.TheVariants.{V, K, Q}
use Rattle.pf_machine.specs.declared.access.Access.{Access}
use Rattle.pf_machine.specs.Meaning.RegisterFiles.{renamed_vector}
use Rattle.pf_tables.specs.declared.row.Shape.{Shape}
use Rattle.pf_tables.specs.declared.row.Shape.TheVariants as Shapes
use Rattle.pf_tables.specs.declared.row.place.TheConstants as Places
use Rattle.pf_tables.specs.declared.operands.Ends.{Ends}
use Rattle.pf_tables.specs.declared.instruction.Instruction.{Instruction}
use Rattle.pf_tables.specs.declared.instruction.Instruction.TheVariants.{Load, Store, Copy, Constant, ConstantHigh, FromConstant, Unary, Binary, Accumulate, Shift, ByConstant, JoinedByConstant, Upper, UpperShift, Blend, Choose, Compare, Pair, PairUnary, Move}
use Rattle.pf_tables.specs.Meaning.Registers.{renamed_sources, renamed_ends, double_by, triple_by, transfer_by, sources_by, ends_by}
use Rattle.pf_tables.specs.Meaning.Sets.{InstructionSet, is_fixed}

-- the place of its row. A constant register that is one of the general ones is set by their line.
abbrev pub constant_place : Option ℕ → ℕ
constant_place None = Places.CONSTANT
constant_place (Some n) = Places.SET_NUMBER

abbrev pub place_of : InstructionSet → Instruction → ℕ
place_of s (Load r) = Places.LOAD
place_of s (Store r) = Places.STORE
place_of s (Copy r) = Places.COPY
place_of s (Constant n) = constant_place s.style.constant
place_of s (ConstantHigh n) = Places.CONSTANT_HIGH
place_of s (FromConstant place to) = place
place_of s (Unary place r) = place
place_of s (Binary place r) = place
place_of s (Accumulate place r) = place
place_of s (Shift place r by) = place
place_of s (ByConstant place r) = place
place_of s (JoinedByConstant place r) = place
place_of s (Upper place r) = place
place_of s (UpperShift place r by) = place
place_of s (Blend place r mask) = place
place_of s (Choose place r) = place
place_of s (Compare place r) = place
place_of s (Pair place to r) = place
place_of s (PairUnary place to from) = place
place_of s (Move place to r) = place

-- the shape of the operands
abbrev pub constant_shape : Option ℕ → Shape
constant_shape None = Shapes.Constant
constant_shape (Some n) = Shapes.SetNumber

abbrev pub shape_of : InstructionSet → Instruction → Shape
shape_of s (Load r) = Shapes.Load
shape_of s (Store r) = Shapes.Store
shape_of s (Copy r) = Shapes.Copy
shape_of s (Constant n) = constant_shape s.style.constant
shape_of s (ConstantHigh n) = Shapes.ConstantHigh
shape_of s (FromConstant place to) = Shapes.FromConstant
shape_of s (Unary place r) = Shapes.Unary
shape_of s (Binary place r) = Shapes.Binary
shape_of s (Accumulate place r) = Shapes.Accumulate
shape_of s (Shift place r by) = Shapes.Shift
shape_of s (ByConstant place r) = Shapes.ByConstant
shape_of s (JoinedByConstant place r) = Shapes.JoinedByConstant
shape_of s (Upper place r) = Shapes.Upper
shape_of s (UpperShift place r by) = Shapes.UpperShift
shape_of s (Blend place r mask) = Shapes.Blend
shape_of s (Choose place r) = Shapes.Choose
shape_of s (Compare place r) = Shapes.Compare
shape_of s (Pair place to r) = Shapes.Pair
shape_of s (PairUnary place to from) = Shapes.PairUnary
shape_of s (Move place to r) = Shapes.Move

-- its numbers that name no vector are such as the table has, and a pair is v31:30
abbrev pub constant_limit : Option ℕ → ℕ
constant_limit None = 2 ^ 16
constant_limit (Some n) = 2 ^ 32

abbrev pub is_amount : InstructionSet → ℕ → ℕ → Bool
is_amount s place by = nat_le (s.row place).least by && nat_le by (s.row place).most

abbrev pub is_pair : InstructionSet → Ends → Bool
is_pair s to = s.style.packets && (to.low == 30 && to.high == 31)

abbrev pub has_numbers : InstructionSet → Instruction → Bool
has_numbers s (Load r) = nat_lt r.base 8 && nat_lt r.j 8
has_numbers s (Store r) = nat_lt r.base 8 && nat_lt r.j 8
has_numbers s (Copy r) = true
has_numbers s (Constant n) = nat_lt n (constant_limit s.style.constant)
has_numbers s (ConstantHigh n) = nat_lt n (2 ^ 16)
has_numbers s (FromConstant place to) = true
has_numbers s (Unary place r) = true
has_numbers s (Binary place r) = true
has_numbers s (Accumulate place r) = true
has_numbers s (Shift place r by) = is_amount s place by
has_numbers s (ByConstant place r) = true
has_numbers s (JoinedByConstant place r) = true
has_numbers s (Upper place r) = true
has_numbers s (UpperShift place r by) = is_amount s place by
has_numbers s (Blend place r mask) = true
has_numbers s (Choose place r) = true
has_numbers s (Compare place r) = true
has_numbers s (Pair place to r) = is_pair s to
has_numbers s (PairUnary place to from) = is_pair s to
has_numbers s (Move place to r) = is_pair s to

-- the values that are instructions: there is such a row, and it is of the shape
pub record IsListed (s : InstructionSet) (i : Instruction) : Type 0 where
  pub inside : place_of s i < s.places
  pub shape : (s.row (place_of s i)).shape ≡ shape_of s i
  pub numbers : has_numbers s i ≡ true

abbrev pub uses : Instruction → List Reg
uses (Load r) = []
uses (Store r) = V r.vector ∷ []
uses (Copy r) = V r.from ∷ []
uses (Constant n) = []
uses (ConstantHigh n) = K ∷ []
uses (FromConstant place to) = K ∷ []
uses (Unary place r) = V r.from ∷ []
uses (Binary place r) = V r.left ∷ V r.right ∷ []
uses (Accumulate place r) = V r.to ∷ V r.left ∷ V r.right ∷ []
uses (Shift place r by) = V r.from ∷ []
uses (ByConstant place r) = V r.from ∷ K ∷ []
uses (JoinedByConstant place r) = V r.left ∷ V r.right ∷ K ∷ []
uses (Upper place r) = V r.to ∷ V r.from ∷ []
uses (UpperShift place r by) = V r.to ∷ V r.from ∷ []
uses (Blend place r mask) = V r.left ∷ V r.right ∷ V mask ∷ []
uses (Choose place r) = V r.left ∷ V r.right ∷ Q ∷ []
uses (Compare place r) = V r.left ∷ V r.right ∷ []
uses (Pair place to r) = V r.left ∷ V r.right ∷ []
uses (PairUnary place to from) = V from ∷ []
uses (Move place to r) = V r.left ∷ V r.right ∷ K ∷ []

abbrev pub defs : Instruction → List Reg
defs (Load r) = V r.vector ∷ []
defs (Store r) = []
defs (Copy r) = V r.to ∷ []
defs (Constant n) = K ∷ []
defs (ConstantHigh n) = K ∷ []
defs (FromConstant place to) = V to ∷ []
defs (Unary place r) = V r.to ∷ []
defs (Binary place r) = V r.to ∷ []
defs (Accumulate place r) = V r.to ∷ []
defs (Shift place r by) = V r.to ∷ []
defs (ByConstant place r) = V r.to ∷ []
defs (JoinedByConstant place r) = V r.to ∷ []
defs (Upper place r) = V r.to ∷ []
defs (UpperShift place r by) = V r.to ∷ []
defs (Blend place r mask) = V r.to ∷ []
defs (Choose place r) = V r.to ∷ []
defs (Compare place r) = Q ∷ []
defs (Pair place to r) = V to.low ∷ V to.high ∷ []
defs (PairUnary place to from) = V to.low ∷ V to.high ∷ []
defs (Move place to r) = V to.low ∷ V to.high ∷ []

abbrev pub access : InstructionSet → Instruction → Option Access
access s (Load r) = Some (record { load = true; vector = r.vector; base = r.base; offset = r.j * s.vector })
access s (Store r) = Some (record { load = false; vector = r.vector; base = r.base; offset = r.j * s.vector })
access s i = None

abbrev pub cost : InstructionSet → Instruction → ℕ
cost s i = (s.row (place_of s i)).cost

-- with another name for a vector; a pair stays where the old name is one of those that stand for good
abbrev pub ends_renamed : InstructionSet → ℕ → ℕ → Ends → Ends
ends_renamed s old new to = if is_fixed s old then to else renamed_ends old new to

abbrev pub renamed : InstructionSet → Instruction → ℕ → ℕ → Instruction
renamed s (Load r) old new = Load (renamed_transfer old new r)
renamed s (Store r) old new = Store (renamed_transfer old new r)
renamed s (Copy r) old new = Copy (renamed_double old new r)
renamed s (Constant n) old new = Constant n
renamed s (ConstantHigh n) old new = ConstantHigh n
renamed s (FromConstant place to) old new = FromConstant place (renamed_vector old new to)
renamed s (Unary place r) old new = Unary place (renamed_double old new r)
renamed s (Binary place r) old new = Binary place (renamed_triple old new r)
renamed s (Accumulate place r) old new = Accumulate place (renamed_triple old new r)
renamed s (Shift place r by) old new = Shift place (renamed_double old new r) by
renamed s (ByConstant place r) old new = ByConstant place (renamed_double old new r)
renamed s (JoinedByConstant place r) old new = JoinedByConstant place (renamed_triple old new r)
renamed s (Upper place r) old new = Upper place (renamed_double old new r)
renamed s (UpperShift place r by) old new = UpperShift place (renamed_double old new r) by
renamed s (Blend place r mask) old new = Blend place (renamed_triple old new r) (renamed_vector old new mask)
renamed s (Choose place r) old new = Choose place (renamed_triple old new r)
renamed s (Compare place r) old new = Compare place (renamed_sources old new r)
renamed s (Pair place to r) old new = Pair place (ends_renamed s old new to) (renamed_sources old new r)
renamed s (PairUnary place to from) old new = PairUnary place (ends_renamed s old new to) (renamed_vector old new from)
renamed s (Move place to r) old new = Move place (ends_renamed s old new to) (renamed_sources old new r)

-- with other names for all vectors; fixed ones stay
abbrev pub unless_fixed : InstructionSet → (ℕ → ℕ) → ℕ → ℕ
unless_fixed s f n = if is_fixed s n then n else f n

abbrev pub renamed_all : InstructionSet → Instruction → (ℕ → ℕ) → Instruction
renamed_all s (Load r) f = Load (transfer_by f r)
renamed_all s (Store r) f = Store (transfer_by f r)
renamed_all s (Copy r) f = Copy (double_by f r)
renamed_all s (Constant n) f = Constant n
renamed_all s (ConstantHigh n) f = ConstantHigh n
renamed_all s (FromConstant place to) f = FromConstant place (f to)
renamed_all s (Unary place r) f = Unary place (double_by f r)
renamed_all s (Binary place r) f = Binary place (triple_by f r)
renamed_all s (Accumulate place r) f = Accumulate place (triple_by f r)
renamed_all s (Shift place r by) f = Shift place (double_by f r) by
renamed_all s (ByConstant place r) f = ByConstant place (double_by f r)
renamed_all s (JoinedByConstant place r) f = JoinedByConstant place (triple_by f r)
renamed_all s (Upper place r) f = Upper place (double_by f r)
renamed_all s (UpperShift place r by) f = UpperShift place (double_by f r) by
renamed_all s (Blend place r mask) f = Blend place (triple_by f r) (f mask)
renamed_all s (Choose place r) f = Choose place (triple_by f r)
renamed_all s (Compare place r) f = Compare place (sources_by f r)
renamed_all s (Pair place to r) f = Pair place (ends_by (unless_fixed s f) to) (sources_by f r)
renamed_all s (PairUnary place to from) f = PairUnary place (ends_by (unless_fixed s f) to) (f from)
renamed_all s (Move place to r) f = Move place (ends_by (unless_fixed s f) to) (sources_by f r)
