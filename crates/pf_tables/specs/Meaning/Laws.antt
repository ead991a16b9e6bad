-- What a target owes of its table of rows: all of it is computed, over the whole table.
use Rattle.std.specs.Prelude.{◌≡◌, ℕ, ◌+◌, ◌/◌, ◌%◌, ◌≤◌, Bool, true, false, not, ◌&&◌, ◌||◌, nat_lt, ◌==◌, List, [], ◌∷◌, Option, Some, None, if◌then◌else◌}
use Rattle.pf_ints.specs.declared.lane.LaneType.{LaneType}
use Rattle.pf_ints.specs.declared.lane.Bits.TheVariants.{Eight, Sixteen, ThirtyTwo}
use Rattle.pf_frames.specs.Meaning.Frames.{marks}
use Rattle.pf_frames.specs.Meaning.LineTables.{frame}
use Rattle.pf_frames.specs.Meaning.FrameTests.{bare, frames_below, are_all_apart, all_below, is_forked, is_around}
use Rattle.pf_frames.specs.Meaning.Laws.{is_good_at, is_short_at, is_no_jump_at}
use Rattle.pf_lanes.specs.declared.recipes.Recipe.{Recipe}
use Rattle.pf_lanes.specs.Meaning.Lanes.{bytes_of}
use Rattle.pf_lanes.specs.Meaning.Recipes.{have_room}
use Rattle.pf_tables.specs.declared.row.Row.{Row}
use Rattle.pf_tables.specs.declared.row.Extent.{Extent}
use Rattle.pf_tables.specs.declared.row.Extent.TheVariants.{Whole, Lower}
use Rattle.pf_tables.specs.declared.row.Shape.{Shape}
use Rattle.pf_tables.specs.declared.row.Shape.TheVariants as Shapes
use Rattle.pf_tables.specs.declared.row.place.TheConstants as Places
use Rattle.pf_tables.specs.declared.row.Style.{Style}
use Rattle.pf_tables.specs.Meaning.Sets.{InstructionSet}
use Rattle.pf_tables.specs.Meaning.Effects.{lower, upper, unsigned}
use Rattle.pf_tables.specs.Meaning.Lines.{lines}

-- three vectors have the lanes that a recipe takes for so many bytes of the result
abbrev pub recipe_fits : ℕ → ℕ → Recipe → Bool
recipe_fits size result r = have_room r.operands size size size (result / bytes_of r.to)

abbrev pub made_bytes : ℕ → Extent → ℕ
made_bytes size Whole = size
made_bytes size Lower = size / 2

-- a row's recipes fit its shape, and its amounts are none too large
abbrev pub result_bytes : ℕ → Shape → Extent → ℕ
result_bytes size Shapes.Upper e = size / 2
result_bytes size Shapes.UpperShift e = size / 2
result_bytes size Shapes.Pair e = size
result_bytes size Shapes.PairUnary e = size
result_bytes size shape e = made_bytes size e

abbrev pub is_sound_row : InstructionSet → Row → Bool
is_sound_row s r = recipe_fits s.vector (result_bytes s.vector r.shape r.extent) r.recipe && recipe_fits s.vector s.vector r.high && nat_lt r.amount 64 && nat_lt r.most 64

-- two vectors have the elements that are moved, of each size
abbrev pub can_move : ℕ → LaneType → Bool
can_move size ty = recipe_fits size size (lower size false ty) && (recipe_fits size size (lower size true ty) && (recipe_fits size size (upper size false ty) && recipe_fits size size (upper size true ty)))

unfoldable pub moves_all : ℕ → Bool
moves_all size = can_move size (unsigned Eight) && (can_move size (unsigned Sixteen) && can_move size (unsigned ThirtyTwo))

-- what the marks of a row's frame are for: general registers, or numbers
abbrev pub number : Bool
number = false

abbrev pub register : Bool
register = true

-- a register is written at any mark, a number at a mark for numbers alone
abbrev pub suit : List Bool → List ℕ → Bool
suit [] [] = true
suit [] (m ∷ ms) = false
suit (sort ∷ sorts) [] = false
suit (sort ∷ sorts) (m ∷ ms) = (sort || m == 0) && suit sorts ms

abbrev pub either : Bool → List Bool → List Bool → List Bool
either which xs ys = if which then xs else ys

abbrev pub sorts : Style → Shape → List Bool
sorts style Shapes.Absent = []
sorts style Shapes.Load = number ∷ register ∷ number ∷ []
sorts style Shapes.Store = either style.stores_last (register ∷ number ∷ number ∷ []) (number ∷ register ∷ number ∷ [])
sorts style Shapes.Copy = number ∷ number ∷ []
sorts style Shapes.Constant = number ∷ []
sorts style Shapes.ConstantHigh = number ∷ []
sorts style Shapes.FromConstant = number ∷ []
sorts style Shapes.Unary = number ∷ number ∷ []
sorts style Shapes.Binary = number ∷ number ∷ number ∷ []
sorts style Shapes.Accumulate = number ∷ number ∷ number ∷ []
sorts style Shapes.Shift = number ∷ number ∷ number ∷ []
sorts style Shapes.ByConstant = number ∷ number ∷ []
sorts style Shapes.JoinedByConstant = number ∷ number ∷ number ∷ []
sorts style Shapes.Upper = number ∷ number ∷ []
sorts style Shapes.UpperShift = number ∷ number ∷ number ∷ []
sorts style Shapes.Blend = number ∷ number ∷ number ∷ number ∷ []
sorts style Shapes.Choose = number ∷ number ∷ number ∷ []
sorts style Shapes.Compare = number ∷ number ∷ []
sorts style Shapes.Pair = number ∷ number ∷ number ∷ number ∷ []
sorts style Shapes.PairUnary = number ∷ number ∷ number ∷ []
sorts style Shapes.Move = number ∷ number ∷ number ∷ number ∷ []
sorts style Shapes.NegativeConstant = register ∷ number ∷ []
sorts style Shapes.LoadPointer = register ∷ register ∷ number ∷ []
sorts style Shapes.StorePointer = either style.stores_last (register ∷ number ∷ register ∷ []) (register ∷ register ∷ number ∷ [])
sorts style Shapes.SetNumber = register ∷ number ∷ []
sorts style Shapes.Add = register ∷ register ∷ number ∷ []
sorts style Shapes.Sub = register ∷ register ∷ number ∷ []
sorts style Shapes.AddPages = register ∷ register ∷ number ∷ []
sorts style Shapes.AddRegister = register ∷ register ∷ register ∷ []
sorts style Shapes.LoadByte = register ∷ register ∷ []
sorts style Shapes.LoadHalf = register ∷ register ∷ []
sorts style Shapes.StoreByte = register ∷ register ∷ []
sorts style Shapes.StoreHalf = register ∷ register ∷ []
sorts style Shapes.CompareNumbers = register ∷ register ∷ []
sorts style Shapes.Return = []

abbrev pub is_suited : InstructionSet → ℕ → Bool
is_suited s place = suit (sorts s.style (s.row place).shape) (marks (frame (lines s) place))

-- the constant register's number is none of a general register's
abbrev pub is_other_register : Bool → Option ℕ → Bool
is_other_register packets None = not packets
is_other_register true (Some n) = n == 7
is_other_register false (Some n) = n == 8

-- the rows that each table has at the same place
pub record HasFixedRows (s : InstructionSet) : Type 0 where
  pub load_pointer : (s.row Places.LOAD_POINTER).shape ≡ Shapes.LoadPointer
  pub store_pointer : (s.row Places.STORE_POINTER).shape ≡ Shapes.StorePointer
  pub set_number : (s.row Places.SET_NUMBER).shape ≡ Shapes.SetNumber
  pub add : (s.row Places.ADD).shape ≡ Shapes.Add
  pub sub : (s.row Places.SUB).shape ≡ Shapes.Sub
  pub add_register : (s.row Places.ADD_REGISTER).shape ≡ Shapes.AddRegister
  pub load_byte : (s.row Places.LOAD_BYTE).shape ≡ Shapes.LoadByte
  pub load_half : (s.row Places.LOAD_HALF).shape ≡ Shapes.LoadHalf
  pub store_byte : (s.row Places.STORE_BYTE).shape ≡ Shapes.StoreByte
  pub store_half : (s.row Places.STORE_HALF).shape ≡ Shapes.StoreHalf
  pub compare : (s.row Places.COMPARE).shape ≡ Shapes.CompareNumbers
  pub return : (s.row Places.RETURN).shape ≡ Shapes.Return
  pub add_pages : s.style.adds_pages ≡ true → (s.row Places.ADD_PAGES).shape ≡ Shapes.AddPages
  pub negative : s.style.packets ≡ true → (s.row Places.NEGATIVE_CONSTANT).shape ≡ Shapes.NegativeConstant
  pub load : (s.row Places.LOAD).shape ≡ Shapes.Load
  pub store : (s.row Places.STORE).shape ≡ Shapes.Store
  pub copy : (s.row Places.COPY).shape ≡ Shapes.Copy
  pub constants : s.style.constant ≡ None → ((s.row Places.CONSTANT).shape ≡ Shapes.Constant) × ((s.row Places.CONSTANT_HIGH).shape ≡ Shapes.ConstantHigh)
  pub load_cost : (s.row Places.LOAD).cost ≡ 0
  pub store_cost : (s.row Places.STORE).cost ≡ 0
  pub copy_cost : (s.row Places.COPY).cost ≡ 0

pub record IsSet (s : InstructionSet) : Type 0 where
  pub some_bytes : 16 ≤ s.vector
  pub few_bytes : s.vector ≤ 128
  pub whole : s.vector % 8 ≡ 0
  pub some_rows : 19 ≤ s.places
  -- vectors, and the names that stand for one of them for good
  pub few_vectors : s.vectors ≤ 32
  pub room : s.names + 4 ≤ s.vectors
  pub free : s.style.packets ≡ true → (s.names + 4 ≤ 30) × (s.vectors ≡ 32)
  pub unit : 1 ≤ s.style.unit
  pub small_unit : s.style.unit ≤ 128
  pub constant : is_other_register s.style.packets s.style.constant ≡ true
  pub fixed_rows : HasFixedRows s
  pub moves : moves_all s.vector ≡ true
  pub sound : all_below (λ k. is_sound_row s (s.row k)) s.places ≡ true
  pub suited : all_below (is_suited s) s.places ≡ true
  -- its lines
  pub apart : are_all_apart (frames_below (lines s).is (λ place. bare false (frame (lines s) place)) s.places) ≡ true
  pub good : all_below (is_good_at (lines s)) s.places ≡ true
  pub short : all_below (is_short_at (lines s)) s.places ≡ true
  pub below : is_around s.jumps.below.front s.jumps.below.back ≡ true
  pub onward : is_around s.jumps.onward.front s.jumps.onward.back ≡ true
  pub forked : is_forked s.jumps.below.front s.jumps.onward.front ≡ true
  pub no_jump : all_below (is_no_jump_at (lines s) s.jumps) s.places ≡ true
