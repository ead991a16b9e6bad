-- What the instructions of a table make: lanes by the recipes of their rows.
use Rattle.std.specs.Prelude.{ℕ, ◌+◌, ◌*◌, ◌/◌, ◌%◌, ◌-◌, ◌^◌, ◌==◌, nat_lt, Bool, true, false, if◌then◌else◌, List, [], ◌∷◌, ◌++◌, Option, Some, None, map, take, replicate, slice_index, slice_index_or}
use Rattle.pf_ints.specs.declared.lane.LaneType.{LaneType}
use Rattle.pf_ints.specs.declared.lane.Bits.{Bits}
use Rattle.pf_ints.specs.declared.lane.Bits.TheVariants.{Eight, Sixteen, ThirtyTwo}
use Rattle.pf_ints.specs.Meaning.Lanes.{lane_width}
use Rattle.pf_values.specs.declared.op.Op.TheVariants.{Cast}
use Rattle.pf_lanes.specs.declared.recipes.Place.{Place}
use Rattle.pf_lanes.specs.declared.recipes.Place.TheVariants.{Same, From, Even, Odd}
use Rattle.pf_lanes.specs.declared.recipes.Recipe.{Recipe}
use Rattle.pf_lanes.specs.declared.recipes.Operands.TheVariants.{InTurn}
use Rattle.pf_lanes.specs.declared.works.Work.TheVariants.{Operator}
use Rattle.pf_lanes.specs.Meaning.Lanes.{bytes_of}
use Rattle.pf_lanes.specs.Meaning.Recipes.{computed}
use Rattle.pf_machine.specs.Meaning.Bytes.{bytes}
use Rattle.pf_tables.specs.declared.row.Row.{Row}
use Rattle.pf_tables.specs.declared.row.Extent.{Extent}
use Rattle.pf_tables.specs.declared.row.Extent.TheVariants.{Whole, Lower}
use Rattle.pf_tables.specs.declared.instruction.Instruction.{Instruction}
use Rattle.pf_tables.specs.declared.instruction.Instruction.TheVariants.{Load, Store, Copy, Constant, ConstantHigh, FromConstant, Unary, Binary, Accumulate, Shift, ByConstant, JoinedByConstant, Upper, UpperShift, Blend, Choose, Compare, Pair, PairUnary, Move}
use Rattle.pf_tables.specs.Meaning.Sets.{InstructionSet}

-- so many bytes that a recipe makes of up to three vectors
abbrev pub lanes_of : ℕ → Recipe → ℕ → (a b c : List ℕ) → List ℕ
lanes_of size r k a b c = computed r k (size / bytes_of r.to) a b c

-- a vector of them: all of it, or its lower half, and zeros above
abbrev pub vector_of : ℕ → Extent → Recipe → ℕ → (a b c : List ℕ) → List ℕ
vector_of size Whole r k a b c = lanes_of size r k a b c
vector_of size Lower r k a b c = lanes_of (size / 2) r k a b c ++ replicate (size / 2) 0

-- the upper half of a vector that keeps its lower half
abbrev pub upper_of : ℕ → Recipe → ℕ → (kept a : List ℕ) → List ℕ
upper_of size r k kept a = take (size / 2) kept ++ lanes_of (size / 2) r k a a a

-- a truth value for each byte: whether it isn't 0
abbrev pub truths : List ℕ → List ℕ
truths bs = map (λ b. if nat_lt 0 b then 1 else 0) bs

-- the two vectors of a pair, the lower one first
abbrev pub pair_of : ℕ → Row → (a b : List ℕ) → List (List ℕ)
pair_of size r a b = lanes_of size r.recipe r.amount a b b ∷ lanes_of size r.high r.amount a b b ∷ []

-- the elements that a constant register of -1, -2 or -4 stands for
abbrev pub unsigned : Bits → LaneType
unsigned bits = record { signed = false; bits = bits }

abbrev pub elements : ℕ → Option LaneType
elements k = if k == 2 ^ 32 - 1 then Some (unsigned Eight) else if k == 2 ^ 32 - 2 then Some (unsigned Sixteen) else if k == 2 ^ 32 - 4 then Some (unsigned ThirtyTwo) else None

-- so many elements of the lower and of the upper vector in turn
abbrev pub turns : ℕ → Place → LaneType → Recipe
turns run place ty = record { operands = InTurn run (record { ty = ty; place = place }) (record { ty = ty; place = place }); work = Operator Cast; to = ty }

-- half as many elements as a vector has
abbrev pub half_count : ℕ → LaneType → ℕ
half_count size ty = size / 2 / bytes_of ty

-- how the lower and the upper vector are made of elements of both in turn; or, swapped, of the even ones first, and then the odd ones
abbrev pub lower : ℕ → Bool → LaneType → Recipe
lower size false ty = turns 1 Same ty
lower size true ty = turns (half_count size ty) Even ty

abbrev pub upper : ℕ → Bool → LaneType → Recipe
upper size false ty = turns 1 (From (half_count size ty)) ty
upper size true ty = turns (half_count size ty) Odd ty

-- two vectors with their elements moved; where the elements are of no size, they stay
abbrev pub moved : ℕ → Bool → Option LaneType → (low high : List ℕ) → List (List ℕ)
moved size separated None low high = low ∷ high ∷ []
moved size separated (Some ty) low high = lanes_of size (lower size separated ty) 0 low high high ∷ lanes_of size (upper size separated ty) 0 low high high ∷ []

-- what is held, by its number, and as one number
abbrev pub nth : List (List ℕ) → ℕ → List ℕ
nth held k = slice_index_or held k []

abbrev pub nth_number : List (List ℕ) → ℕ → ℕ
nth_number held k = slice_index (nth held k) 0

-- the constant register as a vector
abbrev pub spread : ℕ → ℕ → List ℕ
spread size k = bytes 4 k ++ replicate (size - 4) 0

-- what a row makes of up to three vectors by an amount
abbrev pub made_by : ℕ → Row → ℕ → (a b c : List ℕ) → List ℕ
made_by size r k a b c = vector_of size r.extent r.recipe k a b c

-- the amount of a shift that the constant register has
abbrev pub amount_in : Row → ℕ → ℕ
amount_in r k = k % lane_width r.recipe.to

-- the same of two vectors, in the order of the row
abbrev pub made_by_two : ℕ → Row → (a b : List ℕ) → List ℕ
made_by_two size r a b = if r.swapped then made_by size r r.amount b a a else made_by size r r.amount a b b

abbrev pub outcome : InstructionSet → Instruction → List (List ℕ) → List (List ℕ)
outcome s (Load r) held = []
outcome s (Store r) held = []
outcome s (Copy r) held = nth held 0 ∷ []
outcome s (Constant n) held = (n ∷ []) ∷ []
outcome s (ConstantHigh n) held = ((n * 65536 + nth_number held 0 % 65536) ∷ []) ∷ []
outcome s (FromConstant place to) held = let k = spread s.vector (nth_number held 0) in made_by s.vector (s.row place) (s.row place).amount k k k ∷ []
outcome s (Unary place r) held = made_by s.vector (s.row place) (s.row place).amount (nth held 0) (nth held 0) (nth held 0) ∷ []
outcome s (Binary place r) held = made_by_two s.vector (s.row place) (nth held 0) (nth held 1) ∷ []
outcome s (Accumulate place r) held = made_by s.vector (s.row place) (s.row place).amount (nth held 0) (nth held 1) (nth held 2) ∷ []
outcome s (Shift place r by) held = made_by s.vector (s.row place) by (nth held 0) (nth held 0) (nth held 0) ∷ []
outcome s (ByConstant place r) held = made_by s.vector (s.row place) (amount_in (s.row place) (nth_number held 1)) (nth held 0) (nth held 0) (nth held 0) ∷ []
outcome s (JoinedByConstant place r) held = made_by s.vector (s.row place) (amount_in (s.row place) (nth_number held 2)) (nth held 1) (nth held 0) (nth held 0) ∷ []
outcome s (Upper place r) held = upper_of s.vector (s.row place).recipe (s.row place).amount (nth held 0) (nth held 1) ∷ []
outcome s (UpperShift place r by) held = upper_of s.vector (s.row place).recipe by (nth held 0) (nth held 1) ∷ []
outcome s (Blend place r mask) held = made_by s.vector (s.row place) (s.row place).amount (nth held 2) (nth held 1) (nth held 0) ∷ []
outcome s (Choose place r) held = made_by s.vector (s.row place) (s.row place).amount (nth held 2) (nth held 0) (nth held 1) ∷ []
outcome s (Compare place r) held = truths (made_by_two s.vector (s.row place) (nth held 0) (nth held 1)) ∷ []
outcome s (Pair place to r) held = pair_of s.vector (s.row place) (nth held 0) (nth held 1)
outcome s (PairUnary place to from) held = pair_of s.vector (s.row place) (nth held 0) (nth held 0)
outcome s (Move place to r) held = moved s.vector (s.row place).swapped (elements (nth_number held 2)) (nth held 1) (nth held 0)
