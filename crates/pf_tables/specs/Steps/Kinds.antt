-- What an instruction leaves, and how its row makes it.
use Rattle.std.specs.Prelude.{◌≡◌, ℕ, ◌<◌, ◌/◌, Bool, true, false}
use Rattle.pf_tables.specs.declared.instruction.Instruction.{Instruction}
use Rattle.pf_tables.specs.declared.instruction.Instruction.TheVariants.{Copy, FromConstant, Unary, Binary, Accumulate, Shift, ByConstant, JoinedByConstant, Upper, UpperShift, Blend, Choose, Compare, Pair, PairUnary, Move}
use Rattle.pf_tables.specs.declared.row.Row.{Row}
use Rattle.pf_tables.specs.Meaning.Laws.{recipe_fits, made_bytes}

-- all lanes of a vector, or its lower ones
abbrev pub is_plain : Instruction → Bool
is_plain (FromConstant place to) = true
is_plain (Unary place r) = true
is_plain (Binary place r) = true
is_plain (Accumulate place r) = true
is_plain (Shift place r by) = true
is_plain (ByConstant place r) = true
is_plain (JoinedByConstant place r) = true
is_plain (Blend place r mask) = true
is_plain (Choose place r) = true
is_plain (Compare place r) = true
is_plain i = false

-- not of vectors alone by the row's own amount
abbrev pub is_special : Instruction → Bool
is_special (FromConstant place to) = true
is_special (Shift place r by) = true
is_special (ByConstant place r) = true
is_special (JoinedByConstant place r) = true
is_special (Choose place r) = true
is_special i = false

-- the upper lanes of one
abbrev pub is_half : Instruction → Bool
is_half (Upper place r) = true
is_half (UpperShift place r by) = true
is_half i = false

-- the lanes of two
abbrev pub is_double : Instruction → Bool
is_double (Pair place to r) = true
is_double (PairUnary place to from) = true
is_double i = false

abbrev pub makes_vector : Instruction → Bool
makes_vector (Copy r) = true
makes_vector (Compare place r) = false
makes_vector (Upper place r) = true
makes_vector (UpperShift place r by) = true
makes_vector i = is_plain i

abbrev pub makes_pair : Instruction → Bool
makes_pair (Move place to r) = true
makes_pair i = is_double i

-- vectors have the lanes that a row takes
pub record FitsPlain (size : ℕ) (r : Row) : Type 0 where
  pub room : recipe_fits size (made_bytes size r.extent) r.recipe ≡ true
  pub amount : r.amount < 64
  pub most : r.most < 64

pub record FitsHalf (size : ℕ) (r : Row) : Type 0 where
  pub room : recipe_fits size (size / 2) r.recipe ≡ true
  pub amount : r.amount < 64
  pub most : r.most < 64

pub record FitsPair (size : ℕ) (r : Row) : Type 0 where
  pub low : recipe_fits size size r.recipe ≡ true
  pub high : recipe_fits size size r.high ≡ true
  pub amount : r.amount < 64
