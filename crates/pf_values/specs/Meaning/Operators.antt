-- The table of the operators.
use Rattle.std.specs.Prelude.{ℕ, ℤ, pos, ◌-◌, ◌^◌, ◌+ℤ◌, ◌-ℤ◌, ◌*ℤ◌, Bool, ◌&&◌, if◌then◌else◌, int_lt, int_le, unsigned_abs, List, [], ◌∷◌}
use Rattle.std.specs.Int.{int_min, int_max}
use Rattle.pf_ints.specs.declared.lane.LaneType.{LaneType}
use Rattle.pf_ints.specs.Meaning.Lanes.{wrapped, clamped}
use Rattle.pf_ints.specs.Meaning.Whole.{floor_div}
use Rattle.pf_values.specs.declared.op.Op.{Op}
use Rattle.pf_values.specs.declared.op.Op.TheVariants.{Cast, Add, Sub, Mul, ShiftLeft, ShiftRight, Min, Max, SelectGreater, SelectEqual, Abs, WideningAdd, WideningSub, WideningMul, ExtendingAdd, HalvingAdd, RoundingHalvingAdd, HalvingSub, SaturatingAdd, SaturatingSub, SaturatingCast, Absd, RoundingShr, MulShr, RoundingMulShr}
use Rattle.pf_values.specs.declared.row.Operands.{Operands}
use Rattle.pf_values.specs.declared.row.Operands.TheVariants.{One, OneSigned, Alike, Narrow, WideFirst, Choice}
use Rattle.pf_values.specs.declared.row.Gives.{Gives}
use Rattle.pf_values.specs.declared.row.Gives.TheVariants.{Stated, First, Unsigned, Twice, SignedTwice, Third}
use Rattle.pf_values.specs.declared.row.Amounts.{Amounts}
use Rattle.pf_values.specs.declared.row.Amounts.TheVariants.{Without, Shift, RoundingShift, Product, RoundingProduct}

-- an operator: its operands, its result, its amounts, its weight, and its value by the type of the result, the amount and the operands' values
pub record Row : Type 0 where
  pub operands : Operands
  pub gives : Gives
  pub amounts : Amounts
  pub weight : ℕ
  pub value : LaneType → ℕ → List ℤ → ℤ

-- a function of one value, of two, of four, on a list of them
abbrev pub unary : (ℤ → ℤ) → List ℤ → ℤ
unary f (x ∷ _) = f x
unary f [] = pos 0

abbrev pub binary : (ℤ → ℤ → ℤ) → List ℤ → ℤ
binary f (x ∷ y ∷ _) = f x y
binary f _ = pos 0

abbrev pub choice : (ℤ → ℤ → Bool) → List ℤ → ℤ
choice is (a ∷ b ∷ x ∷ y ∷ _) = if is a b then x else y
choice is _ = pos 0

-- the two are equal
abbrev pub int_same : ℤ → ℤ → Bool
int_same a b = int_le a b && int_le b a

-- half a step of a division by 2 ^ k
abbrev pub half_step : ℕ → ℤ
half_step k = pos (2 ^ (k - 1))

-- the quotient by 2 ^ k, rounded down
abbrev pub shifted : ℤ → ℕ → ℤ
shifted x k = floor_div x (2 ^ k)

abbrev row : Operands → Gives → Amounts → ℕ → (LaneType → ℕ → List ℤ → ℤ) → Row
row operands gives amounts weight value = record { operands = operands; gives = gives; amounts = amounts; weight = weight; value = value }

-- t is the type of the result, k the amount. Where a row wraps or clamps, t is the stated type or that of the first operand.
abbrev pub row_of : Op → Row
row_of Cast = row One Stated Without 3 (λ t k. unary (λ x. wrapped t x))
row_of Add = row Alike First Without 3 (λ t k. binary (λ x y. wrapped t (x +ℤ y)))
row_of Sub = row Alike First Without 3 (λ t k. binary (λ x y. wrapped t (x -ℤ y)))
row_of Mul = row Alike First Without 3 (λ t k. binary (λ x y. wrapped t (x *ℤ y)))
row_of ShiftLeft = row One First Shift 3 (λ t k. unary (λ x. wrapped t (x *ℤ pos (2 ^ k))))
row_of ShiftRight = row One First Shift 3 (λ t k. unary (λ x. shifted x k))
row_of Min = row Alike First Without 3 (λ t k. binary (λ x y. int_min x y))
row_of Max = row Alike First Without 3 (λ t k. binary (λ x y. int_max x y))
row_of SelectGreater = row Choice Third Without 3 (λ t k. choice (λ a b. int_lt b a))
row_of SelectEqual = row Choice Third Without 3 (λ t k. choice (λ a b. int_same a b))
row_of Abs = row OneSigned Unsigned Without 2 (λ t k. unary (λ x. pos (unsigned_abs x)))
row_of WideningAdd = row Narrow Twice Without 2 (λ t k. binary (λ x y. x +ℤ y))
row_of WideningSub = row Narrow SignedTwice Without 2 (λ t k. binary (λ x y. x -ℤ y))
row_of WideningMul = row Narrow Twice Without 2 (λ t k. binary (λ x y. x *ℤ y))
row_of ExtendingAdd = row WideFirst First Without 2 (λ t k. binary (λ x y. wrapped t (x +ℤ y)))
row_of HalvingAdd = row Alike First Without 2 (λ t k. binary (λ x y. shifted (x +ℤ y) 1))
row_of RoundingHalvingAdd = row Alike First Without 2 (λ t k. binary (λ x y. shifted ((x +ℤ y) +ℤ pos 1) 1))
row_of HalvingSub = row Alike First Without 2 (λ t k. binary (λ x y. wrapped t (shifted (x -ℤ y) 1)))
row_of SaturatingAdd = row Alike First Without 2 (λ t k. binary (λ x y. clamped t (x +ℤ y)))
row_of SaturatingSub = row Alike First Without 2 (λ t k. binary (λ x y. clamped t (x -ℤ y)))
row_of SaturatingCast = row One Stated Without 2 (λ t k. unary (λ x. clamped t x))
row_of Absd = row Alike Unsigned Without 2 (λ t k. binary (λ x y. pos (unsigned_abs (x -ℤ y))))
row_of RoundingShr = row One First RoundingShift 2 (λ t k. unary (λ x. shifted (x +ℤ half_step k) k))
row_of MulShr = row Alike First Product 2 (λ t k. binary (λ x y. clamped t (shifted (x *ℤ y) k)))
row_of RoundingMulShr = row Alike First RoundingProduct 2 (λ t k. binary (λ x y. clamped t (shifted (x *ℤ y +ℤ half_step k) k)))
