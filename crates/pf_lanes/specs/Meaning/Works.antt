-- What becomes of the lanes of an instruction's operands.
use Rattle.std.specs.Prelude.{ℕ, ℤ, pos, negsuc, ◌-◌, ◌+ℤ◌, ◌-ℤ◌, ◌*ℤ◌, if◌then◌else◌, ◌==◌, int_lt, bit_and, bit_or, List, ◌∷◌}
use Rattle.pf_ints.specs.declared.lane.LaneType.{LaneType}
use Rattle.pf_ints.specs.Meaning.Lanes.{clamped}
use Rattle.pf_ints.specs.Meaning.Whole.{floor_mod}
use Rattle.pf_values.specs.Meaning.Operators.{row_of, unary, binary, int_same, shifted, half_step}
use Rattle.pf_lanes.specs.declared.works.Work.{Work}
use Rattle.pf_lanes.specs.declared.works.Work.TheVariants.{Operator, MulAdd, Negate, Not, IsEqual, IsGreater, WhereNegative, WherePositive, BitSelect, MulShift, MulRound, SaturateShift, SaturateRound}

-- a function of three values, on a list of them
abbrev pub ternary : (ℤ → ℤ → ℤ → ℤ) → List ℤ → ℤ
ternary f (x ∷ y ∷ z ∷ _) = f x y z
ternary f _ = pos 0

-- eight bits, each of x where the mask has a one, and of y where it has none
abbrev pub bits_by : ℕ → ℕ → ℕ → ℕ
bits_by mask x y = bit_or (bit_and mask x) (bit_and (255 - mask) y)

-- what is added before a shift by k that rounds: nothing where k is 0
abbrev pub rounding : ℕ → ℤ
rounding k = if k == 0 then pos 0 else half_step k

-- by the type of the result, the amount and the operands' lanes. What leaves the type is wrapped where the lane is made.
abbrev pub value : Work → LaneType → ℕ → List ℤ → ℤ
value (Operator op) t k = (row_of op).value t k
value MulAdd t k = ternary (λ a x y. a +ℤ x *ℤ y)
value Negate t k = unary (λ x. pos 0 -ℤ x)
value Not t k = unary (λ x. negsuc 0 -ℤ x)
value IsEqual t k = binary (λ x y. if int_same x y then negsuc 0 else pos 0)
value IsGreater t k = binary (λ x y. if int_lt y x then negsuc 0 else pos 0)
value WhereNegative t k = ternary (λ m x y. if int_lt m (pos 0) then x else y)
value WherePositive t k = ternary (λ m x y. if int_lt (pos 0) m then x else y)
value BitSelect t k = ternary (λ m x y. pos (bits_by (floor_mod m 256) (floor_mod x 256) (floor_mod y 256)))
value MulShift t k = binary (λ x y. shifted (x *ℤ y) k)
value MulRound t k = binary (λ x y. shifted (shifted (x *ℤ y) 14 +ℤ pos 1) 1)
value SaturateShift t k = unary (λ x. clamped t (shifted x k))
value SaturateRound t k = unary (λ x. clamped t (shifted (x +ℤ rounding k) k))
