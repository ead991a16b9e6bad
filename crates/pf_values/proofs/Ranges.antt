-- The value of each operator lies in the type of its result.
use Rattle.std.proofs.Common.{ℕ, ◌-◌, ◌*◌, ◌^◌, ◌<◌, ℤ, pos, negsuc, neg_ℤ, ◌+ℤ◌, ◌-ℤ◌, ◌*ℤ◌, ◌≤ℤ◌, arith, Bool, true, false, lit<}
use Rattle.std.specs.Prelude.{unsigned_abs, if◌then◌else◌}
use Rattle.std.specs.Int.{int_min, int_max}
use Rattle.std.proofs.lemmas.Int.{ints, clamps}
use Rattle.pf_ints.specs.declared.lane.LaneType.{LaneType}
use Rattle.pf_ints.specs.declared.lane.Bits.{Bits}
use Rattle.pf_ints.specs.declared.lane.Bits.TheVariants.{Eight, Sixteen, ThirtyTwo}
use Rattle.pf_ints.specs.Meaning.Whole.{floor_div}
use Rattle.pf_ints.specs.Meaning.Lanes.{least, greatest, IsIn, wrapped, clamped}
use Rattle.pf_ints.proofs.LaneLaws.{spans, member, nearest}
use Rattle.pf_values.specs.Meaning.Small.{IsSmall}
use Rattle.pf_values.specs.Meaning.Terms.{typed_as, doubled}
use Rattle.pf_values.proofs.Bounds.{IsWithin, within_product}
use Rattle.pf_values.proofs.Floors.{floor_least, floor_greatest, floor_toward}

small_by : (signed : Bool) (bits : Bits) (n : ℤ) → IsIn (typed_as signed bits) n → IsSmall n
small_by true Eight n h = record { low = omega (arith, ints, h.low); high = omega (arith, ints, h.high) }
small_by true Sixteen n h = record { low = omega (arith, ints, h.low); high = omega (arith, ints, h.high) }
small_by true ThirtyTwo n h = record { low = omega (arith, ints, h.low); high = omega (arith, ints, h.high) }
small_by false Eight n h = record { low = omega (arith, ints, h.low); high = omega (arith, ints, h.high) }
small_by false Sixteen n h = record { low = omega (arith, ints, h.low); high = omega (arith, ints, h.high) }
small_by false ThirtyTwo n h = record { low = omega (arith, ints, h.low); high = omega (arith, ints, h.high) }

-- each member of a lane type is small
pub small_member : (t : LaneType) (n : ℤ) → IsIn t n → IsSmall n
small_member t n h = small_by t.signed t.bits n h

-- wrapped and clamped numbers
pub wrapped_in : (t : LaneType) (n : ℤ) → IsIn t (wrapped t n)
wrapped_in = member

pub clamped_in : (t : LaneType) (n : ℤ) → IsIn t (clamped t n)
clamped_in t n = (nearest t n).member

-- shifts to the right, without and with rounding
pub shifted_in : (t : LaneType) (x : ℤ) (h k : ℕ) → h < 2 ^ k → IsIn t x → IsIn t (floor_div (x +ℤ pos h) (2 ^ k))
shifted_in t x h k below is =
    let s = spans t in
    let both = floor_toward x (least t) (greatest t) h (2 ^ k) below s.low s.high is.low is.high in
    record { low = both.0; high = both.1 }

-- half of a sum
pub halved_in : (t : LaneType) (x y : ℤ) (h : ℕ) → h < 2 → IsIn t x → IsIn t y → IsIn t (floor_div ((x +ℤ y) +ℤ pos h) 2)
halved_in t x y h below a b =
    record {
      low = floor_least ((x +ℤ y) +ℤ pos h) (least t) 2 (lit< tt) (omega (arith, ints, a.low, b.low));
      high = floor_greatest ((x +ℤ y) +ℤ pos h) (greatest t) 2 (lit< tt) (omega (arith, ints, a.high, b.high, below));
    }

pub lesser_in : (t : LaneType) (x y : ℤ) → IsIn t x → IsIn t y → IsIn t (int_min x y)
lesser_in t x y a b = record { low = omega (arith, ints, clamps, a.low, b.low); high = omega (arith, ints, clamps, a.high, b.high) }

pub greater_in : (t : LaneType) (x y : ℤ) → IsIn t x → IsIn t y → IsIn t (int_max x y)
greater_in t x y a b = record { low = omega (arith, ints, clamps, a.low, b.low); high = omega (arith, ints, clamps, a.high, b.high) }

pub one_of_in : (t : LaneType) (c : Bool) (x y : ℤ) → IsIn t x → IsIn t y → IsIn t (if c then x else y)
one_of_in t true x y a b = a
one_of_in t false x y a b = b

-- how far a number is from 0
distance : (d : ℤ) (n : ℕ) → neg_ℤ (pos n) ≤ℤ d → d ≤ℤ pos n → pos (unsigned_abs d) ≤ℤ pos n
distance (pos m) n low high = high
distance (negsuc m) n low high = omega (arith, ints, low)

abs_by : (bits : Bits) (x : ℤ) → IsIn (typed_as true bits) x → IsIn (typed_as false bits) (pos (unsigned_abs x))
abs_by Eight x h = record { low = omega (arith, ints); high = distance x (2 ^ 8 - 1) (omega (arith, ints, h.low)) (omega (arith, ints, h.high)) }
abs_by Sixteen x h = record { low = omega (arith, ints); high = distance x (2 ^ 16 - 1) (omega (arith, ints, h.low)) (omega (arith, ints, h.high)) }
abs_by ThirtyTwo x h = record { low = omega (arith, ints); high = distance x (2 ^ 32 - 1) (omega (arith, ints, h.low)) (omega (arith, ints, h.high)) }

pub abs_in : (bits : Bits) (x : ℤ) → IsIn (typed_as true bits) x → IsIn (typed_as false bits) (pos (unsigned_abs x))
abs_in = abs_by

absd_by : (signed : Bool) (bits : Bits) (x y : ℤ) → IsIn (typed_as signed bits) x → IsIn (typed_as signed bits) y → IsIn (typed_as false bits) (pos (unsigned_abs (x -ℤ y)))
absd_by true Eight x y a b = record { low = omega (arith, ints); high = distance (x -ℤ y) (2 ^ 8 - 1) (omega (arith, ints, a.low, b.high)) (omega (arith, ints, a.high, b.low)) }
absd_by true Sixteen x y a b = record { low = omega (arith, ints); high = distance (x -ℤ y) (2 ^ 16 - 1) (omega (arith, ints, a.low, b.high)) (omega (arith, ints, a.high, b.low)) }
absd_by true ThirtyTwo x y a b = record { low = omega (arith, ints); high = distance (x -ℤ y) (2 ^ 32 - 1) (omega (arith, ints, a.low, b.high)) (omega (arith, ints, a.high, b.low)) }
absd_by false Eight x y a b = record { low = omega (arith, ints); high = distance (x -ℤ y) (2 ^ 8 - 1) (omega (arith, ints, a.low, b.high)) (omega (arith, ints, a.high, b.low)) }
absd_by false Sixteen x y a b = record { low = omega (arith, ints); high = distance (x -ℤ y) (2 ^ 16 - 1) (omega (arith, ints, a.low, b.high)) (omega (arith, ints, a.high, b.low)) }
absd_by false ThirtyTwo x y a b = record { low = omega (arith, ints); high = distance (x -ℤ y) (2 ^ 32 - 1) (omega (arith, ints, a.low, b.high)) (omega (arith, ints, a.high, b.low)) }

pub absd_in : (t : LaneType) (x y : ℤ) → IsIn t x → IsIn t y → IsIn (typed_as false t.bits) (pos (unsigned_abs (x -ℤ y)))
absd_in t x y a b = absd_by t.signed t.bits x y a b

-- sums, differences and products in twice the width
abbrev pub IsNarrow : Bits → Type 0
IsNarrow Eight = Unit {0}
IsNarrow Sixteen = Unit {0}
IsNarrow ThirtyTwo = ⊥

sum_by : (signed : Bool) (bits : Bits) (x y : ℤ) → IsNarrow bits → IsIn (typed_as signed bits) x → IsIn (typed_as signed bits) y → IsIn (typed_as signed (doubled bits)) (x +ℤ y)
sum_by true Eight x y n a b = record { low = omega (arith, ints, a.low, b.low); high = omega (arith, ints, a.high, b.high) }
sum_by true Sixteen x y n a b = record { low = omega (arith, ints, a.low, b.low); high = omega (arith, ints, a.high, b.high) }
sum_by false Eight x y n a b = record { low = omega (arith, ints, a.low, b.low); high = omega (arith, ints, a.high, b.high) }
sum_by false Sixteen x y n a b = record { low = omega (arith, ints, a.low, b.low); high = omega (arith, ints, a.high, b.high) }
sum_by true ThirtyTwo x y n a b = absurd n
sum_by false ThirtyTwo x y n a b = absurd n

pub sum_in : (t : LaneType) (x y : ℤ) → IsNarrow t.bits → IsIn t x → IsIn t y → IsIn (typed_as t.signed (doubled t.bits)) (x +ℤ y)
sum_in t = sum_by t.signed t.bits

difference_by : (signed : Bool) (bits : Bits) (x y : ℤ) → IsNarrow bits → IsIn (typed_as signed bits) x → IsIn (typed_as signed bits) y → IsIn (typed_as true (doubled bits)) (x -ℤ y)
difference_by true Eight x y n a b = record { low = omega (arith, ints, a.low, b.high); high = omega (arith, ints, a.high, b.low) }
difference_by true Sixteen x y n a b = record { low = omega (arith, ints, a.low, b.high); high = omega (arith, ints, a.high, b.low) }
difference_by false Eight x y n a b = record { low = omega (arith, ints, a.low, b.high); high = omega (arith, ints, a.high, b.low) }
difference_by false Sixteen x y n a b = record { low = omega (arith, ints, a.low, b.high); high = omega (arith, ints, a.high, b.low) }
difference_by true ThirtyTwo x y n a b = absurd n
difference_by false ThirtyTwo x y n a b = absurd n

pub difference_in : (t : LaneType) (x y : ℤ) → IsNarrow t.bits → IsIn t x → IsIn t y → IsIn (typed_as true (doubled t.bits)) (x -ℤ y)
difference_in t = difference_by t.signed t.bits

not_below_zero : (x y : ℤ) → pos 0 ≤ℤ x → pos 0 ≤ℤ y → pos 0 ≤ℤ (x *ℤ y)
not_below_zero (pos m) (pos n) h k = omega (arith, ints)
not_below_zero (pos m) (negsuc n) h k = absurd (omega (arith, ints, k))
not_below_zero (negsuc m) y h k = absurd (omega (arith, ints, h))

product_of : (x y : ℤ) (n : ℕ) → neg_ℤ (pos n) ≤ℤ x → x ≤ℤ pos n → neg_ℤ (pos n) ≤ℤ y → y ≤ℤ pos n → IsWithin (n * n) (x *ℤ y)
product_of x y n a b c d = within_product x y n n (record { low = a; high = b }) (record { low = c; high = d })

product_by : (signed : Bool) (bits : Bits) (x y : ℤ) → IsNarrow bits → IsIn (typed_as signed bits) x → IsIn (typed_as signed bits) y → IsIn (typed_as signed (doubled bits)) (x *ℤ y)
product_by true Eight x y n a b =
    let w = product_of x y (2 ^ 7) (omega (arith, ints, a.low)) (omega (arith, ints, a.high)) (omega (arith, ints, b.low)) (omega (arith, ints, b.high)) in
    record { low = omega (arith, ints, w.low); high = omega (arith, ints, w.high) }
product_by true Sixteen x y n a b =
    let w = product_of x y (2 ^ 15) (omega (arith, ints, a.low)) (omega (arith, ints, a.high)) (omega (arith, ints, b.low)) (omega (arith, ints, b.high)) in
    record { low = omega (arith, ints, w.low); high = omega (arith, ints, w.high) }
product_by false Eight x y n a b =
    let w = product_of x y (2 ^ 8 - 1) (omega (arith, ints, a.low)) (omega (arith, ints, a.high)) (omega (arith, ints, b.low)) (omega (arith, ints, b.high)) in
    record { low = not_below_zero x y a.low b.low; high = omega (arith, ints, w.high) }
product_by false Sixteen x y n a b =
    let w = product_of x y (2 ^ 16 - 1) (omega (arith, ints, a.low)) (omega (arith, ints, a.high)) (omega (arith, ints, b.low)) (omega (arith, ints, b.high)) in
    record { low = not_below_zero x y a.low b.low; high = omega (arith, ints, w.high) }
product_by true ThirtyTwo x y n a b = absurd n
product_by false ThirtyTwo x y n a b = absurd n

pub product_in : (t : LaneType) (x y : ℤ) → IsNarrow t.bits → IsIn t x → IsIn t y → IsIn (typed_as t.signed (doubled t.bits)) (x *ℤ y)
product_in t = product_by t.signed t.bits
