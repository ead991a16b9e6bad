-- The interval of a form holds its value, wherever the variables lie in their ranges.
use Rattle.std.proofs.Common.{◌≡◌, refl, sym, subst, ℕ, ◌^◌, ℤ, pos, ◌+ℤ◌, ◌-ℤ◌, ◌*ℤ◌, Bool, true, false, cond, List, Option, Some, None, IfSome, arith}
use Rattle.std.specs.Prelude.{option_map, option_and_then, int_lt, unsigned_abs}
use Rattle.std.specs.Int.{int_max, int_min}
use Rattle.std.specs.Int.Signed.{le_z}
use Rattle.std.proofs.lemmas.Int.{ints, clamps}
use Rattle.std.proofs.lemmas.Nat.{pow_pos}
use Rattle.pf_ints.specs.declared.lane.LaneType.{LaneType}
use Rattle.pf_ints.specs.Meaning.Whole.{floor_div}
use Rattle.pf_ints.specs.Meaning.Lanes.{IsIn, wrapped, clamped}
use Rattle.pf_ints.specs.Meaning.Ranges.{Range, range, within, Includes, sum_range, difference_range, product_range, min_range, max_range, abs_range, join_range, choice_range, wrap_range, lane_range, lies_in}
use Rattle.pf_ints.proofs.LaneLaws.{member, wrapped_same}
use Rattle.pf_ints.proofs.RangeLaws.{within_some, floor_div-le, clamped_rises, inside_holds, holds_product, distance_is}
use Rattle.pf_forms.specs.Meaning.Shapes.{Shape, Var, Num, Pow, Add, Sub, Mul, FloorDiv, Min, Max, Abs, Sel, Wrap, Sat}
use Rattle.pf_forms.specs.Meaning.Values.{FVal, AreIn, G}

-- an interval that comes of one other, or of two
pub from_one : {A B : Type 0} (f : A → B) (o : Option A) (y : B) → option_map f o ≡ Some y → (x : A) × (o ≡ Some x) × (f x ≡ y)
from_one f None y e = absurd (cc)
from_one f (Some x) y e = (x, refl, cc)

pub from_two : {A B C : Type 0} (f : A → B → Option C) (o : Option A) (p : Option B) (z : C) → option_and_then (λ a. option_and_then (λ b. f a b) p) o ≡ Some z → (x : A) × (y : B) × (o ≡ Some x) × (p ≡ Some y) × (f x y ≡ Some z)
from_two f None p z e = absurd (cc)
from_two f (Some x) None z e = absurd (cc)
from_two f (Some x) (Some y) z e = (x, y, refl, refl, e)

-- ---- one operation each, on the intervals of its operands
one_at : (n : ℤ) (r : Range) → within (range n n) ≡ Some r → Includes r n
one_at n r e = subst (λ s. Includes s n) (within_some _ r e).1 (record { low = omega (arith, ints); high = omega (arith, ints) })

sum_at : (a b r : Range) (m n : ℤ) → within (sum_range a b) ≡ Some r → Includes a m → Includes b n → Includes r (m +ℤ n)
sum_at a b r m n e h k =
    subst (λ s. Includes s (m +ℤ n)) (within_some _ r e).1
    (record { low = omega (arith, ints, h.low, k.low); high = omega (arith, ints, h.high, k.high) })

difference_at : (a b r : Range) (m n : ℤ) → within (difference_range a b) ≡ Some r → Includes a m → Includes b n → Includes r (m -ℤ n)
difference_at a b r m n e h k =
    subst (λ s. Includes s (m -ℤ n)) (within_some _ r e).1
    (record { low = omega (arith, ints, h.low, k.high); high = omega (arith, ints, h.high, k.low) })

product_at : (a b r : Range) (m n : ℤ) → within (product_range a b) ≡ Some r → Includes a m → Includes b n → Includes r (m *ℤ n)
product_at a b r m n e h k = subst (λ s. Includes s (m *ℤ n)) (within_some _ r e).1 (holds_product a b m n h k)

min_at : (a b r : Range) (m n : ℤ) → ◌≡◌ {A = Option Range} (Some (min_range a b)) (Some r) → Includes a m → Includes b n → Includes r (int_min m n)
min_at a b r m n e h k =
    let same : min_range a b ≡ r = cc in
    subst (λ s. Includes s (int_min m n)) same
    (record { low = omega (arith, ints, clamps, h.low, k.low); high = omega (arith, ints, clamps, h.high, k.high) })

max_at : (a b r : Range) (m n : ℤ) → ◌≡◌ {A = Option Range} (Some (max_range a b)) (Some r) → Includes a m → Includes b n → Includes r (int_max m n)
max_at a b r m n e h k =
    let same : max_range a b ≡ r = cc in
    subst (λ s. Includes s (int_max m n)) same
    (record { low = omega (arith, ints, clamps, h.low, k.low); high = omega (arith, ints, clamps, h.high, k.high) })

distance_at : (a : Range) (n : ℤ) → Includes a n → Includes (abs_range a) (pos (unsigned_abs n))
distance_at a n h =
    let is = distance_is n in
    record { low = omega (arith, ints, clamps, is, h.low, h.high); high = omega (arith, ints, clamps, is, h.low, h.high) }

choice_at : (a b x y : Range) (m n j k : ℤ) → Includes a m → Includes b n → Includes x j → Includes y k → Includes (choice_range a b x y) (cond (int_lt n m) j k)
choice_at a b x y m n j k p q h i = by_tests (int_lt b.hi a.lo) (le_z a.hi b.lo) (int_lt n m) refl refl refl
  where
    by_tests : (above below is_greater : Bool) → int_lt b.hi a.lo ≡ above → le_z a.hi b.lo ≡ below → int_lt n m ≡ is_greater → Includes (cond above x (cond below y (join_range x y))) (cond is_greater j k)
    by_tests true below true d e f = h
    by_tests true below false d e f = absurd (omega (arith, ints, d, f, p.low, q.high))
    by_tests false true true d e f = absurd (omega (arith, ints, e, f, p.high, q.low))
    by_tests false true false d e f = i
    by_tests false false true d e f = record { low = omega (arith, ints, clamps, h.low); high = omega (arith, ints, clamps, h.high) }
    by_tests false false false d e f = record { low = omega (arith, ints, clamps, i.low); high = omega (arith, ints, clamps, i.high) }

wrap_at : (t : LaneType) (a : Range) (n : ℤ) → Includes a n → Includes (wrap_range t a) (wrapped t n)
wrap_at t a n h = by_test (lies_in a (lane_range t)) refl
  where
    by_test : (b : Bool) → lies_in a (lane_range t) ≡ b → Includes (cond b a (lane_range t)) (wrapped t n)
    by_test true e =
        let k = inside_holds a (lane_range t) n e h in
        let fits : IsIn t n = record { low = k.low; high = k.high } in
        rw (wrapped_same t n fits) h
    by_test false e = let fits = member t n in record { low = fits.low; high = fits.high }

module _ (ranges : List Range) (v : ℕ → ℤ) (in_ranges : AreIn ranges v) where
  pub value_in : (f : Shape) (r : Range) → G ranges f ≡ Some r → Includes r (FVal v f)
  value_in (Var n) r e = in_ranges n r e
  value_in (Num n) r e = one_at n r e
  value_in (Pow k) r e = one_at (pos (2 ^ k)) r e
  value_in (Add x y) r e =
      let p = from_two _ (G ranges x) (G ranges y) r e in
      sum_at p.0 p.1 r _ _ p.4 (value_in x p.0 p.2) (value_in y p.1 p.3)
  value_in (Sub x y) r e =
      let p = from_two _ (G ranges x) (G ranges y) r e in
      difference_at p.0 p.1 r _ _ p.4 (value_in x p.0 p.2) (value_in y p.1 p.3)
  value_in (Mul x y) r e =
      let p = from_two _ (G ranges x) (G ranges y) r e in
      product_at p.0 p.1 r _ _ p.4 (value_in x p.0 p.2) (value_in y p.1 p.3)
  value_in (FloorDiv x k) r e =
      let p = from_one _ (G ranges x) r e in
      let h = value_in x p.0 p.1 in
      subst (λ s. Includes s (floor_div (FVal v x) (2 ^ k))) p.2
      (record { low = floor_div-le (2 ^ k) (pow_pos k) _ _ h.low; high = floor_div-le (2 ^ k) (pow_pos k) _ _ h.high })
  value_in (Min x y) r e =
      let p = from_two _ (G ranges x) (G ranges y) r e in
      min_at p.0 p.1 r _ _ p.4 (value_in x p.0 p.2) (value_in y p.1 p.3)
  value_in (Max x y) r e =
      let p = from_two _ (G ranges x) (G ranges y) r e in
      max_at p.0 p.1 r _ _ p.4 (value_in x p.0 p.2) (value_in y p.1 p.3)
  value_in (Abs x) r e =
      let p = from_one _ (G ranges x) r e in
      subst (λ s. Includes s (pos (unsigned_abs (FVal v x)))) p.2 (distance_at p.0 (FVal v x) (value_in x p.0 p.1))
  value_in (Sel a b x y) r e =
      let p = from_two _ (G ranges a) (G ranges b) r e in
      let q = from_two _ (G ranges x) (G ranges y) r p.4 in
      let same : choice_range p.0 p.1 q.0 q.1 ≡ r = cc (q.4) in
      subst (λ s. Includes s (FVal v (Sel a b x y))) same
      (choice_at p.0 p.1 q.0 q.1 _ _ _ _ (value_in a p.0 p.2) (value_in b p.1 p.3) (value_in x q.0 q.2) (value_in y q.1 q.3))
  value_in (Wrap t x) r e =
      let p = from_one _ (G ranges x) r e in
      subst (λ s. Includes s (wrapped t (FVal v x))) p.2 (wrap_at t p.0 (FVal v x) (value_in x p.0 p.1))
  value_in (Sat t x) r e =
      let p = from_one _ (G ranges x) r e in
      let h = value_in x p.0 p.1 in
      subst (λ s. Includes s (clamped t (FVal v x))) p.2
      (record { low = clamped_rises t p.0.lo (FVal v x) h.low; high = clamped_rises t (FVal v x) p.0.hi h.high })

-- so what a call gives as the interval holds the value
pub if_some_holds : (ranges : List Range) (f : Shape) (o : Option Range) → o ≡ G ranges f → IfSome o (λ r. (v : ℕ → ℤ) → AreIn ranges v → Includes r (FVal v f))
if_some_holds ranges f None e = tt
if_some_holds ranges f (Some r) e = λ v in_ranges. value_in ranges v in_ranges f r (sym e)
