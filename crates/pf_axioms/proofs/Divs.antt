-- The rows of division: how a quotient that rounds down goes through sums, quotients and the lesser of two.
use Rattle.std.proofs.Common.{◌≡◌, refl, sym, ap, ◌∙◌, ℕ, suc, ◌+◌, ◌-◌, ◌*◌, ◌^◌, ◌≤◌, ◌<◌, ℤ, pos, negsuc, ◌+ℤ◌, ◌-ℤ◌, ◌*ℤ◌, ◌≤ℤ◌, neg_ℤ, Bool, true, false, cond, arith, lit<}
use Rattle.std.specs.Prelude.{int_lt}
use Rattle.std.specs.Int.{int_min, int_max}
use Rattle.std.proofs.lemmas.Int.{ints, clamps}
use Rattle.std.proofs.lemmas.Nat.{pow_pos, pow-add, mul-add-lt}
use Rattle.pf_ints.specs.Meaning.Whole.{floor_div, floor_mod}
use Rattle.pf_ints.proofs.Ring.{distribute_left, mul_assoc, mul_comm}
use Rattle.pf_ints.proofs.Floor.{floor_split, floor_mod_below, division_is}
use Rattle.pf_ints.proofs.RangeLaws.{floor_div-le}

floor_div_is : (z q : ℤ) (m r : ℕ) → r < m → z ≡ q *ℤ pos m +ℤ pos r → floor_div z m ≡ q
floor_div_is z q m r below split = (division_is z q m r below split).0

-- (x + m*y) / m = x/m + y
pub div_out : (x y : ℤ) (m : ℕ) → 0 < m → floor_div (x +ℤ pos m *ℤ y) m ≡ floor_div x m +ℤ y
div_out x y m some =
    floor_div_is (x +ℤ pos m *ℤ y) (floor_div x m +ℤ y) m (floor_mod x m) (floor_mod_below x m some)
    (omega (arith, ints, floor_split x m some, distribute_left (floor_div x m) y (pos m), mul_comm (pos m) y))

-- (x / m) / n = x / (m*n)
pub div_div : (x : ℤ) (m n : ℕ) → 0 < m → 0 < n → floor_div (floor_div x m) n ≡ floor_div x (m * n)
div_div x m n some other =
    let q = floor_div x m in
    let r = floor_mod x m in
    let s = floor_div q n in
    let u = floor_mod q n in
    sym (floor_div_is x s (m * n) (u * m + r) (mul-add-lt u m r n (floor_mod_below q n other) (floor_mod_below x m some)) whole)
  where
    whole : x ≡ floor_div (floor_div x m) n *ℤ pos (m * n) +ℤ pos (floor_mod (floor_div x m) n * m + floor_mod x m)
    whole =
        let q = floor_div x m in
        let s = floor_div q n in
        let u = floor_mod q n in
        omega (arith, ints, floor_split x m some, ap (λ (z : ℤ). z *ℤ pos m) (floor_split q n other), distribute_left (s *ℤ pos n) (pos u) (pos m), mul_assoc s (pos n) (pos m))

-- min(x, y) / m = min(x/m, y/m)
pub min_div : (x y : ℤ) (m : ℕ) → 0 < m → floor_div (int_min x y) m ≡ int_min (floor_div x m) (floor_div y m)
min_div x y m some = by_order (int_lt y x) refl
  where
    by_order : (b : Bool) → int_lt y x ≡ b → floor_div (cond b y x) m ≡ int_min (floor_div x m) (floor_div y m)
    by_order true e = let h = floor_div-le m some y x (omega (arith, ints, e)) in omega (arith, ints, clamps, h)
    by_order false e = let h = floor_div-le m some x y (omega (arith, ints, e)) in omega (arith, ints, clamps, h)

-- 0 and -1
pub div_zero : (x : ℤ) (m : ℕ) → pos 0 ≤ℤ x → (x +ℤ pos 1) ≤ℤ pos m → floor_div x m ≡ pos 0
div_zero (pos a) m low high = floor_div_is (pos a) (pos 0) m a (omega (arith, ints)) (omega (arith, ints))
div_zero (negsuc a) m low high = absurd (omega (arith, ints))

pub div_neg : (x : ℤ) (m : ℕ) → neg_ℤ (pos m) ≤ℤ x → (x +ℤ pos 1) ≤ℤ pos 0 → floor_div x m ≡ negsuc 0
div_neg (pos a) m low high = absurd (omega (arith, ints))
div_neg (negsuc a) m low high = floor_div_is (negsuc a) (negsuc 0) m (m - suc a) (omega (arith, ints)) (omega (arith, ints))

-- -(x/m) = (-x + (m-1)) / m
pub neg_div : (x : ℤ) (m : ℕ) → 0 < m → negsuc 0 *ℤ floor_div x m ≡ floor_div (negsuc 0 *ℤ x +ℤ (pos m -ℤ pos 1)) m
neg_div x m some =
    sym
    (floor_div_is (negsuc 0 *ℤ x +ℤ (pos m -ℤ pos 1)) (negsuc 0 *ℤ floor_div x m) m (m - 1 - floor_mod x m) (omega (arith, floor_mod_below x m some))
    (omega (arith, ints, floor_split x m some, floor_mod_below x m some, mul_assoc (negsuc 0) (floor_div x m) (pos m))))

pub max_div : (x y : ℤ) (m : ℕ) → 0 < m → floor_div (int_max x y) m ≡ int_max (floor_div x m) (floor_div y m)
max_div x y m some = by_order (int_lt y x) refl
  where
    by_order : (b : Bool) → int_lt y x ≡ b → floor_div (cond b x y) m ≡ int_max (floor_div x m) (floor_div y m)
    by_order true e = let h = floor_div-le m some y x (omega (arith, ints, e)) in omega (arith, ints, clamps, h)
    by_order false e = let h = floor_div-le m some x y (omega (arith, ints, e)) in omega (arith, ints, clamps, h)

pub div_one : (x : ℤ) → x ≡ floor_div x 1
div_one x = sym (floor_div_is x x 1 0 (lit< tt) (omega (arith, ints)))

-- x = (m * x) / m
whole_div : (x : ℤ) (m : ℕ) → 0 < m → floor_div (pos m *ℤ x) m ≡ x
whole_div x m some = floor_div_is (pos m *ℤ x) x m 0 some (omega (arith, ints, mul_comm (pos m) x))

pub div_scale : (x : ℤ) (a b : ℕ) → a ≤ b → floor_div x (2 ^ (b - a)) ≡ floor_div (pos (2 ^ a) *ℤ x) (2 ^ b)
div_scale x a b h =
    let widths : a + (b - a) ≡ b = omega (arith, h) in
    sym (ap (λ (n : ℤ). floor_div n (2 ^ (b - a))) (whole_div x (2 ^ a) (pow_pos a)))
    ∙ div_div (pos (2 ^ a) *ℤ x) (2 ^ a) (2 ^ (b - a)) (pow_pos a) (pow_pos (b - a))
    ∙ ap (λ (m : ℕ). floor_div (pos (2 ^ a) *ℤ x) m) (sym (pow-add 2 a (b - a)) ∙ ap (λ (e : ℕ). 2 ^ e) widths)

pub div_inner : (x y : ℤ) (a b : ℕ) → floor_div (x +ℤ pos (2 ^ a) *ℤ y) (2 ^ (a + b)) ≡ floor_div (floor_div x (2 ^ a) +ℤ y) (2 ^ b)
div_inner x y a b =
    ap (λ (m : ℕ). floor_div (x +ℤ pos (2 ^ a) *ℤ y) m) (pow-add 2 a b)
    ∙ sym (div_div (x +ℤ pos (2 ^ a) *ℤ y) (2 ^ a) (2 ^ b) (pow_pos a) (pow_pos b))
    ∙ ap (λ (n : ℤ). floor_div n (2 ^ b)) (div_out x y (2 ^ a) (pow_pos a))

pub div_twice : (x : ℤ) (a b : ℕ) → floor_div x (2 ^ (a + b)) ≡ floor_div (floor_div x (2 ^ a)) (2 ^ b)
div_twice x a b = ap (λ (m : ℕ). floor_div x m) (pow-add 2 a b) ∙ sym (div_div x (2 ^ a) (2 ^ b) (pow_pos a) (pow_pos b))
