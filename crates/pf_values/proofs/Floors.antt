-- Quotients that are rounded down lie between bounds.
use Rattle.std.proofs.Common.{◌≡◌, ℕ, ◌+◌, ◌*◌, ◌≤◌, ◌<◌, suc, ◌⊎◌, inl, inr, ℤ, pos, negsuc, ◌+ℤ◌, ◌*ℤ◌, ◌≤ℤ◌, ◌<ℤ◌, arith, mul-le-mul_left, zero-mul, ap, ◌∙◌}
use Rattle.std.proofs.lemmas.Bool.{cases_lt}
use Rattle.std.proofs.lemmas.Int.{ints}
use borrow.Author.Differences.{up, down}
use Rattle.pf_ints.specs.Meaning.Whole.{floor_div}
use Rattle.pf_ints.proofs.Floor.{floor_mod_below, floor_split}
use Rattle.pf_ints.proofs.Ring.{distribute_left}

times : (a b : ℤ) (m : ℕ) → a ≤ℤ b → (a *ℤ pos m) ≤ℤ (b *ℤ pos m)
times a b m h =
    let l : up a + down b ≤ up b + down a = omega (arith, ints, h) in
    omega (arith, ints, mul-le-mul_left m l)

-- either number is the lesser
pub order : (a b : ℤ) → (a ≤ℤ b) ⊎ (b <ℤ a)
order a b = elim (cases_lt (up b + down a) (up a + down b)) [ inl h ↦ inr (omega (arith, ints, h)) | inr h ↦ inl (omega (arith, ints, h)) ]

-- a product that is at most the number
pub floor_least : (z b : ℤ) (m : ℕ) → 0 < m → (b *ℤ pos m) ≤ℤ z → b ≤ℤ floor_div z m
floor_least z b m some h =
    elim (order b (floor_div z m)) [
      | inl le ↦ le
      | inr past ↦ absurd (omega (arith, ints, h, floor_split z m some, floor_mod_below z m some, times (floor_div z m +ℤ pos 1) b m (omega (arith, ints, past)), distribute_left (floor_div z m) (pos 1) (pos m)))
    ]

-- a product that is past the number
pub floor_greatest : (z b : ℤ) (m : ℕ) → 0 < m → z <ℤ ((b +ℤ pos 1) *ℤ pos m) → floor_div z m ≤ℤ b
floor_greatest z b m some h =
    elim (order (floor_div z m) b) [
      | inl le ↦ le
      | inr past ↦ absurd (omega (arith, ints, h, floor_split z m some, times (b +ℤ pos 1) (floor_div z m) m (omega (arith, ints, past))))
    ]

grow : (b : ℤ) (m : ℕ) → pos 0 ≤ℤ b → 0 < m → b ≤ℤ (b *ℤ pos m)
grow (pos n) m h some = omega (arith, ints, mul-le-mul_left n some)
grow (negsuc n) m h some = absurd (omega (arith, ints, h))

shrink : (b : ℤ) (m : ℕ) → b ≤ℤ pos 0 → 0 < m → (b *ℤ pos m) ≤ℤ b
shrink (pos n) m h some =
    let none : n ≡ 0 = omega (arith, ints, h) in
    let product : n * m ≡ 0 = ap (λ i. i * m) none ∙ zero-mul m in
    omega (arith, ints, product)
shrink (negsuc n) m h some = omega (arith, ints, mul-le-mul_left (suc n) some)

-- a quotient lies between the number and 0, also where up to a whole step less one is added to the number
pub floor_toward : (x l g : ℤ) (h m : ℕ) → h < m → l ≤ℤ pos 0 → pos 0 ≤ℤ g → l ≤ℤ x → x ≤ℤ g → (l ≤ℤ floor_div (x +ℤ pos h) m) × (floor_div (x +ℤ pos h) m ≤ℤ g)
floor_toward x l g h m below low high least greatest =
    let some : 0 < m = omega (arith, below) in (
      floor_least (x +ℤ pos h) l m some (omega (arith, ints, shrink l m low some, least)),
      floor_greatest (x +ℤ pos h) g m some (omega (arith, ints, grow g m high some, greatest, below, distribute_left g (pos 1) (pos m))),
    )
