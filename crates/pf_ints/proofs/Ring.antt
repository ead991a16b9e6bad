-- Laws of the ring of whole numbers that linear arithmetic lacks.
use Rattle.std.proofs.Common.{◌≡◌, ap, ℕ, ◌*◌, ℤ, ◌+ℤ◌, ◌*ℤ◌, arith}
use Rattle.std.proofs.lemmas.Int.{ints}
use borrow.Author.Differences.{up, down, product_is, sum_is_lem}

-- a product over a sum, from either side
pub distribute : (a b c : ℤ) → a *ℤ (b +ℤ c) ≡ a *ℤ b +ℤ a *ℤ c
distribute a b c =
    omega (arith, ints, ap (λ (n : ℕ). up a * n) (sum_is_lem b c), ap (λ (n : ℕ). down a * n) (sum_is_lem b c))

pub distribute_left : (a b c : ℤ) → (a +ℤ b) *ℤ c ≡ a *ℤ c +ℤ b *ℤ c
distribute_left a b c =
    omega (arith, ints, ap (λ (n : ℕ). n * up c) (sum_is_lem a b), ap (λ (n : ℕ). n * down c) (sum_is_lem a b))

pub mul_comm : (a b : ℤ) → a *ℤ b ≡ b *ℤ a
mul_comm a b = omega (arith, ints)

pub mul_assoc : (a b c : ℤ) → (a *ℤ b) *ℤ c ≡ a *ℤ (b *ℤ c)
mul_assoc a b c =
    let left = product_is a b in
    let right = product_is b c in
    omega (
      arith,
      ints,
      ap (λ (n : ℕ). n * up c) left.0,
      ap (λ (n : ℕ). n * down c) left.0,
      ap (λ (n : ℕ). n * up c) left.1,
      ap (λ (n : ℕ). n * down c) left.1,
      ap (λ (n : ℕ). up a * n) right.0,
      ap (λ (n : ℕ). down a * n) right.0,
      ap (λ (n : ℕ). up a * n) right.1,
      ap (λ (n : ℕ). down a * n) right.1,
    )
