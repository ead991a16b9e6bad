-- How large products and scaled numbers are.
use Rattle.std.proofs.Common.{◌≡◌, ap, ◌∙◌, ℕ, ◌*◌, ◌^◌, ◌≤◌, suc, ℤ, pos, negsuc, neg_ℤ, ◌*ℤ◌, ◌≤ℤ◌, List, [], ◌∷◌, length, get_or, arith}
use Rattle.std.proofs.lemmas.Int.{ints}
use Rattle.std.proofs.Math.Nat.{mul-le-mul_left}
use Rattle.pf_values.specs.Meaning.Small.{IsSmall, IsLong}
use Rattle.pf_values.proofs.OperandLists.{by_two, by_four}

mul_le : (m a n b : ℕ) → m ≤ a → n ≤ b → m * n ≤ a * b
mul_le m a n b h k = omega (arith, mul-le-mul_left m k, mul-le-mul_left b h)

-- a number at most a away from 0
pub record IsWithin (a : ℕ) (n : ℤ) : Type 0 where
  pub low : neg_ℤ (pos a) ≤ℤ n
  pub high : n ≤ℤ pos a

pub within_product : (x y : ℤ) (a b : ℕ) → IsWithin a x → IsWithin b y → IsWithin (a * b) (x *ℤ y)
within_product (pos m) (pos n) a b h k = let l = mul_le m a n b (omega (arith, ints, h.high)) (omega (arith, ints, k.high)) in record { low = omega (arith, ints); high = omega (arith, ints, l) }
within_product (pos m) (negsuc n) a b h k = let l = mul_le m a (suc n) b (omega (arith, ints, h.high)) (omega (arith, ints, k.low)) in record { low = omega (arith, ints, l); high = omega (arith, ints) }
within_product (negsuc m) (pos n) a b h k = let l = mul_le (suc m) a n b (omega (arith, ints, h.low)) (omega (arith, ints, k.high)) in record { low = omega (arith, ints, l); high = omega (arith, ints) }
within_product (negsuc m) (negsuc n) a b h k = let l = mul_le (suc m) a (suc n) b (omega (arith, ints, h.low)) (omega (arith, ints, k.low)) in record { low = omega (arith, ints); high = omega (arith, ints, l) }

pub product_within : (x y : ℤ) → IsSmall x → IsLong y → IsWithin (2 ^ 96) (x *ℤ y)
product_within x y h k =
    within_product x y (2 ^ 32) (2 ^ 64) (record { low = h.low; high = h.high }) (record { low = k.low; high = k.high })

-- the numbers of a list of two, and of four
pub two_told : (xs : List ℤ) (F : List ℤ → ℤ) (r x y : ℤ) → r ≡ F (x ∷ y ∷ []) → length xs ≡ 2 → x ≡ get_or xs 0 (pos 0) → y ≡ get_or xs 1 (pos 0) → r ≡ F xs
two_told xs F r x y e count a b =
    by_two (λ ys. x ≡ get_or ys 0 (pos 0) → y ≡ get_or ys 1 (pos 0) → r ≡ F ys) (λ p q h k. e ∙ ap (λ z. F (z ∷ y ∷ [])) h ∙ ap (λ z. F (p ∷ z ∷ [])) k) xs count a b

pub four_told : (xs : List ℤ) (F : List ℤ → ℤ) (r a b x y : ℤ) → r ≡ F (a ∷ b ∷ x ∷ y ∷ []) → length xs ≡ 4 →
    a ≡ get_or xs 0 (pos 0) → b ≡ get_or xs 1 (pos 0) → x ≡ get_or xs 2 (pos 0) → y ≡ get_or xs 3 (pos 0) → r ≡ F xs
four_told xs F r a b x y e count ea eb ex ey =
    by_four (λ ys. a ≡ get_or ys 0 (pos 0) → b ≡ get_or ys 1 (pos 0) → x ≡ get_or ys 2 (pos 0) → y ≡ get_or ys 3 (pos 0) → r ≡ F ys)
    (λ p q s t h k l m. e ∙ ap (λ z. F (z ∷ b ∷ x ∷ y ∷ [])) h ∙ ap (λ z. F (p ∷ z ∷ x ∷ y ∷ [])) k ∙ ap (λ z. F (p ∷ q ∷ z ∷ y ∷ [])) l ∙ ap (λ z. F (p ∷ q ∷ s ∷ z ∷ [])) m) xs count ea eb ex ey
