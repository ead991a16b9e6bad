-- The exponent of a power of two is found.
use Rattle.std.proofs.Common.{◌≡◌, refl, ap, ℕ, zero, suc, ◌^◌, ◌≤◌, ◌<◌, ℤ, pos, Bool, true, false, cond, arith, lit≤}
use Rattle.std.specs.Prelude.{nat_lt}
use Rattle.std.specs.Ordering.{int_eq}
use Rattle.std.proofs.lemmas.Nat.{pow_below}
use Rattle.std.proofs.lemmas.Int.{ints}
use Rattle.std.proofs.lemmas.Bool.Decides.{Decides-int_eq, nat_tests}
use Rattle.pf_templates.specs.Meaning.Exponents.{exponent_of, exponent_up_to}

by_test : (b : Bool) (e a k : ℕ) → k ≤ e → cond b (suc e) k ≤ suc e
by_test true e a k h = omega arith
by_test false e a k h = omega (arith, h)

most : (e : ℕ) (n : ℤ) → exponent_up_to e n ≤ e
most zero n = lit≤ tt
most (suc e) n = by_test (int_eq (pos (2 ^ suc e)) n) e 0 (exponent_up_to e n) (most e n)

pub exponent_most : (n : ℤ) → exponent_of n ≤ 120
unfolding exponent_of
exponent_most n = most 120 n

pub is_below : (e a : ℕ) → nat_lt e a ≡ true → e < a
is_below e a h = grind (arith, nat_tests)

pub is_not_below : (e a : ℕ) → nat_lt e a ≡ false → a ≤ e
is_not_below e a h = grind (arith, nat_tests)

-- two powers of two that are equal have one exponent
one_exponent : (e a : ℕ) → pos (2 ^ e) ≡ pos (2 ^ a) → e ≡ a
one_exponent e a h = by_order (nat_lt e a) (nat_lt a e) refl refl
  where
    by_order : (b c : Bool) → nat_lt e a ≡ b → nat_lt a e ≡ c → e ≡ a
    by_order true c p q = let less = pow_below e a (is_below e a p) in absurd (omega (arith, ints, h, less))
    by_order false true p q = let less = pow_below a e (is_below a e q) in absurd (omega (arith, ints, h, less))
    by_order false false p q = omega (arith, is_not_below e a p, is_not_below a e q)

module _ (e a : ℕ) (h : a ≤ suc e) (deeper : a ≤ e → exponent_up_to e (pos (2 ^ a)) ≡ a) where
  by_order : (b : Bool) → nat_lt a (suc e) ≡ b → int_eq (pos (2 ^ suc e)) (pos (2 ^ a)) ≡ false → exponent_up_to e (pos (2 ^ a)) ≡ a
  by_order true q p = let less = is_below a (suc e) q in deeper (omega (arith, less))
  by_order false q p =
      let more = is_not_below a (suc e) q in
      let same : suc e ≡ a = omega (arith, h, more) in
      let met : int_eq (pos (2 ^ suc e)) (pos (2 ^ a)) ≡ true = (Decides-int_eq (pos (2 ^ suc e)) (pos (2 ^ a))).1 (ap (λ (k : ℕ). pos (2 ^ k)) same) in
      absurd (cc (p, met))

  by_eq : (b : Bool) → int_eq (pos (2 ^ suc e)) (pos (2 ^ a)) ≡ b → cond b (suc e) (exponent_up_to e (pos (2 ^ a))) ≡ a
  by_eq true p = one_exponent (suc e) a ((Decides-int_eq (pos (2 ^ suc e)) (pos (2 ^ a))).0 p)
  by_eq false p = by_order (nat_lt a (suc e)) refl p

exponent_up : (e a : ℕ) → a ≤ e → exponent_up_to e (pos (2 ^ a)) ≡ a
exponent_up zero a h = omega (arith, h)
exponent_up (suc e) a h = by_eq e a h (λ k. exponent_up e a k) (int_eq (pos (2 ^ suc e)) (pos (2 ^ a))) refl

pub exponent_back : (a : ℕ) → a ≤ 120 → exponent_of (pos (2 ^ a)) ≡ a
unfolding exponent_of
exponent_back a h = exponent_up 120 a h
