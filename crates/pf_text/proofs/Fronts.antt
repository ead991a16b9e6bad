-- Fronts of texts: words, digits and how large a number they write.
use Rattle.std.proofs.Common.{◌≡◌, ℕ, ◌+◌, ◌*◌, ◌^◌, ◌<◌, ◌≤◌, List, [], ◌∷◌, length, true, false, ◌==◌, All, Option, None, Some, refl, sym, ap, ◌∙◌, cond, take, drop, nat_eq, Bor, MatchOption, eqb-true, arith, ⊎_elim}
use Rattle.std.specs.Cmp.Lexicographic.{pointwise}
use Rattle.std.proofs.Math.Nat.{pow-le-pow_right}
use Rattle.std.proofs.lemmas.List.Elements.{All-nil, All-cons}
use Rattle.std.proofs.lemmas.Bool.{cases_Bool, eq-eqb}
use Rattle.std.proofs.lemmas.Bool.Decides.{nat_tests}
use Rattle.pf_text.specs.Meaning.Words.{is_digit}
use Rattle.pf_text.specs.Steps.Scan.{behind, leading_digits}

behind_is : (ws t : List ℕ) → behind ws t ≡ cond (pointwise nat_eq (take (length ws) t) ws) (Some (drop (length ws) t)) None
behind_is [] t = refl
behind_is (w ∷ ws) [] = refl
behind_is (w ∷ ws) (c ∷ t) =
    ⊎_elim
    (λ (here : w == c ≡ true).
    let same : nat_eq c w ≡ true = eq-eqb c w (sym (eqb-true w c here)) in
    rw (here, same) (behind_is ws t))
    (λ (other : w == c ≡ false). rw (other, unlike w c other) refl)
    (cases_Bool (w == c))
  where
    unlike : (w c : ℕ) → w == c ≡ false → nat_eq c w ≡ false
    unlike w c other = grind (arith, nat_tests)

-- what is left of a text behind a word
pub stripped : (ws t : List ℕ) (r : Option (Bor (List ℕ))) → MatchOption r (pointwise nat_eq (take (length ws) t) ws ≡ false) (λ x. (pointwise nat_eq (take (length ws) t) ws ≡ true) × (x.now ≡ drop (length ws) t) × (length x.now + length ws ≡ length t))
    → MatchOption r (behind ws t ≡ None) (λ rest. behind ws t ≡ Some rest.now)
stripped ws t None h = rw h at (behind_is ws t)
stripped ws t (Some x) h = (rw h.0 at (behind_is ws t)) ∙ ap Some (sym h.1)

pub leading_are_digits : (t : List ℕ) → All (λ c. is_digit c ≡ true) (leading_digits t)
leading_are_digits [] = All-nil (λ c. is_digit c ≡ true)
leading_are_digits (c ∷ t) =
    ⊎_elim
    (λ (e : is_digit c ≡ true). rw e (All-cons (λ c. is_digit c ≡ true) c (leading_digits t) e (leading_are_digits t)))
    (λ (e : is_digit c ≡ false). rw e (All-nil (λ c. is_digit c ≡ true)))
    (cases_Bool (is_digit c))

pub digit_most : (c : ℕ) → is_digit c ≡ true → c ≤ 57
digit_most c e = grind (arith, nat_tests)

-- 19 digits fit 64 bits
pub few_digits : (n k : ℕ) → n < 10 ^ k → k ≤ 19 → n < 2 ^ 64
few_digits n k h few =
    let some : 1 ≤ 10 = omega arith in
    let power : 10 ^ k ≤ 10 ^ 19 = pow-le-pow_right some few in
    omega arith

-- 20 digits fit 128 bits
pub more_fits : (i n : ℕ) → n < 10 ^ i → i < 20 → 10 * n + 9 < 2 ^ 128
more_fits i n h l =
    let few : i ≤ 19 = omega arith in
    let some : 1 ≤ 10 = omega arith in
    let power : 10 ^ i ≤ 10 ^ 19 = pow-le-pow_right some few in
    omega arith
