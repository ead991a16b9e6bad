-- What is printed is read back.
use Rattle.std.proofs.Common.{◌≡◌, ℕ, ◌^◌, ◌<◌, ◌≤◌, List, [], ◌∷◌, ◌++◌, length, true, false, Some, refl, rules, arith, get_or, ⊎_elim, ap, subst}
use Rattle.std.specs.Fmt.{decimal}
use Rattle.std.specs.Str.{all_ascii_digits}
use Rattle.std.proofs.lemmas.List.{append-nil}
use Rattle.std.proofs.lemmas.Fmt.{digits_decimal, digits_value-decimal, length-decimal-le, decimal_nonempty, first_decimal, decimal_digit}
use Rattle.std.proofs.lemmas.Str.Parse.{IsNumeralModel, numerals_by_fold}
use Rattle.std.proofs.lemmas.Bool.{and_parts, eq-eqb, cases_eq}
use Rattle.std.proofs.lemmas.Bool.Decides.{nat_tests}
use Rattle.pf_text.specs.Meaning.Words.{is_digit}
use Rattle.pf_text.specs.Steps.Scan.{behind, leading_digits, behind_digits, from_digit, number_on, is_misspelled, number_at, next_number}

-- what follows a word that was put in front
pub behind-append : (w t : List ℕ) → behind w (w ++ t) ≡ Some t
behind-append [] t = refl
behind-append (c ∷ w) t = rw (eq-eqb c c refl) (behind-append w t)

-- the text doesn't begin with a digit
abbrev pub NoDigit : List ℕ → Type 0
NoDigit [] = Unit {0}
NoDigit (c ∷ t) = is_digit c ≡ false

own : IsNumeralModel (λ ds. all_ascii_digits ds ≡ true) (number_on 0)
own = numerals_by_fold _ (search rules) number_on (search rules)

pub digits-decimal : (n : ℕ) → n < 2 ^ 64 → all_ascii_digits (decimal n) ≡ true
digits-decimal n h = digits_decimal own n h

pub number_on-decimal : (n : ℕ) → n < 2 ^ 64 → number_on 0 (decimal n) ≡ n
number_on-decimal n h = digits_value-decimal own n h

leading-append : (ds t : List ℕ) → all_ascii_digits ds ≡ true → NoDigit t → (leading_digits (ds ++ t) ≡ ds) × (behind_digits (ds ++ t) ≡ t)
leading-append [] [] a h = (refl, refl)
leading-append [] (c ∷ t) a h = rw h (refl, refl)
leading-append (d ∷ ds) t a h =
    let parts : (is_digit d ≡ true) × (all_ascii_digits ds ≡ true) = and_parts (is_digit d) (all_ascii_digits ds) a in
    let first = parts.0 in
    let rest = leading-append ds t parts.1 h in
    rw first (ap (λ l. d ∷ l) rest.0, rest.1)

from_digit-append : (ds t : List ℕ) → all_ascii_digits ds ≡ true → 1 ≤ length ds → from_digit (ds ++ t) ≡ ds ++ t
from_digit-append [] t a some = absurd (omega arith)
from_digit-append (d ∷ ds) t a some =
    let parts : (is_digit d ≡ true) × (all_ascii_digits ds ≡ true) = and_parts (is_digit d) (all_ascii_digits ds) a in
    let first = parts.0 in
    rw first refl

well_spelled : (ds : List ℕ) → 1 ≤ length ds → length ds ≤ 19 → (get_or ds 0 0 ≡ 48 → length ds ≡ 1) → is_misspelled ds ≡ false
well_spelled ds some most zero_alone = grind (arith, nat_tests)

zero_alone : (n : ℕ) → n < 2 ^ 64 → get_or (decimal n) 0 0 ≡ 48 → length (decimal n) ≡ 1
zero_alone n small e =
    ⊎_elim
    (λ (zero : n ≡ 0). rw (zero, decimal_digit 0 (omega arith)) refl)
    (λ (other : n ≡ 0 → ⊥). let first = first_decimal n (omega arith) small in absurd (omega arith))
    (cases_eq n 0)

-- a printed number is read back
pub number_at-decimal : (n : ℕ) (t : List ℕ) → n < 10 ^ 19 → NoDigit t → number_at (decimal n ++ t) ≡ Some (n, t)
number_at-decimal n t small h =
    let fits : n < 2 ^ 64 = omega arith in
    let both = leading-append (decimal n) t (digits_decimal own n fits) h in
    let some : 1 ≤ length (decimal n) = decimal_nonempty n fits in
    let most : length (decimal n) ≤ 19 = length-decimal-le 19 n (omega arith) small fits in
    rw (both.0, both.1, well_spelled (decimal n) some most (zero_alone n fits), digits_value-decimal own n fits) refl

-- a printed number is the next one
pub next_number-decimal : (n : ℕ) (t : List ℕ) → n < 10 ^ 19 → NoDigit t → next_number (decimal n ++ t) ≡ Some (n, t)
next_number-decimal n t small h =
    let fits : n < 2 ^ 64 = omega arith in
    rw (from_digit-append (decimal n) t (digits_decimal own n fits) (decimal_nonempty n fits)) (number_at-decimal n t small h)

pub number_at-last : (n : ℕ) → n < 10 ^ 19 → number_at (decimal n) ≡ Some (n, [])
number_at-last n small = subst (λ t. number_at t ≡ Some (n, [])) (append-nil (decimal n)) (number_at-decimal n [] small tt)

pub next_number-last : (n : ℕ) → n < 10 ^ 19 → next_number (decimal n) ≡ Some (n, [])
next_number-last n small = subst (λ t. next_number t ≡ Some (n, [])) (append-nil (decimal n)) (next_number-decimal n [] small tt)
