-- Pairs of bytes and the numbers that they spell.
use Rattle.std.proofs.Common.{◌≡◌, ℕ, zero, suc, ◌+◌, ◌*◌, ◌/◌, ◌%◌, ◌^◌, ◌<◌, ◌≤◌, List, [], ◌∷◌, ◌++◌, length, drop, get_or, refl, sym, ap, ◌∙◌, append_assoc, arith}
use Rattle.std.specs.List.{flat_map, AllByRecursion}
use Rattle.std.specs.Int.{w16, to_be_bytes}
use Rattle.std.proofs.lemmas.List.{drop_more, append-nil, length-drop}
use Rattle.pf_images.specs.Steps.Reading.{pairs}

pairs_more : (n : ℕ) (bytes : List ℕ) → 2 * n + 1 < length bytes → pairs (drop (2 * n) bytes) ≡ (256 * get_or bytes (2 * n) 0 + get_or bytes (2 * n + 1) 0) ∷ pairs (drop (2 * (n + 1)) bytes)
pairs_more n bytes lt =
    let first : drop (2 * n) bytes ≡ get_or bytes (2 * n) 0 ∷ drop (2 * n + 1) bytes = drop_more bytes (2 * n) 0 (omega arith) in
    let second : drop (2 * n + 1) bytes ≡ get_or bytes (2 * n + 1) 0 ∷ drop (2 * n + 1 + 1) bytes = drop_more bytes (2 * n + 1) 0 lt in
    let two : 2 * n + 1 + 1 ≡ 2 * (n + 1) = omega arith in
    rw (first, second, two) refl

-- one more pair
pub pair_pushed : (front : List ℕ) (n : ℕ) (bytes total : List ℕ) (pixel : ℕ) → n < length bytes / 2 → pixel ≡ 256 * get_or bytes (2 * n) 0 + get_or bytes (2 * n + 1) 0
    → front ++ pairs (drop (2 * n) bytes) ≡ total → (front ++ pixel ∷ []) ++ pairs (drop (2 * (n + 1)) bytes) ≡ total
pair_pushed front n bytes total pixel lt is so_far =
    let more = pairs_more n bytes (omega arith) in
    append_assoc front (pixel ∷ []) (pairs (drop (2 * (n + 1)) bytes)) ∙ rw (is, ← more) so_far

-- no pair is left
pub pairs_done : (front : List ℕ) (n : ℕ) (bytes total : List ℕ) → length bytes / 2 ≤ n → front ++ pairs (drop (2 * n) bytes) ≡ total → front ≡ total
pairs_done front n bytes total le so_far =
    sym (append-nil front) ∙ (ap (λ (t : List ℕ). front ++ t) (sym (short (drop (2 * n) bytes) (omega (arith, length-drop (2 * n) bytes)))) ∙ so_far)
  where
    short : (rest : List ℕ) → length rest < 2 → pairs rest ≡ []
    short [] h = refl
    short (a ∷ []) h = refl
    short (a ∷ b ∷ rest) h = absurd (omega arith)

abbrev pub IsBytes : List ℕ → Type 0
IsBytes bytes = AllByRecursion (λ b. b < 256) bytes

-- the numbers of pairs spell the pairs
pub spelled_pairs : (n : ℕ) (bytes : List ℕ) → IsBytes bytes → length bytes ≡ 2 * n → flat_map (to_be_bytes w16) (pairs bytes) ≡ bytes
spelled_pairs n [] fits even = refl
spelled_pairs n (a ∷ []) fits even = absurd (omega arith)
spelled_pairs zero (a ∷ b ∷ rest) fits even = absurd (omega arith)
spelled_pairs (suc n) (a ∷ b ∷ rest) fits even =
    let first : to_be_bytes w16 (256 * a + b) ≡ a ∷ b ∷ [] = two a b fits.0 fits.1.0 in
    let more : flat_map (to_be_bytes w16) (pairs rest) ≡ rest = spelled_pairs n rest fits.1.1 (omega arith) in
    ap (λ (t : List ℕ). t ++ flat_map (to_be_bytes w16) (pairs rest)) first ∙ ap (λ (t : List ℕ). a ∷ b ∷ t) more
  where
    two : (a b : ℕ) → a < 256 → b < 256 → to_be_bytes w16 (256 * a + b) ≡ a ∷ b ∷ []
    two a b p q =
        let high : (256 * a + b) / 256 % 256 ≡ a = omega arith in
        let low : (256 * a + b) % 256 ≡ b = omega arith in
        rw (high, low) refl

-- pairs of what spells numbers give the numbers
pub pairs_again : (pixels : List ℕ) → AllByRecursion (λ p. p < 2 ^ 16) pixels → pairs (flat_map (to_be_bytes w16) pixels) ≡ pixels
pairs_again [] fits = refl
pairs_again (p ∷ ps) fits =
    let first : 256 * (p / 256 % 256) + p % 256 ≡ p = omega (arith, fits.0) in
    rw (first, pairs_again ps fits.1) refl

pub length-pairs : (n : ℕ) (bytes : List ℕ) → length bytes ≡ 2 * n → length (pairs bytes) ≡ n
length-pairs n [] even = omega arith
length-pairs n (a ∷ []) even = absurd (omega arith)
length-pairs zero (a ∷ b ∷ rest) even = absurd (omega arith)
length-pairs (suc n) (a ∷ b ∷ rest) even = ap suc (length-pairs n rest (omega arith))

pub pairs_below : (bytes : List ℕ) → IsBytes bytes → AllByRecursion (λ p. p < 65536) (pairs bytes)
pairs_below [] fits = tt
pairs_below (a ∷ []) fits = tt
pairs_below (a ∷ b ∷ rest) fits = (omega (arith, fits.0, fits.1.0), pairs_below rest fits.1.1)
