-- Digits and white space, counted from the front.
use Rattle.std.proofs.Common.{◌≡◌, ℕ, ◌+◌, ◌-◌, ◌*◌, ◌<◌, min, List, [], ◌∷◌, length, drop, get_or, refl, sym, ap, ◌∙◌, arith}
use Rattle.std.proofs.lemmas.List.{drop_more}
use Rattle.pf_images.specs.Meaning.Pgm.{number_from}

-- a number that is kept at the cap goes on as the number itself does
pub number_from_capped : (a : ℕ) (ds : List ℕ) → min (number_from (min a 65536) ds) 65536 ≡ min (number_from a ds) 65536
number_from_capped a [] = omega arith
number_from_capped a (d ∷ ds) =
    let same : min (min a 65536 * 10 + (d - 48)) 65536 ≡ min (a * 10 + (d - 48)) 65536 = omega arith in
    let left : min (number_from (min (min a 65536 * 10 + (d - 48)) 65536) ds) 65536 ≡ min (number_from (min a 65536 * 10 + (d - 48)) ds) 65536 = number_from_capped (min a 65536 * 10 + (d - 48)) ds in
    let right : min (number_from (min (a * 10 + (d - 48)) 65536) ds) 65536 ≡ min (number_from (a * 10 + (d - 48)) ds) 65536 = number_from_capped (a * 10 + (d - 48)) ds in
    sym left ∙ ap (λ (n : ℕ). min (number_from n ds) 65536) same ∙ right

-- one more digit
pub capped_more : (n i : ℕ) (ds : List ℕ) (total : ℕ) → i < length ds → min (number_from n (drop i ds)) 65536 ≡ total → min (number_from (min (n * 10 + (get_or ds i 0 - 48)) 65536) (drop (i + 1) ds)) 65536 ≡ total
capped_more n i ds total lt so_far =
    let one : min (number_from n (drop i ds)) 65536 ≡ min (number_from (n * 10 + (get_or ds i 0 - 48)) (drop (i + 1) ds)) 65536 = rw (drop_more ds i 0 lt) refl in
    number_from_capped (n * 10 + (get_or ds i 0 - 48)) (drop (i + 1) ds) ∙ (sym one ∙ so_far)
