-- The least of 0 and some numbers, and the greatest, found one number after the other.
use Rattle.std.proofs.Common.{◌≡◌, ◌∙◌, sym, ap, ◌<◌, ◌+◌, ◌≤ℤ◌, ◌∷◌, [], pos, length, map, drop, slice_index_or, arith, ℕ, ℤ, List}
use Rattle.std.proofs.lemmas.Int.{ints, int_min_is, int_max_is}
use Rattle.std.proofs.lemmas.List.{drop_more}
use Rattle.std.specs.Int.{int_min, int_max}
use Rattle.pf_values.specs.declared.names.Tap.{Tap}
use Rattle.pf_values.specs.Meaning.Kernels.{lowest, highest}

pub lowest_sign : (ns : List ℤ) → lowest ns ≤ℤ pos 0
lowest_sign [] = omega (arith, ints)
lowest_sign (n ∷ ns) =
    let rest = lowest_sign ns in
    omega (arith, ints, int_min_is n (lowest ns))

pub highest_sign : (ns : List ℤ) → pos 0 ≤ℤ highest ns
highest_sign [] = omega (arith, ints)
highest_sign (n ∷ ns) =
    let rest = highest_sign ns in
    omega (arith, ints, int_max_is n (highest ns))

pub least_start : (ns : List ℤ) → int_min (pos 0) (lowest ns) ≡ lowest ns
least_start ns =
    let sign = lowest_sign ns in
    omega (arith, ints, int_min_is (pos 0) (lowest ns))

pub most_start : (ns : List ℤ) → int_max (pos 0) (highest ns) ≡ highest ns
most_start ns =
    let sign = highest_sign ns in
    omega (arith, ints, int_max_is (pos 0) (highest ns))

least_next : (a b c : ℤ) → int_min (int_min b a) c ≡ int_min a (int_min b c)
least_next a b c = omega (arith, ints, int_min_is b a, int_min_is (int_min b a) c, int_min_is b c, int_min_is a (int_min b c))

most_next : (a b c : ℤ) → int_max (int_max b a) c ≡ int_max a (int_max b c)
most_next a b c = omega (arith, ints, int_max_is b a, int_max_is (int_max b a) c, int_max_is b c, int_max_is a (int_max b c))

pub least_step : (f : Tap → ℤ) (taps : List Tap) (i : ℕ) (d : Tap) (least : ℤ) → i < length taps → int_min (int_min (f (slice_index_or taps i d)) least) (lowest (map f (drop (i + 1) taps))) ≡ int_min least (lowest (map f (drop i taps)))
least_step f taps i d least within = least_next least (f (slice_index_or taps i d)) (lowest (map f (drop (i + 1) taps))) ∙ sym (ap (λ ts. int_min least (lowest (map f ts))) (drop_more taps i d within))

pub most_step : (f : Tap → ℤ) (taps : List Tap) (i : ℕ) (d : Tap) (most : ℤ) → i < length taps → int_max (int_max (f (slice_index_or taps i d)) most) (highest (map f (drop (i + 1) taps))) ≡ int_max most (highest (map f (drop i taps)))
most_step f taps i d most within = most_next most (f (slice_index_or taps i d)) (highest (map f (drop (i + 1) taps))) ∙ sym (ap (λ ts. int_max most (highest (map f ts))) (drop_more taps i d within))
