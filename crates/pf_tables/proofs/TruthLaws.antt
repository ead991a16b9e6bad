-- Lists that are made item by item, and truth values as numbers.
use Rattle.std.proofs.Common.{◌≡◌, ℕ, zero, suc, ◌+◌, ◌<◌, List, [], ◌∷◌, ◌++◌, length, map, take, set, get_or, refl, sym, ap, ◌∙◌, arith, Bool, true, false}
use Rattle.std.specs.Prelude.{nat_lt, if◌then◌else◌}
use Rattle.std.proofs.lemmas.List.{take_more, take_more_set, length-map}

mapped : {A B : Type 0} (f : A → B) (xs : List A) (k : ℕ) (p : A) (d : B) → k < length xs → get_or (map f xs) k d ≡ f (get_or xs k p)
mapped f [] k p d inside = absurd (omega arith)
mapped f (x ∷ xs) zero p d inside = refl
mapped f (x ∷ xs) (suc k) p d inside = mapped f xs k p d (omega arith)

-- one item more is written
pub item_more : {A B : Type 0} (f : A → B) (xs : List A) (ys : List B) (n : ℕ) (p : A) (d v : B) → take n ys ≡ take n (map f xs) → n < length xs → n < length ys → v ≡ f (get_or xs n p) → take (n + 1) (set ys n v) ≡ take (n + 1) (map f xs)
item_more f xs ys n p d v so_far inside room is =
    let long : n < length (map f xs) = rw (length-map xs f) inside in
    take_more_set ys n v room ∙ ap (λ zs. zs ++ v ∷ []) so_far ∙ ap (λ w. take n (map f xs) ++ w ∷ []) (is ∙ sym (mapped f xs n p d inside)) ∙ sym (take_more (map f xs) n d long)

-- a truth value as a number is above 0 where it holds
number_back : (b : Bool) → nat_lt 0 (if b then 1 else 0) ≡ b
number_back true = refl
number_back false = refl

pub truths_back : (bs : List ℕ) → map (λ n. nat_lt 0 n) (map (λ b. if nat_lt 0 b then 1 else 0) bs) ≡ map (λ b. nat_lt 0 b) bs
truths_back [] = refl
truths_back (b ∷ bs) = ap (λ c. c ∷ map (λ n. nat_lt 0 n) (map (λ d. if nat_lt 0 d then 1 else 0) bs)) (number_back (nat_lt 0 b)) ∙ ap (λ cs. nat_lt 0 b ∷ cs) (truths_back bs)
