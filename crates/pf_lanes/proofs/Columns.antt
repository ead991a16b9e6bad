-- A constant that holds references is a list of another type in definitions than in code: the columns of both are equal.
use Rattle.std.proofs.Common.{◌≡◌, ℕ, zero, suc, ◌<◌, List, [], ◌∷◌, length, map, refl, arith, ap, sym, ◌∙◌, get_or}

mapped : {A B : Type 0} (f : A → B) (xs : List A) (k : ℕ) (p : A) (d : B) → k < length xs → get_or (map f xs) k d ≡ f (get_or xs k p)
mapped f [] k p d inside = absurd (omega arith)
mapped f (x ∷ xs) zero p d inside = refl
mapped f (x ∷ xs) (suc k) p d inside = mapped f xs k p d (omega arith)

pub column : {A B : Type 0} (f : A → B) (xs : List A) (ys : List B) (k : ℕ) (p : A) (d : B) → k < length xs → map f xs ≡ ys → p ≡ get_or xs k p → f p ≡ get_or ys k d
column f xs ys k p d inside same e = ap f e ∙ sym (mapped f xs k p d inside) ∙ ap (λ zs. get_or zs k d) same
