-- Lists of one, two and four.
use Rattle.std.proofs.Common.{◌≡◌, List, [], ◌∷◌, length, arith}

-- lists of one, two and four
pub by_one : {A : Type 0} (P : List A → Type 0) → ((x : A) → P (x ∷ [])) → (xs : List A) → length xs ≡ 1 → P xs
by_one P f [] h = absurd (omega arith)
by_one P f (x ∷ []) h = f x
by_one P f (x ∷ y ∷ xs) h = absurd (omega arith)

pub by_two : {A : Type 0} (P : List A → Type 0) → ((x y : A) → P (x ∷ y ∷ [])) → (xs : List A) → length xs ≡ 2 → P xs
by_two P f [] h = absurd (omega arith)
by_two P f (x ∷ []) h = absurd (omega arith)
by_two P f (x ∷ y ∷ []) h = f x y
by_two P f (x ∷ y ∷ z ∷ xs) h = absurd (omega arith)

pub by_four : {A : Type 0} (P : List A → Type 0) → ((a b x y : A) → P (a ∷ b ∷ x ∷ y ∷ [])) → (xs : List A) → length xs ≡ 4 → P xs
by_four P f [] h = absurd (omega arith)
by_four P f (a ∷ []) h = absurd (omega arith)
by_four P f (a ∷ b ∷ []) h = absurd (omega arith)
by_four P f (a ∷ b ∷ x ∷ []) h = absurd (omega arith)
by_four P f (a ∷ b ∷ x ∷ y ∷ []) h = f a b x y
by_four P f (a ∷ b ∷ x ∷ y ∷ z ∷ xs) h = absurd (omega arith)
