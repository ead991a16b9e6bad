-- Lists of three words.
use Rattle.std.proofs.Common.{◌≡◌, ℕ, ◌<◌, ◌≤◌, List, [], ◌∷◌, length, get_or, refl, arith, map, ◌∙◌, sym, ap}

-- a list of three items is its items
pub three_items : {X : Type 0} (xs : List X) (a b c : X) → 3 ≤ length xs → length xs < 4 → a ≡ get_or xs 0 a → b ≡ get_or xs 1 b → c ≡ get_or xs 2 c → xs ≡ a ∷ b ∷ c ∷ []
three_items [] a b c least most _ _ _ = absurd (omega arith)
three_items (_ ∷ []) a b c least most _ _ _ = absurd (omega arith)
three_items (_ ∷ _ ∷ []) a b c least most _ _ _ = absurd (omega arith)
three_items (_ ∷ _ ∷ _ ∷ []) a b c least most ea eb ec = cc
three_items (_ ∷ _ ∷ _ ∷ _ ∷ _) a b c least most _ _ _ = absurd (omega arith)

-- the texts of three items
pub three_texts : {X : Type 0} (g : X → List ℕ) (xs : List X) (a b c : X) (u v w : List ℕ) → xs ≡ a ∷ b ∷ c ∷ [] → u ≡ g a → v ≡ g b → w ≡ g c → map g xs ≡ u ∷ v ∷ w ∷ []
three_texts g xs a b c u v w is eu ev ew = rw (is, eu, ev, ew) refl

-- the second of three texts
pub middle_text : {X : Type 0} (g : X → List ℕ) (xs : List X) (a b c : X) (u v w : List ℕ) → xs ≡ a ∷ b ∷ c ∷ [] → map g xs ≡ u ∷ v ∷ w ∷ [] → g b ≡ v
middle_text g xs a b c u v w is all =
    let texts : map g (a ∷ b ∷ c ∷ []) ≡ u ∷ v ∷ w ∷ [] = ap (map g) (sym is) ∙ all in
    cc
