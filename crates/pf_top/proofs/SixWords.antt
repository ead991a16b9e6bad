-- Lists of six words.
use Rattle.std.proofs.Common.{◌≡◌, ℕ, ◌<◌, ◌≤◌, List, [], ◌∷◌, length, get_or, refl, arith, map, ◌∙◌, sym, ap}

-- a list of six items is its items
pub six_items : {X : Type 0} (xs : List X) (a b c d e f : X) → 6 ≤ length xs → length xs < 7
    → a ≡ get_or xs 0 a → b ≡ get_or xs 1 b → c ≡ get_or xs 2 c → d ≡ get_or xs 3 d → e ≡ get_or xs 4 e → f ≡ get_or xs 5 f
    → xs ≡ a ∷ b ∷ c ∷ d ∷ e ∷ f ∷ []
six_items [] a b c d e f least most _ _ _ _ _ _ = absurd (omega arith)
six_items (_ ∷ []) a b c d e f least most _ _ _ _ _ _ = absurd (omega arith)
six_items (_ ∷ _ ∷ []) a b c d e f least most _ _ _ _ _ _ = absurd (omega arith)
six_items (_ ∷ _ ∷ _ ∷ []) a b c d e f least most _ _ _ _ _ _ = absurd (omega arith)
six_items (_ ∷ _ ∷ _ ∷ _ ∷ []) a b c d e f least most _ _ _ _ _ _ = absurd (omega arith)
six_items (_ ∷ _ ∷ _ ∷ _ ∷ _ ∷ []) a b c d e f least most _ _ _ _ _ _ = absurd (omega arith)
six_items (_ ∷ _ ∷ _ ∷ _ ∷ _ ∷ _ ∷ []) a b c d e f least most ea eb ec ed ee ef = cc
six_items (_ ∷ _ ∷ _ ∷ _ ∷ _ ∷ _ ∷ _ ∷ _) a b c d e f least most _ _ _ _ _ _ = absurd (omega arith)

-- the texts of six items
pub six_texts : {X : Type 0} (g : X → List ℕ) (xs : List X) (a b c d e f : X) (u v w x y z : List ℕ)
    → xs ≡ a ∷ b ∷ c ∷ d ∷ e ∷ f ∷ [] → u ≡ g a → v ≡ g b → w ≡ g c → x ≡ g d → y ≡ g e → z ≡ g f
    → map g xs ≡ u ∷ v ∷ w ∷ x ∷ y ∷ z ∷ []
six_texts g xs a b c d e f u v w x y z is eu ev ew ex ey ez = rw (is, eu, ev, ew, ex, ey, ez) refl

-- the second of six texts
pub second_text : {X : Type 0} (g : X → List ℕ) (xs : List X) (a b c d e f : X) (u v w x y z : List ℕ)
    → xs ≡ a ∷ b ∷ c ∷ d ∷ e ∷ f ∷ [] → map g xs ≡ u ∷ v ∷ w ∷ x ∷ y ∷ z ∷ [] → g b ≡ v
second_text g xs a b c d e f u v w x y z is all =
    let texts : map g (a ∷ b ∷ c ∷ d ∷ e ∷ f ∷ []) ≡ u ∷ v ∷ w ∷ x ∷ y ∷ z ∷ [] = ap (map g) (sym is) ∙ all in
    cc
