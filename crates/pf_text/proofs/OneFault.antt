-- A text has one reading or one first fault.
use Rattle.std.proofs.Common.{◌≡◌, refl, sym, ◌∙◌, ap, subst, ℕ, List, [], ◌∷◌, ◌++◌, length, suc}
use Rattle.pf_text.specs.Meaning.FirstFaults.{Steps, OnlySteps, Halts, IsFirstFault}
use Rattle.pf_text.proofs.Lists.{first_same, rest_same}

module _ (S X : Type 0) (Step : S → X → S → Type 0) where
  pub steps_more : (s t u : S) (xs : List X) (x : X) → Steps Step s xs t → Step t x u → Steps Step s (xs ++ x ∷ []) u
  steps_more s t u [] x h step = (u, subst (λ (r : S). Step r x u) (sym h) step, refl)
  steps_more s t u (y ∷ ys) x h step = (h.0, h.1, steps_more h.0 t u ys x h.2 step)

  pub steps_on : (s t u : S) (xs ys : List X) → Steps Step s xs t → Steps Step t ys u → Steps Step s (xs ++ ys) u
  steps_on s t u [] ys h k = subst (λ (r : S). Steps Step r ys u) (sym h) k
  steps_on s t u (x ∷ xs) ys h k = (h.0, h.1, steps_on h.0 t u xs ys h.2 k)

  pub steps_of : (s t : S) (xs : List X) → OnlySteps Step s xs t → Steps Step s xs t
  steps_of s t [] h = h
  steps_of s t (x ∷ xs) h = (h.0, h.1.0, steps_of h.0 t xs h.2)

  -- where each step is the only one there is one halt
  pub one_halt : (s t u : S) (p q xs ys : List X) → p ++ xs ≡ q ++ ys → OnlySteps Step s p t → Halts Step t xs → Steps Step s q u → Halts Step u ys → (length p ≡ length q) × (t ≡ u)
  one_halt s t u [] [] xs ys is h halt k other = (refl, sym h ∙ k)
  one_halt s t u [] (w ∷ q) xs ys is h halt k other = absurd (subst (λ (r : S). Halts Step r (w ∷ (q ++ ys))) (sym h) (subst (Halts Step t) is halt) k.0 k.1)
  one_halt s t u (z ∷ p) [] xs ys is h halt k other = absurd (subst (λ (r : S). Halts Step r (z ∷ (p ++ xs))) (sym k) (subst (Halts Step u) (sym is) other) h.0 h.1.0)
  one_halt s t u (z ∷ p) (w ∷ q) xs ys is h halt k other =
      let step : k.0 ≡ h.0 = h.1.1 k.0 (subst (λ (v : X). Step s v k.0) (sym (first_same z w _ _ is)) k.1) in
      let rest = one_halt h.0 t u p q xs ys (rest_same z w _ _ is) h.2 halt (subst (λ (r : S). Steps Step r q u) step k.2) other in
      (ap suc rest.0, rest.1)

  module _ (one_step : (s t u : S) (x : X) → Step s x t → Step s x u → t ≡ u) where
    pub one_end : (s t u : S) (xs : List X) → Steps Step s xs t → Steps Step s xs u → t ≡ u
    one_end s t u [] h k = sym h ∙ k
    one_end s t u (x ∷ xs) h k = one_end k.0 t u xs (subst (λ (r : S). Steps Step r xs t) (one_step s h.0 k.0 x h.1 k.1) h.2) k.2

    module _ (F : Type 0) (Fault : S → X → F → Type 0) (whole : (s t : S) (x : X) (f : F) → Step s x t → Fault s x f → ⊥) where
      -- what steps to its end has no fault
      all_step : (s t u : S) (before after : List X) (x : X) (f : F) → Steps Step s (before ++ x ∷ after) t → Steps Step s before u → Fault u x f → ⊥
      all_step s t u [] after x f all h fault = whole s all.0 x f all.1 (subst (λ (r : S). Fault r x f) (sym h) fault)
      all_step s t u (y ∷ ys) after x f all h fault = all_step all.0 t u ys after x f all.2 (subst (λ (r : S). Steps Step r ys u) (one_step s h.0 all.0 y h.1 all.1) h.2) fault

      pub no_fault : (s t : S) (xs : List X) (n : ℕ) (f : F) → Steps Step s xs t → IsFirstFault Step Fault s xs n f → ⊥
      no_fault s t xs n f all h = all_step s t h.state h.before h.after h.here f (subst (λ (l : List X). Steps Step s l t) h.parts all) h.steps h.stands

      module _ (one_fault : (s : S) (x : X) (f g : F) → Fault s x f → Fault s x g → f ≡ g) where
        same : (s t u : S) (p q before after : List X) (x y : X) (f g : F) → p ++ x ∷ before ≡ q ++ y ∷ after → Steps Step s p t → Fault t x f → Steps Step s q u → Fault u y g → (length p ≡ length q) × (f ≡ g)
        same s t u [] [] xs ys x y f g is h fault k other =
            (refl, one_fault u y f g (subst (λ (r : S). Fault r y f) (sym h ∙ k) (subst (λ (z : X). Fault t z f) (first_same x y xs ys is) fault)) other)
        same s t u [] (z ∷ q) xs ys x y f g is h fault k other =
            absurd (whole s k.0 z f k.1 (subst (λ (w : X). Fault s w f) (first_same x z xs _ is) (subst (λ (r : S). Fault r x f) (sym h) fault)))
        same s t u (z ∷ p) [] xs ys x y f g is h fault k other =
            absurd (whole s h.0 z g h.1 (subst (λ (w : X). Fault s w g) (sym (first_same z y _ ys is)) (subst (λ (r : S). Fault r y g) (sym k) other)))
        same s t u (z ∷ p) (w ∷ q) xs ys x y f g is h fault k other =
            let step = one_step s h.0 k.0 w (subst (λ (v : X). Step s v h.0) (first_same z w _ _ is) h.1) k.1 in
            let rest = same k.0 t u p q xs ys x y f g (rest_same z w _ _ is) (subst (λ (r : S). Steps Step r p t) step h.2) fault k.2 other in
            (ap suc rest.0, rest.1)

        pub one_first : (s : S) (xs : List X) (m n : ℕ) (f g : F) → IsFirstFault Step Fault s xs m f → IsFirstFault Step Fault s xs n g → (m ≡ n) × (f ≡ g)
        one_first s xs m n f g h k =
            let both = same s h.state k.state h.before k.before h.after k.after h.here k.here f g (sym h.parts ∙ k.parts) h.steps h.stands k.steps k.stands in
            (h.count ∙ both.0 ∙ sym k.count, both.1)
