-- Laws of lists.
use Rattle.std.proofs.Common.{◌≡◌, refl, sym, ◌∙◌, ap, subst, inl, inr, List, [], ◌∷◌, ◌++◌}
use Rattle.std.specs.Prelude.{◌⊎◌}

pub first_same : {A : Type 0} (x y : A) (xs ys : List A) → x ∷ xs ≡ y ∷ ys → x ≡ y
first_same x y xs ys h = cc

pub rest_same : {A : Type 0} (x y : A) (xs ys : List A) → x ∷ xs ≡ y ∷ ys → xs ≡ ys
rest_same x y xs ys h = cc

-- the second front goes on behind the first
pub record IsLonger {A : Type 0} (front rest other behind : List A) : Type 0 where
  pub here : A
  pub more : List A
  pub longer : other ≡ front ++ here ∷ more
  pub left : rest ≡ here ∷ (more ++ behind)

-- a list that is parted in two ways
abbrev pub Fork : {A : Type 0} → List A → List A → List A → List A → Type 0
Fork front rest other behind = ((front ≡ other) × (rest ≡ behind)) ⊎ (IsLonger front rest other behind ⊎ IsLonger other behind front rest)

fork_on : {A : Type 0} (z : A) (front rest other behind : List A) → Fork front rest other behind → Fork (z ∷ front) rest (z ∷ other) behind
fork_on z front rest other behind (inl h) = inl (ap (λ l. z ∷ l) h.0, h.1)
fork_on z front rest other behind (inr (inl h)) = inr (inl (record { here = h.here; more = h.more; longer = ap (λ l. z ∷ l) h.longer; left = h.left }))
fork_on z front rest other behind (inr (inr h)) = inr (inr (record { here = h.here; more = h.more; longer = ap (λ l. z ∷ l) h.longer; left = h.left }))

pub fork : {A : Type 0} (front rest other behind : List A) → front ++ rest ≡ other ++ behind → Fork front rest other behind
fork [] rest [] behind e = inl (refl, e)
fork [] rest (w ∷ other) behind e = inr (inl (record { here = w; more = other; longer = refl; left = e }))
fork (z ∷ front) rest [] behind e = inr (inr (record { here = z; more = front; longer = refl; left = sym e }))
fork {A} (z ∷ front) rest (w ∷ other) behind e =
    subst (λ (v : A). Fork (z ∷ front) rest (v ∷ other) behind) (first_same z w _ _ e) (fork_on z front rest other behind (fork front rest other behind (rest_same z w _ _ e)))

-- the same of two places
abbrev pub IsFurther : {A : Type 0} → List A → A → List A → Type 0
IsFurther {A} front x other = (more : List A) × (other ≡ front ++ x ∷ more)

further : {A : Type 0} (front other : List A) (x : A) (rest behind : List A) → IsLonger front (x ∷ rest) other behind → IsFurther front x other
further front other x rest behind h = (h.more, h.longer ∙ ap (λ v. front ++ v ∷ h.more) (sym (first_same x h.here rest _ h.left)))

pub fork_at : {A : Type 0} (front other : List A) (x y : A) (rest behind : List A) → front ++ x ∷ rest ≡ other ++ y ∷ behind → ((front ≡ other) × (x ≡ y)) ⊎ (IsFurther front x other ⊎ IsFurther other y front)
fork_at front other x y rest behind e = by (fork front (x ∷ rest) other (y ∷ behind) e) where
  by : Fork front (x ∷ rest) other (y ∷ behind) → ((front ≡ other) × (x ≡ y)) ⊎ (IsFurther front x other ⊎ IsFurther other y front)
  by (inl h) = inl (h.0, first_same x y rest behind h.1)
  by (inr (inl h)) = inr (inl (further front other x rest (y ∷ behind) h))
  by (inr (inr h)) = inr (inr (further other front y behind (x ∷ rest) h))
