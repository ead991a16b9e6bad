-- A part of a form is a form, and putting another in its place keeps the value where that one has the part's value.
use Rattle.std.proofs.Common.{◌≡◌, refl, sym, ap, ◌∙◌, subst, ℕ, ◌^◌, ℤ, pos, ◌+ℤ◌, ◌-ℤ◌, ◌*ℤ◌, Bool, true, false, cond, List, [], ◌∷◌, Option, Some, None, IsSome, IfSome, Bor}
use Rattle.std.specs.Prelude.{◌==◌, int_lt, unsigned_abs, option_map, option_and_then}
use Rattle.std.specs.Option.{option_map_or}
use Rattle.std.specs.Int.{int_max, int_min}
use Rattle.pf_ints.specs.Meaning.Whole.{floor_div}
use Rattle.pf_ints.specs.Meaning.Lanes.{wrapped, clamped}
use Rattle.pf_forms.specs.declared.form.Form.{Form}
use Rattle.pf_forms.specs.Meaning.Shapes.{Shape, shape, Var, Num, Pow, Add, Sub, Mul, FloorDiv, Min, Max, Abs, Sel, Wrap, Sat}
use Rattle.pf_forms.specs.Meaning.Values.{FVal, IsFormOver}
use Rattle.pf_forms.specs.Meaning.Parts.{child, part_at, with_child, put_at}

-- which child it is, where there is one
one_is : (a : Bool) (x w : Shape) → cond a (Some x) None ≡ Some w → w ≡ x
one_is true x w e = cc
one_is false x w e = absurd (cc)

-- the same of a node of two parts, of which the one gives way to z
two_cases : (P : Shape → Type 0) (node : Shape → Shape → Shape) (x y w z : Shape) (a b : Bool) → cond a (Some x) (cond b (Some y) None) ≡ Some w → (w ≡ x → P (node z y)) → (w ≡ y → P (node x z)) → P (cond a (node z y) (node x z))
two_cases P node x y w z true b e p q = p (cc)
two_cases P node x y w z false true e p q = q (cc)
two_cases P node x y w z false false e p q = absurd (cc)

four_cases : (P : Shape → Type 0) (s t x y w z : Shape) (a b c d : Bool) → cond a (Some s) (cond b (Some t) (cond c (Some x) (cond d (Some y) None))) ≡ Some w → (w ≡ s → P (Sel z t x y)) → (w ≡ t → P (Sel s z x y)) → (w ≡ x → P (Sel s t z y)) → (w ≡ y → P (Sel s t x z)) → P (cond a (Sel z t x y) (cond b (Sel s z x y) (cond c (Sel s t z y) (Sel s t x z))))
four_cases P s t x y w z true b c d e p q r u = p (cc)
four_cases P s t x y w z false true c d e p q r u = q (cc)
four_cases P s t x y w z false false true d e p q r u = r (cc)
four_cases P s t x y w z false false false true e p q r u = u (cc)
four_cases P s t x y w z false false false false e p q r u = absurd (cc)

-- ---- what a form keeps
module _ (count : ℕ) where
  two_child : (x y w : Shape) (a b : Bool) → cond a (Some x) (cond b (Some y) None) ≡ Some w → IsFormOver count x × IsFormOver count y → IsFormOver count w
  two_child x y w true b e h = let same : x ≡ w = cc in subst (IsFormOver count) same h.0
  two_child x y w false true e h = let same : y ≡ w = cc in subst (IsFormOver count) same h.1
  two_child x y w false false e h = absurd (cc)

  child_form : (f w : Shape) (i : ℕ) → child f i ≡ Some w → IsFormOver count f → IsFormOver count w
  child_form (Var n) w i e h = absurd (cc)
  child_form (Num n) w i e h = absurd (cc)
  child_form (Pow k) w i e h = absurd (cc)
  child_form (Add x y) w i e h = two_child x y w (i == 0) (i == 1) e h
  child_form (Sub x y) w i e h = two_child x y w (i == 0) (i == 1) e h
  child_form (Mul x y) w i e h = two_child x y w (i == 0) (i == 1) e h
  child_form (Min x y) w i e h = two_child x y w (i == 0) (i == 1) e h
  child_form (Max x y) w i e h = two_child x y w (i == 0) (i == 1) e h
  child_form (FloorDiv x k) w i e h = subst (IsFormOver count) (sym (one_is (i == 0) x w e)) h.0
  child_form (Abs x) w i e h = subst (IsFormOver count) (sym (one_is (i == 0) x w e)) h
  child_form (Sel a b x y) w i e h = four_child (i == 0) (i == 1) (i == 2) (i == 3) e
    where
      four_child : (p q r s : Bool) → cond p (Some a) (cond q (Some b) (cond r (Some x) (cond s (Some y) None))) ≡ Some w → IsFormOver count w
      four_child true q r s d = let same : a ≡ w = cc in subst (IsFormOver count) same h.0
      four_child false true r s d = let same : b ≡ w = cc in subst (IsFormOver count) same h.1
      four_child false false true s d = let same : x ≡ w = cc in subst (IsFormOver count) same h.2
      four_child false false false true d = let same : y ≡ w = cc in subst (IsFormOver count) same h.3
      four_child false false false false d = absurd (cc)
  child_form (Wrap t x) w i e h = subst (IsFormOver count) (sym (one_is (i == 0) x w e)) h
  child_form (Sat t x) w i e h = subst (IsFormOver count) (sym (one_is (i == 0) x w e)) h

  with_form : (f w z : Shape) (i : ℕ) → child f i ≡ Some w → IsFormOver count f → IsFormOver count z → IsFormOver count (with_child f i z)
  with_form (Var n) w z i e h k = absurd (cc)
  with_form (Num n) w z i e h k = absurd (cc)
  with_form (Pow m) w z i e h k = absurd (cc)
  with_form (Add x y) w z i e h k = two_cases (IsFormOver count) Add x y w z (i == 0) (i == 1) e (λ _. (k, h.1)) (λ _. (h.0, k))
  with_form (Sub x y) w z i e h k = two_cases (IsFormOver count) Sub x y w z (i == 0) (i == 1) e (λ _. (k, h.1)) (λ _. (h.0, k))
  with_form (Mul x y) w z i e h k = two_cases (IsFormOver count) Mul x y w z (i == 0) (i == 1) e (λ _. (k, h.1)) (λ _. (h.0, k))
  with_form (Min x y) w z i e h k = two_cases (IsFormOver count) Min x y w z (i == 0) (i == 1) e (λ _. (k, h.1)) (λ _. (h.0, k))
  with_form (Max x y) w z i e h k = two_cases (IsFormOver count) Max x y w z (i == 0) (i == 1) e (λ _. (k, h.1)) (λ _. (h.0, k))
  with_form (FloorDiv x m) w z i e h k = (k, h.1)
  with_form (Abs x) w z i e h k = k
  with_form (Sel a b x y) w z i e h k =
      four_cases (IsFormOver count) a b x y w z (i == 0) (i == 1) (i == 2) (i == 3) e (λ _. (k, h.1, h.2, h.3)) (λ _. (h.0, k, h.2, h.3))
      (λ _. (h.0, h.1, k, h.3))
      (λ _. (h.0, h.1, h.2, k))
  with_form (Wrap t x) w z i e h k = k
  with_form (Sat t x) w z i e h k = k

  pub part_is_form : (f p : Shape) (path : List ℕ) → part_at f path ≡ Some p → IsFormOver count f → IsFormOver count p
  part_is_form f p [] e h = let same : f ≡ p = cc in subst (IsFormOver count) same h
  part_is_form f p (i ∷ path) e h = by_child (child f i) (λ x. part_is_form x p path) refl e
    where
      by_child : (o : Option Shape) → ((x : Shape) → part_at x path ≡ Some p → IsFormOver count x → IsFormOver count p) → child f i ≡ o → option_and_then (λ x. part_at x path) o ≡ Some p → IsFormOver count p
      by_child None deeper d k = absurd (cc)
      by_child (Some x) deeper d k = deeper x k (child_form f x i d h)

  put_is_form : (f z : Shape) (path : List ℕ) → IsFormOver count f → IsFormOver count z → IsFormOver count (put_at f path z)
  put_is_form f z [] h k = k
  put_is_form f z (i ∷ path) h k = by_child (child f i) (λ x. put_is_form x z path) refl
    where
      by_child : (o : Option Shape) → ((x : Shape) → IsFormOver count x → IsFormOver count z → IsFormOver count (put_at x path z)) → child f i ≡ o → IsFormOver count (option_map_or (λ x. with_child f i (put_at x path z)) o f)
      by_child None deeper d = h
      by_child (Some x) deeper d = with_form f x (put_at x path z) i d h (deeper x (child_form f x i d h) k)

-- ---- values
module _ (v : ℕ → ℤ) where
  with_value : (f w z : Shape) (i : ℕ) → child f i ≡ Some w → FVal v z ≡ FVal v w → FVal v (with_child f i z) ≡ FVal v f
  with_value (Var n) w z i e h = absurd (cc)
  with_value (Num n) w z i e h = absurd (cc)
  with_value (Pow k) w z i e h = absurd (cc)
  with_value (Add x y) w z i e h =
      two_cases (λ g. FVal v g ≡ FVal v (Add x y)) Add x y w z (i == 0) (i == 1) e (λ s. ap (λ (n : ℤ). n +ℤ FVal v y) (h ∙ ap (FVal v) s))
      (λ s. ap (λ (n : ℤ). FVal v x +ℤ n) (h ∙ ap (FVal v) s))
  with_value (Sub x y) w z i e h =
      two_cases (λ g. FVal v g ≡ FVal v (Sub x y)) Sub x y w z (i == 0) (i == 1) e (λ s. ap (λ (n : ℤ). n -ℤ FVal v y) (h ∙ ap (FVal v) s))
      (λ s. ap (λ (n : ℤ). FVal v x -ℤ n) (h ∙ ap (FVal v) s))
  with_value (Mul x y) w z i e h =
      two_cases (λ g. FVal v g ≡ FVal v (Mul x y)) Mul x y w z (i == 0) (i == 1) e (λ s. ap (λ (n : ℤ). n *ℤ FVal v y) (h ∙ ap (FVal v) s))
      (λ s. ap (λ (n : ℤ). FVal v x *ℤ n) (h ∙ ap (FVal v) s))
  with_value (Min x y) w z i e h =
      two_cases (λ g. FVal v g ≡ FVal v (Min x y)) Min x y w z (i == 0) (i == 1) e (λ s. ap (λ (n : ℤ). int_min n (FVal v y)) (h ∙ ap (FVal v) s))
      (λ s. ap (λ (n : ℤ). int_min (FVal v x) n) (h ∙ ap (FVal v) s))
  with_value (Max x y) w z i e h =
      two_cases (λ g. FVal v g ≡ FVal v (Max x y)) Max x y w z (i == 0) (i == 1) e (λ s. ap (λ (n : ℤ). int_max n (FVal v y)) (h ∙ ap (FVal v) s))
      (λ s. ap (λ (n : ℤ). int_max (FVal v x) n) (h ∙ ap (FVal v) s))
  with_value (FloorDiv x k) w z i e h = ap (λ (n : ℤ). floor_div n (2 ^ k)) (h ∙ ap (FVal v) (one_is (i == 0) x w e))
  with_value (Abs x) w z i e h = ap (λ (n : ℤ). pos (unsigned_abs n)) (h ∙ ap (FVal v) (one_is (i == 0) x w e))
  with_value (Sel a b x y) w z i e h =
      four_cases (λ g. FVal v g ≡ FVal v (Sel a b x y)) a b x y w z (i == 0) (i == 1) (i == 2) (i == 3) e
      (λ s. ap (λ (n : ℤ). cond (int_lt (FVal v b) n) (FVal v x) (FVal v y)) (h ∙ ap (FVal v) s))
      (λ s. ap (λ (n : ℤ). cond (int_lt n (FVal v a)) (FVal v x) (FVal v y)) (h ∙ ap (FVal v) s))
      (λ s. ap (λ (n : ℤ). cond (int_lt (FVal v b) (FVal v a)) n (FVal v y)) (h ∙ ap (FVal v) s))
      (λ s. ap (λ (n : ℤ). cond (int_lt (FVal v b) (FVal v a)) (FVal v x) n) (h ∙ ap (FVal v) s))
  with_value (Wrap t x) w z i e h = ap (wrapped t) (h ∙ ap (FVal v) (one_is (i == 0) x w e))
  with_value (Sat t x) w z i e h = ap (clamped t) (h ∙ ap (FVal v) (one_is (i == 0) x w e))

  put_same_value : (f z : Shape) (path : List ℕ) → IsSome (part_at f path) → IfSome (part_at f path) (λ p. FVal v z ≡ FVal v p) → FVal v (put_at f path z) ≡ FVal v f
  put_same_value f z [] some h = h
  put_same_value f z (i ∷ path) some h = by_child (child f i) (λ x. put_same_value x z path) refl some h
    where
      by_child : (o : Option Shape) → ((x : Shape) → IsSome (part_at x path) → IfSome (part_at x path) (λ p. FVal v z ≡ FVal v p) → FVal v (put_at x path z) ≡ FVal v x) → child f i ≡ o → IsSome (option_and_then (λ x. part_at x path) o) → IfSome (option_and_then (λ x. part_at x path) o) (λ p. FVal v z ≡ FVal v p) → FVal v (option_map_or (λ x. with_child f i (put_at x path z)) o f) ≡ FVal v f
      by_child None deeper d p k = absurd (cc)
      by_child (Some x) deeper d p k = with_value f x (put_at x path z) i d (deeper x p k)

-- ---- at the answers of the calls
pub part_form : (f : Shape) (path : List ℕ) (o : Option (Bor Form)) → option_map (λ x. shape x.now) o ≡ part_at f path → (count : ℕ) → IsFormOver count f → IfSome o (λ x. IsFormOver count (shape x.now))
part_form f path None e count h = tt
part_form f path (Some x) e count h = part_is_form count f (shape x.now) path (sym e) h

pub put_form : (f g z : Shape) (path : List ℕ) → g ≡ put_at f path z → (count : ℕ) → IsFormOver count f → IsFormOver count z → IsFormOver count g
put_form f g z path e count h k = subst (IsFormOver count) (sym e) (put_is_form count f z path h k)

pub put_value : (f g z : Shape) (path : List ℕ) → g ≡ put_at f path z → IsSome (part_at f path) → (v : ℕ → ℤ) → IfSome (part_at f path) (λ p. FVal v z ≡ FVal v p) → FVal v g ≡ FVal v f
put_value f g z path e some v h = ap (FVal v) e ∙ put_same_value v f z path some h
