-- A step by an earlier rule keeps the value.
use Rattle.std.proofs.Common.{◌≡◌, refl, sym, ap, ◌∙◌, subst, ℕ, zero, suc, ◌+◌, ◌<◌, ℤ, Bool, true, false, cond, Some, None, List, [], ◌∷◌, length, arith, eqb-true}
use Rattle.std.specs.Prelude.{Option, slice_get, slice_index_or, option_and_then, option_map, is_some, ◌||◌, ◌==◌, Contains}
use Rattle.std.specs.Int.Signed.{le_z}
use Rattle.std.proofs.lemmas.Int.{ints}
use Rattle.pf_ints.specs.Meaning.Ranges.{Range, Includes, lies_in}
use Rattle.pf_values.proofs.Typing.{and_left, and_right}
use Rattle.pf_forms.specs.Meaning.Shapes.{Shape, Var, Num, Pow, Add, Sub, Mul, FloorDiv, Min, Max, Abs, Sel, Wrap, Sat}
use Rattle.pf_forms.specs.Meaning.Equality.{same}
use Rattle.pf_forms.specs.Meaning.Values.{FVal, AreIn, G, IsFormOver}
use Rattle.pf_forms.proofs.BoundLaws.{value_in}
use Rattle.pf_forms.proofs.EqualityLaws.{same_true}
use Rattle.pf_axioms.specs.Meaning.AxiomSteps.{KeepsValue}
use Rattle.pf_rules.specs.declared.shifts.Pair.{Pair}
use Rattle.pf_rules.specs.declared.rule.VarDecl.{VarDecl}
use Rattle.pf_rules.specs.declared.rule.RuleParts.{RuleParts}
use Rattle.pf_rules.specs.Meaning.Sides.{form_at, HasSort}
use Rattle.pf_rules.specs.Meaning.Rules.{pairs, range_at, AreInside}
use Rattle.pf_rules.proofs.SideLaws.{sided_of}
use Rattle.pf_check.specs.declared.checked.CheckedParts.{CheckedParts}
use Rattle.pf_check.specs.Meaning.Orders.{this_or}
use Rattle.pf_check.specs.Meaning.Checks.{at_pair, IsChecked}
use Rattle.pf_check.specs.Meaning.Citing.{filled, standing, bindings, is_pair, has_pair, outside, have_bounds, first_outside}
use Rattle.pf_check.specs.Steps.Answers.{AreForms}
use Rattle.pf_check.proofs.PairLaws.{first_none}

-- ---- what stands for a variable

this_some : {A : Type 0} (P : A → Type 0) (o p : Option A) → ((x : A) → o ≡ Some x → P x) → ((x : A) → p ≡ Some x → P x) → (x : A) → this_or o p ≡ Some x → P x
this_some P (Some y) p f g x e = f x e
this_some P None p f g x e = g x e

var_standing : (b : Bool) (f x : Shape) → cond b (Some f) None ≡ Some x → f ≡ x
var_standing true f x e = cc
var_standing false f x e = absurd (cc)

module _ (count n : ℕ) where
  abbrev Formed : Shape → Type 0
  Formed x = IsFormOver count x

  standing_form : (p f x : Shape) → IsFormOver count f → standing n p f ≡ Some x → IsFormOver count x
  standing_form (Var m) f x h e = subst (IsFormOver count) (var_standing (m == n) f x e) h
  standing_form (Add a b) (Add u v) x h e = this_some Formed (standing n a u) (standing n b v) (λ y. standing_form a u y h.0) (λ y. standing_form b v y h.1) x e
  standing_form (Sub a b) (Sub u v) x h e = this_some Formed (standing n a u) (standing n b v) (λ y. standing_form a u y h.0) (λ y. standing_form b v y h.1) x e
  standing_form (Mul a b) (Mul u v) x h e = this_some Formed (standing n a u) (standing n b v) (λ y. standing_form a u y h.0) (λ y. standing_form b v y h.1) x e
  standing_form (FloorDiv a d) (FloorDiv u k) x h e = standing_form a u x h.0 e
  standing_form (Min a b) (Min u v) x h e = this_some Formed (standing n a u) (standing n b v) (λ y. standing_form a u y h.0) (λ y. standing_form b v y h.1) x e
  standing_form (Max a b) (Max u v) x h e = this_some Formed (standing n a u) (standing n b v) (λ y. standing_form a u y h.0) (λ y. standing_form b v y h.1) x e
  standing_form (Abs a) (Abs u) x h e = standing_form a u x h e
  standing_form (Sel a b c d) (Sel s t u v) x h e =
      this_some Formed (this_or (standing n a s) (standing n b t)) (this_or (standing n c u) (standing n d v))
      (λ y. this_some Formed (standing n a s) (standing n b t) (λ z. standing_form a s z h.0) (λ z. standing_form b t z h.1) y)
      (λ y. this_some Formed (standing n c u) (standing n d v) (λ z. standing_form c u z h.2) (λ z. standing_form d v z h.3) y) x e
  standing_form (Wrap s a) (Wrap t u) x h e = standing_form a u x h e
  standing_form (Sat s a) (Sat t u) x h e = standing_form a u x h e
  standing_form _ _ x h e = absurd (cc)

pub record AreBound (count : ℕ) (ds : List VarDecl) (xs : List Shape) : Type 0 where
  pub formed : AreForms count xs
  pub alike : length xs ≡ length ds

module _ (count n : ℕ) (d : VarDecl) (ds : List VarDecl) (p f : Shape) (h : IsFormOver count f) (later : (ys : List Shape) → bindings (n + 1) ds p f ≡ Some ys → AreBound count ds ys) (xs : List Shape) where
  bound_rest : (x : Shape) (o : Option (List Shape)) → standing n p f ≡ Some x → bindings (n + 1) ds p f ≡ o → option_map (λ ys. x ∷ ys) o ≡ Some xs → AreBound count (d ∷ ds) xs
  bound_rest x None a b u = absurd (cc)
  bound_rest x (Some ys) a b u =
      let is : x ∷ ys ≡ xs = cc in
      let rest = later ys b in
      subst (AreBound count (d ∷ ds)) is (record { formed = (standing_form count n p f x h a, rest.formed); alike = ap suc rest.alike })

  bound_first : (o : Option Shape) → standing n p f ≡ o → option_and_then (λ x. option_map (λ ys. x ∷ ys) (bindings (n + 1) ds p f)) o ≡ Some xs → AreBound count (d ∷ ds) xs
  bound_first None a u = absurd (cc)
  bound_first (Some x) a u = bound_rest x (bindings (n + 1) ds p f) a refl u

pub bindings_formed : (count n : ℕ) (ds : List VarDecl) (p f : Shape) (xs : List Shape) → IsFormOver count f → bindings n ds p f ≡ Some xs → AreBound count ds xs
bindings_formed count n [] p f [] h e = record { formed = tt; alike = refl }
bindings_formed count n [] p f (x ∷ xs) h e = absurd (cc)
bindings_formed count n (d ∷ ds) p f xs h e = bound_first count n d ds p f h (λ ys b. bindings_formed count (n + 1) ds p f ys h b) xs (standing n p f) refl e

-- ---- forms put for variables

nth_form : (count : ℕ) (xs : List Shape) (n : ℕ) (z : Shape) → AreForms count xs → n < length xs → IsFormOver count (slice_index_or xs n z)
nth_form count [] n z h below = absurd (omega (arith, below))
nth_form count (x ∷ xs) zero z h below = h.0
nth_form count (x ∷ xs) (suc n) z h below = nth_form count xs n z h.1 (omega (arith, below))

pub filled_form : (count : ℕ) (xs : List Shape) (p : Shape) → AreForms count xs → IsFormOver (length xs) p → IsFormOver count (filled xs p)
filled_form count xs (Var n) h i = nth_form count xs n (Var n) h i
filled_form count xs (Num n) h i = i
filled_form count xs (Pow e) h i = i
filled_form count xs (Add a b) h i = (filled_form count xs a h i.0, filled_form count xs b h i.1)
filled_form count xs (Sub a b) h i = (filled_form count xs a h i.0, filled_form count xs b h i.1)
filled_form count xs (Mul a b) h i = (filled_form count xs a h i.0, filled_form count xs b h i.1)
filled_form count xs (FloorDiv a e) h i = (filled_form count xs a h i.0, i.1)
filled_form count xs (Min a b) h i = (filled_form count xs a h i.0, filled_form count xs b h i.1)
filled_form count xs (Max a b) h i = (filled_form count xs a h i.0, filled_form count xs b h i.1)
filled_form count xs (Abs a) h i = filled_form count xs a h i
filled_form count xs (Sel a b c d) h i = (filled_form count xs a h i.0, filled_form count xs b h i.1, filled_form count xs c h i.2, filled_form count xs d h i.3)
filled_form count xs (Wrap t a) h i = filled_form count xs a h i
filled_form count xs (Sat t a) h i = filled_form count xs a h i

module _ (v : ℕ → ℤ) (xs : List Shape) where
  abbrev pub values_of : ℕ → ℤ
  values_of n = FVal v (slice_index_or xs n (Var n))

  filled_value : (p : Shape) → FVal v (filled xs p) ≡ FVal values_of p
  filled_value (Var n) = refl
  filled_value (Num n) = refl
  filled_value (Pow e) = refl
  filled_value (Add a b) = rw (filled_value a, filled_value b) refl
  filled_value (Sub a b) = rw (filled_value a, filled_value b) refl
  filled_value (Mul a b) = rw (filled_value a, filled_value b) refl
  filled_value (FloorDiv a e) = rw (filled_value a) refl
  filled_value (Min a b) = rw (filled_value a, filled_value b) refl
  filled_value (Max a b) = rw (filled_value a, filled_value b) refl
  filled_value (Abs a) = rw (filled_value a) refl
  filled_value (Sel a b c d) = rw (filled_value a, filled_value b, filled_value c, filled_value d) refl
  filled_value (Wrap t a) = rw (filled_value a) refl
  filled_value (Sat t a) = rw (filled_value a) refl

-- ---- intervals that lie in their ranges

within_range : (got stated : Range) (n : ℤ) → lies_in got stated ≡ true → Includes got n → Includes stated n
within_range got stated n e h =
    let low : le_z stated.lo got.lo ≡ true = and_left (le_z stated.lo got.lo) (le_z got.hi stated.hi) e in
    let high : le_z got.hi stated.hi ≡ true = and_right (le_z stated.lo got.lo) (le_z got.hi stated.hi) e in
    record { low = omega (arith, ints, low, h.low); high = omega (arith, ints, high, h.high) }

pub inside_out : (o : Option Range) (stated got : Range) → o ≡ Some stated → outside o (Some got) ≡ None → lies_in got stated ≡ true
inside_out o stated got e h = by_test (lies_in got stated) refl (subst (λ p. outside p (Some got) ≡ None) e h)
  where
    by_test : (b : Bool) → lies_in got stated ≡ b → cond b None (Some got) ≡ None → lies_in got stated ≡ true
    by_test true d u = d
    by_test false d u = absurd (cc)

module _ (p : Pair) (ranges : List Range) (v : ℕ → ℤ) (inside : AreIn ranges v) where
  first_inside : (d : VarDecl) (x : Shape) (o : Option Range) (s : Range) → G ranges x ≡ o → is_some o ≡ true → outside (range_at p.w p.k d) o ≡ None → range_at p.w p.k d ≡ Some s → Includes s (FVal v x)
  first_inside d x None s g some h e = absurd (cc)
  first_inside d x (Some got) s g some h e = within_range got s (FVal v x) (inside_out (range_at p.w p.k d) s got e h) (value_in ranges v inside x got g)

  all_inside : (ds : List VarDecl) (xs : List Shape) → length xs ≡ length ds → have_bounds ranges xs ≡ true → first_outside p ranges ds xs ≡ None
      → (n : ℕ) (d : VarDecl) (s : Range) (z : Shape) → slice_get ds n ≡ Some d → range_at p.w p.k d ≡ Some s → Includes s (FVal v (slice_index_or xs n z))
  all_inside [] xs alike some h n d s z e f = absurd (cc)
  all_inside (a ∷ ds) [] alike some h n d s z e f = absurd (omega (arith, alike))
  all_inside (a ∷ ds) (x ∷ xs) alike some h zero d s z e f =
      let is : a ≡ d = cc in
      first_inside a x (G ranges x) s refl (and_left _ _ some) (first_none _ _ h).0 (subst (λ y. range_at p.w p.k y ≡ Some s) (sym is) f)
  all_inside (a ∷ ds) (x ∷ xs) alike some h (suc n) d s z e f =
      all_inside ds xs (omega (arith, alike)) (and_right _ _ some) (first_none _ _ h).1 n d s z e f

-- ---- the pair is among those of the rule

is_pair_true : (p q : Pair) → is_pair p q ≡ true → p ≡ q
is_pair_true p q e =
    let w = eqb-true p.w q.w (and_left _ _ e) in
    let k = eqb-true p.k q.k (and_right _ _ e) in
    rw (w, k) refl

contained_by : (p : Pair) (ps : List Pair) (q : Pair) (b : Bool) → is_pair p q ≡ b → b || has_pair ps q ≡ true → (has_pair ps q ≡ true → Contains ps q) → Contains (p ∷ ps) q
contained_by p ps q true d u later = (0, omega arith, is_pair_true p q d)
contained_by p ps q false d u later = let rest = later u in (suc rest.0, omega (arith, rest.1), rest.2)

pub contained : (ps : List Pair) (q : Pair) → has_pair ps q ≡ true → Contains ps q
contained [] q e = absurd (cc)
contained (p ∷ ps) q e = contained_by p ps q (is_pair p q) refl e (contained ps q)

-- ---- a checked rule

pub sort_left : (c : CheckedParts) → IsChecked c → (r : RuleParts) → r ≡ c.rule → (q : Pair) → has_pair (pairs r) q ≡ true → HasSort (at_pair r q) r.lhs
sort_left c h r e q has =
    let t = h.sound.amounts q (contained (pairs c.rule) q (subst (λ s. has_pair (pairs s) q ≡ true) e has)) in
    subst (λ s. HasSort (at_pair s q) s.lhs) (sym e) (record { kind = c.kind; ty = t.ty; sorted = t.left })

pub sort_right : (c : CheckedParts) → IsChecked c → (r : RuleParts) → r ≡ c.rule → (q : Pair) → has_pair (pairs r) q ≡ true → HasSort (at_pair r q) r.rhs
sort_right c h r e q has =
    let t = h.sound.amounts q (contained (pairs c.rule) q (subst (λ s. has_pair (pairs s) q ≡ true) e has)) in
    subst (λ s. HasSort (at_pair s q) s.rhs) (sym e) (record { kind = c.kind; ty = t.ty; sorted = t.right })

module _ (c : CheckedParts) (h : IsChecked c) (q : Pair) (has : has_pair (pairs c.rule) q ≡ true) (ranges : List Range) (f : Shape) (xs : List Shape) where
  cited_by : AreBound (length ranges) c.rule.vars xs → f ≡ filled xs (form_at (at_pair c.rule q) c.rule.lhs) → have_bounds ranges xs ≡ true
      → first_outside q ranges c.rule.vars xs ≡ None → KeepsValue ranges f (filled xs (form_at (at_pair c.rule q) c.rule.rhs))
  cited_by bound is some granted =
      let at = at_pair c.rule q in
      let left = sided_of at c.rule.lhs (sort_left c h c.rule refl q has) in
      let right = sided_of at c.rule.rhs (sort_right c h c.rule refl q has) in
      record {
        same_value = λ v inside.
            (let u = values_of v xs in
            let within : AreInside at u = λ n d s e g. all_inside q ranges v inside c.rule.vars xs bound.alike some granted n d s (Var n) e g in
            filled_value v xs (form_at at c.rule.rhs) ∙ right.value u ∙ sym (h.holds q (contained (pairs c.rule) q has) u within) ∙ sym (left.value u)
            ∙ sym (filled_value v xs (form_at at c.rule.lhs))
            ∙ ap (FVal v) (sym is));
        form = filled_form (length ranges) xs (form_at at c.rule.rhs) bound.formed (subst (λ n. IsFormOver n (form_at at c.rule.rhs)) (sym bound.alike) right.formed);
      }

-- what the rule makes of a form
pub cited_keeps : (c : CheckedParts) → IsChecked c → (r : RuleParts) → r ≡ c.rule → (q : Pair) → has_pair (pairs r) q ≡ true → (ranges : List Range) (f : Shape) (xs : List Shape) → IsFormOver (length ranges) f
    → bindings 0 r.vars (form_at (at_pair r q) r.lhs) f ≡ Some xs
    → same (filled xs (form_at (at_pair r q) r.lhs)) f ≡ true
    → have_bounds ranges xs ≡ true
    → first_outside q ranges r.vars xs ≡ None
    → KeepsValue ranges f (filled xs (form_at (at_pair r q) r.rhs))
cited_keeps c h r e q has ranges f xs i b s some granted =
    subst (λ t. has_pair (pairs t) q ≡ true → bindings 0 t.vars (form_at (at_pair t q) t.lhs) f ≡ Some xs → same (filled xs (form_at (at_pair t q) t.lhs)) f ≡ true
    → first_outside q ranges t.vars xs ≡ None → KeepsValue ranges f (filled xs (form_at (at_pair t q) t.rhs)))
    (sym e)
    (λ has2 b2 s2 g2. cited_by c h q has2 ranges f xs (bindings_formed (length ranges) 0 c.rule.vars (form_at (at_pair c.rule q) c.rule.lhs) f xs i b2)
    (sym (same_true _ _ s2)) some g2)
    has b s granted
