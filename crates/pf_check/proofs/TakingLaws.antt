-- The steps of a certificate: what they make is what the relation says, and keeps the value.
use Rattle.std.proofs.Common.{◌≡◌, refl, sym, ap, ◌∙◌, subst, ℕ, ℤ, zero, suc, ◌+◌, ◌-◌, ◌^◌, ◌≤◌, Bool, true, false, cond, Some, None, List, [], ◌∷◌, length, arith, Ok, Err, IsSome}
use Rattle.std.specs.Prelude.{Option, Result, slice_get, min, nat_le}
use Rattle.std.proofs.lemmas.Bool.{leb-true}
use Rattle.std.proofs.lemmas.Bool.Decides.{nat_tests}
use Rattle.pf_ints.specs.Meaning.Ranges.{Range}
use Rattle.pf_forms.specs.Meaning.Shapes.{Shape}
use Rattle.pf_forms.specs.Meaning.Parts.{form_node_count, part_at, put_at}
use Rattle.pf_forms.specs.Meaning.Equality.{same}
use Rattle.pf_forms.specs.Meaning.Values.{FVal, AreIn, IsFormOver}
use Rattle.pf_forms.proofs.EqualityLaws.{same_true, same_itself}
use Rattle.pf_forms.proofs.PartLaws.{part_is_form, put_form, put_value}
use Rattle.pf_axioms.specs.Meaning.Rows.{AxiomRow, Law, Folding, axiom_row}
use Rattle.pf_axioms.specs.Meaning.AxiomSteps.{Answer, RowStep, IsAnswer, KeepsValue, answer}
use Rattle.pf_axioms.proofs.FoldLaws.{fold_step, fold_only, fold_keeps}
use Rattle.pf_axioms.proofs.Sound.{step_of, only_of, keeps_of}
use Rattle.pf_axioms.proofs.RowLaws.{IsSoundRow, sound}
use Rattle.pf_rules.specs.declared.rule.By.{By}
use Rattle.pf_rules.specs.declared.rule.By.TheVariants as by
use Rattle.pf_rules.specs.declared.rule.Step.{Step}
use Rattle.pf_check.specs.declared.checked.CheckedParts.{CheckedParts}
use Rattle.pf_check.specs.Meaning.Checks.{IsChecked}
use Rattle.pf_check.specs.Meaning.Orders.{onward, fault_in}
use Rattle.pf_check.specs.Meaning.Faults.{Fault}
use Rattle.pf_check.specs.Meaning.Faults as fault
use Rattle.pf_check.specs.Meaning.Replays.{Setting, Stepped, Takes, Then, OnSide, Meet, Proves, most_nodes, counted, sized, by_entry, stepped, told, put_in, at_part, taken, replayed, replay_of}
use Rattle.pf_check.specs.Steps.Pairs.{AllChecked, IfOver}
use Rattle.pf_check.proofs.CitedLaws.{cited_is, cited_only, cited_kept}
use Rattle.pf_check.proofs.StepLaws.{keeps_put}

-- what was made, where there is no fault
pub made : {A : Type 0} (o : Result A Fault) (rest : A → Option Fault) → onward o rest ≡ None → (x : A) × (◌≡◌ {A = Result A Fault} o (Ok x)) × (rest x ≡ None)
made (Ok x) rest e = (x, refl, e)
made (Err d) rest e = absurd (cc)

pub onward_over : {A : Type 0} (count : ℕ) (o : Result A Fault) (rest : A → Option Fault) → IfOver count (fault_in o) → ((x : A) → ◌≡◌ {A = Result A Fault} o (Ok x) → IfOver count (rest x)) → IfOver count (onward o rest)
onward_over count (Ok x) rest h k = k x refl
onward_over count (Err e) rest h k = h

pub checked_at : (es : List (Option CheckedParts)) → AllChecked es → (n : ℕ) (c : CheckedParts) → slice_get es n ≡ Some (Some c) → IsChecked c
checked_at [] h n c e = absurd (cc)
checked_at (None ∷ es) h zero c e = absurd (cc)
checked_at (Some d ∷ es) h zero c e = let is : d ≡ c = cc in subst IsChecked is h.0
checked_at (None ∷ es) h (suc n) c e = checked_at es h n c e
checked_at (Some d ∷ es) h (suc n) c e = checked_at es h.1 n c e

-- ---- axioms

module _ (ranges : List Range) (f g : Shape) (form : IsFormOver (length ranges) f) where
  row_is : (row : AxiomRow) → IsSoundRow row → ◌≡◌ {A = Answer} (answer row ranges f) (Ok g) → RowStep row ranges f g
  row_is Folding k e = subst (IsAnswer Folding ranges f) e (fold_step ranges f)
  row_is (Law l r n) k e = subst (IsAnswer (Law l r n) ranges f) e (step_of l r n k ranges f form)

  row_only : (row : AxiomRow) → IsSoundRow row → RowStep row ranges f g → ◌≡◌ {A = Answer} (answer row ranges f) (Ok g)
  row_only Folding k e = fold_only ranges f g e
  row_only (Law l r n) k e = only_of l r n k ranges f form g e

  row_keeps : (row : AxiomRow) → IsSoundRow row → RowStep row ranges f g → KeepsValue ranges f g
  row_keeps Folding k e = fold_keeps ranges f g e
  row_keeps (Law l r n) k e = keeps_of l r n k ranges f form g e

-- ---- one step

module _ (s : Setting) (known : AllChecked s.earlier) where
  entry_is : (f g : Shape) (o : Option (Option CheckedParts)) → IsFormOver (length s.ranges) f → ◌≡◌ {A = Answer} (by_entry s o f) (Ok g) → (n : ℕ) → slice_get s.earlier n ≡ o → Stepped s (by.Rule n) f g
  entry_is f g (Some (Some c)) form e n d = (c, d, cited_is c.rule s.w s.k s.ranges f g form e)
  entry_is f g (Some None) form e n d = absurd (cc)
  entry_is f g None form e n d = absurd (cc)

  stepped_is : (b : By) (f g : Shape) → IsFormOver (length s.ranges) f → ◌≡◌ {A = Answer} (stepped s b f) (Ok g) → Stepped s b f g
  stepped_is (by.Axiom law) f g form e = row_is s.ranges f g form (axiom_row law) (sound law) e
  stepped_is (by.Rule n) f g form e = entry_is f g (slice_get s.earlier n) form e n refl

  stepped_only : (b : By) (f g : Shape) → IsFormOver (length s.ranges) f → Stepped s b f g → ◌≡◌ {A = Answer} (stepped s b f) (Ok g)
  stepped_only (by.Axiom law) f g form h = row_only s.ranges f g form (axiom_row law) (sound law) h
  stepped_only (by.Rule n) f g form h = ap (λ o. by_entry s o f) h.1 ∙ cited_only (h.0).rule s.w s.k s.ranges f g h.2

  stepped_keeps : (b : By) (f g : Shape) → IsFormOver (length s.ranges) f → Stepped s b f g → KeepsValue s.ranges f g
  stepped_keeps (by.Axiom law) f g form h = row_keeps s.ranges f g form (axiom_row law) (sound law) h
  stepped_keeps (by.Rule n) f g form h = cited_kept h.0 (checked_at s.earlier known n h.0 h.1) s.w s.k s.ranges f g form h.2

  sized_is : (n : ℕ) (f g : Shape) (b : Bool) → nat_le (counted f) most_nodes ≡ b → ◌≡◌ {A = Result Shape Fault} (cond b (Ok f) (Err (fault.TooLarge n s.w s.k (counted f)))) (Ok g) → (g ≡ f) × (form_node_count f ≤ most_nodes)
  sized_is n f g true d e =
      let small : counted f ≤ most_nodes = leb-true (counted f) most_nodes d in
      (cc, omega (arith, small))
  sized_is n f g false d e = absurd (cc)

  sized_only : (n : ℕ) (f : Shape) (b : Bool) → form_node_count f ≤ most_nodes → nat_le (counted f) most_nodes ≡ b → ◌≡◌ {A = Result Shape Fault} (cond b (Ok f) (Err (fault.TooLarge n s.w s.k (counted f)))) (Ok f)
  sized_only n f true small d = refl
  sized_only n f false small d = absurd (let least : counted f ≤ most_nodes = omega (arith, small) in grind (arith, nat_tests))

  module _ (n : ℕ) (t : Step) (f g : Shape) (form : IsFormOver (length s.ranges) f) where
    put_is : (x : Shape) (a : Answer) → part_at f t.path ≡ Some x → stepped s t.by x ≡ a → ◌≡◌ {A = Result Shape Fault} (put_in s n f t.path (told s n a)) (Ok g) → Takes s t f g
    put_is x (Ok y) d e u =
        let k = sized_is n (put_at f t.path y) g (nat_le (counted (put_at f t.path y)) most_nodes) refl u in
        record {
          part = x;
          new = y;
          stands = d;
          stepped = stepped_is t.by x y (part_is_form (length s.ranges) f x t.path d form) e;
          is_put = k.0;
          small = subst (λ h. form_node_count h ≤ most_nodes) (sym k.0) k.1;
        }
    put_is x (Err y) d e u = absurd (cc)

    part_taken : (o : Option Shape) → part_at f t.path ≡ o → ◌≡◌ {A = Result Shape Fault} (at_part s n t f o) (Ok g) → Takes s t f g
    part_taken None d u = absurd (cc)
    part_taken (Some x) d u = put_is x (stepped s t.by x) d refl u

    takes_is : ◌≡◌ {A = Result Shape Fault} (taken s n t f) (Ok g) → Takes s t f g
    takes_is u = part_taken (part_at f t.path) refl u

    takes_only : Takes s t f g → ◌≡◌ {A = Result Shape Fault} (taken s n t f) (Ok g)
    takes_only h =
        let put = put_at f t.path h.new in
        ap (at_part s n t f) h.stands
        ∙ ap (λ a. put_in s n f t.path (told s n a)) (stepped_only t.by h.part h.new (part_is_form (length s.ranges) f h.part t.path h.stands form) h.stepped)
        ∙ sized_only n put (nat_le (counted put) most_nodes) (subst (λ x. form_node_count x ≤ most_nodes) h.is_put h.small) refl
        ∙ ap (λ x. Ok x) (sym h.is_put)

    takes_keeps : Takes s t f g → KeepsValue s.ranges f g
    takes_keeps h =
        keeps_put s.ranges f g h.part h.new t.path (sym h.stands) (stepped_keeps t.by h.part h.new (part_is_form (length s.ranges) f h.part t.path h.stands form) h.stepped) form
        (put_form f g h.new t.path h.is_put)
        (put_value f g h.new t.path h.is_put (subst IsSome (sym h.stands) refl))

  -- ---- all steps

  module _ (n : ℕ) (t : Step) (ts : List Step) (f g : Shape) (i : IsFormOver (length s.ranges) f) (j : IsFormOver (length s.ranges) g) where
    abbrev tested : Bool → Option Fault
    tested b = cond b (onward (taken s n t f) (λ h. replayed s (n + 1) ts h g)) (onward (taken s n t g) (λ h. replayed s (n + 1) ts f h))

    abbrev Later : (Shape → Shape → Type 0) → Type 0
    Later P = (x y : Shape) → IsFormOver (length s.ranges) x → IsFormOver (length s.ranges) y → P x y

    meet_first : (b : Bool) → Later (λ x y. replayed s (n + 1) ts x y ≡ None → Meet s ts x y) → tested b ≡ None → OnSide b (Takes s t) (Meet s ts) f g
    meet_first true later e =
        let m = made (taken s n t f) (λ h. replayed s (n + 1) ts h g) e in
        let k = takes_is n t f m.0 i m.1 in
        (m.0, k, later m.0 g (takes_keeps n t f m.0 i k).form j m.2)
    meet_first false later e =
        let m = made (taken s n t g) (λ h. replayed s (n + 1) ts f h) e in
        let k = takes_is n t g m.0 j m.1 in
        (m.0, k, later f m.0 i (takes_keeps n t g m.0 j k).form m.2)

    only_first : (b : Bool) → Later (λ x y. Meet s ts x y → replayed s (n + 1) ts x y ≡ None) → OnSide b (Takes s t) (Meet s ts) f g → tested b ≡ None
    only_first true later h =
        ap (λ o. onward o (λ x. replayed s (n + 1) ts x g)) (takes_only n t f h.0 i h.1) ∙ later h.0 g (takes_keeps n t f h.0 i h.1).form j h.2
    only_first false later h =
        ap (λ o. onward o (λ x. replayed s (n + 1) ts f x)) (takes_only n t g h.0 j h.1) ∙ later f h.0 i (takes_keeps n t g h.0 j h.1).form h.2

    value_first : (v : ℕ → ℤ) → AreIn s.ranges v → (b : Bool) → Later (λ x y. Meet s ts x y → FVal v x ≡ FVal v y) → OnSide b (Takes s t) (Meet s ts) f g → FVal v f ≡ FVal v g
    value_first v inside true later h =
        let k = takes_keeps n t f h.0 i h.1 in
        sym (k.same_value v inside) ∙ later h.0 g k.form j h.2
    value_first v inside false later h =
        let k = takes_keeps n t g h.0 j h.1 in
        later f h.0 i k.form h.2 ∙ k.same_value v inside

  meet_is : (n : ℕ) (ts : List Step) (f g : Shape) → IsFormOver (length s.ranges) f → IsFormOver (length s.ranges) g → replayed s n ts f g ≡ None → Meet s ts f g
  meet_is n [] f g i j e = by_test (same f g) refl e
    where
      by_test : (b : Bool) → same f g ≡ b → cond b None (Some (fault.Apart s.w s.k f g)) ≡ None → f ≡ g
      by_test true d u = same_true f g d
      by_test false d u = absurd (cc)
  meet_is n (t ∷ ts) f g i j e = meet_first n t ts f g i j t.left (λ x y. meet_is (n + 1) ts x y) e

  meet_only : (n : ℕ) (ts : List Step) (f g : Shape) → IsFormOver (length s.ranges) f → IsFormOver (length s.ranges) g → Meet s ts f g → replayed s n ts f g ≡ None
  meet_only n [] f g i j e =
      ap (λ b. cond b None (Some (fault.Apart s.w s.k f g))) (subst (λ x. same f x ≡ true) e (same_itself f))
  meet_only n (t ∷ ts) f g i j e = only_first n t ts f g i j t.left (λ x y. meet_only (n + 1) ts x y) e

  meet_value : (v : ℕ → ℤ) → AreIn s.ranges v → (ts : List Step) (f g : Shape) → IsFormOver (length s.ranges) f → IsFormOver (length s.ranges) g → Meet s ts f g → FVal v f ≡ FVal v g
  meet_value v inside [] f g i j e = ap (FVal v) e
  meet_value v inside (t ∷ ts) f g i j e = value_first 0 t ts f g i j v inside t.left (λ x y. meet_value v inside ts x y) e

  -- ---- forms that are told

  put_over : (n : ℕ) (f : Shape) (path : List ℕ) (a : Answer) → IfOver (length s.ranges) (fault_in (put_in s n f path (told s n a)))
  put_over n f path (Err e) = tt
  put_over n f path (Ok x) = by_test (nat_le (counted (put_at f path x)) most_nodes)
    where
      by_test : (b : Bool) → IfOver (length s.ranges) (fault_in (cond b (Ok (put_at f path x)) (Err (fault.TooLarge n s.w s.k (counted (put_at f path x))))))
      by_test true = tt
      by_test false = tt

  taken_over : (n : ℕ) (t : Step) (f : Shape) (o : Option Shape) → IfOver (length s.ranges) (fault_in (at_part s n t f o))
  taken_over n t f None = tt
  taken_over n t f (Some x) = put_over n f t.path (stepped s t.by x)

  replayed_over : (n : ℕ) (ts : List Step) (f g : Shape) → IsFormOver (length s.ranges) f → IsFormOver (length s.ranges) g → IfOver (length s.ranges) (replayed s n ts f g)
  replayed_over n [] f g i j = by_test (same f g)
    where
      by_test : (b : Bool) → IfOver (length s.ranges) (cond b None (Some (fault.Apart s.w s.k f g)))
      by_test true = tt
      by_test false = (i, j)
  replayed_over n (t ∷ ts) f g i j = by_side (λ x y. replayed_over (n + 1) ts x y) t.left
    where
      by_side : Later n t ts f g i j (λ x y. IfOver (length s.ranges) (replayed s (n + 1) ts x y)) → (b : Bool) → IfOver (length s.ranges) (tested n t ts f g i j b)
      by_side later true =
          onward_over (length s.ranges) (taken s n t f) (λ h. replayed s (n + 1) ts h g) (taken_over n t f (part_at f t.path))
          (λ h e. later h g (takes_keeps n t f h i (takes_is n t f h i e)).form j)
      by_side later false =
          onward_over (length s.ranges) (taken s n t g) (λ h. replayed s (n + 1) ts f h) (taken_over n t g (part_at g t.path))
          (λ h e. later f h i (takes_keeps n t g h j (takes_is n t g h j e)).form)

  -- ---- the certificate

  module _ (ts : List Step) (f g : Shape) (i : IsFormOver (length s.ranges) f) (j : IsFormOver (length s.ranges) g) where
    pub proves_is : replay_of s ts f g ≡ None → Proves s ts f g
    proves_is e =
        let a = made (sized s 0 f) (λ x. onward (sized s 0 g) (λ y. replayed s 1 ts x y)) e in
        let b = made (sized s 0 g) (λ y. replayed s 1 ts a.0 y) a.2 in
        let p = sized_is 0 f a.0 (nat_le (counted f) most_nodes) refl a.1 in
        let q = sized_is 0 g b.0 (nat_le (counted g) most_nodes) refl b.1 in
        record {
          small_left = p.1;
          small_right = q.1;
          meet = meet_is 1 ts f g i j (subst (λ y. replayed s 1 ts f y ≡ None) q.0 (subst (λ x. replayed s 1 ts x b.0 ≡ None) p.0 b.2));
        }

    pub proves_only : Proves s ts f g → replay_of s ts f g ≡ None
    proves_only h =
        ap (λ o. onward o (λ x. onward (sized s 0 g) (λ y. replayed s 1 ts x y))) (sized_only 0 f (nat_le (counted f) most_nodes) h.small_left refl)
        ∙ ap (λ o. onward o (λ y. replayed s 1 ts f y)) (sized_only 0 g (nat_le (counted g) most_nodes) h.small_right refl)
        ∙ meet_only 1 ts f g i j h.meet

    pub proves_over : IfOver (length s.ranges) (replay_of s ts f g)
    proves_over =
        onward_over (length s.ranges) (sized s 0 f) (λ x. onward (sized s 0 g) (λ y. replayed s 1 ts x y)) (sized_over f (nat_le (counted f) most_nodes))
        (λ x e. onward_over (length s.ranges) (sized s 0 g) (λ y. replayed s 1 ts x y) (sized_over g (nat_le (counted g) most_nodes))
        (λ y d. replayed_over 1 ts x y (subst (IsFormOver (length s.ranges)) (sym (sized_is 0 f x (nat_le (counted f) most_nodes) refl e).0) i)
        (subst (IsFormOver (length s.ranges)) (sym (sized_is 0 g y (nat_le (counted g) most_nodes) refl d).0) j)))
      where
        sized_over : (h : Shape) (b : Bool) → IfOver (length s.ranges) (fault_in (cond b (Ok h) (Err (fault.TooLarge 0 s.w s.k (counted h)))))
        sized_over h true = tt
        sized_over h false = tt

    pub proves_value : Proves s ts f g → (v : ℕ → ℤ) → AreIn s.ranges v → FVal v f ≡ FVal v g
    proves_value h v inside = meet_value v inside ts f g i j h.meet
