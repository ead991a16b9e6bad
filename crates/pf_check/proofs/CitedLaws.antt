-- What an earlier rule makes of a form: the answer is what the relation says.
use Rattle.std.proofs.Common.{◌≡◌, refl, sym, ap, ◌∙◌, subst, ℕ, zero, suc, ◌<◌, Bool, true, false, cond, Some, None, List, [], ◌∷◌, length, arith, Ok, Err}
use Rattle.std.specs.Prelude.{Option, is_some, ◌||◌, ◌==◌, Contains}
use Rattle.pf_ints.specs.Meaning.Ranges.{Range}
use Rattle.pf_values.proofs.Typing.{and_left, and_right}
use Rattle.pf_forms.specs.Meaning.Shapes.{Shape, Var}
use Rattle.pf_forms.specs.Meaning.Equality.{same}
use Rattle.pf_forms.specs.Meaning.Values.{G, IsFormOver}
use Rattle.pf_forms.proofs.EqualityLaws.{same_true, same_itself}
use Rattle.pf_axioms.specs.declared.fault.StepFault.TheVariants.{NoMatch, TooWide}
use Rattle.pf_axioms.specs.Meaning.AxiomSteps.{Answer, KeepsValue}
use Rattle.pf_rules.specs.declared.shifts.Pair.{Pair}
use Rattle.pf_rules.specs.declared.rule.VarDecl.{VarDecl}
use Rattle.pf_rules.specs.declared.rule.RuleParts.{RuleParts}
use Rattle.pf_rules.specs.Meaning.Sides.{form_at}
use Rattle.pf_rules.specs.Meaning.Rules.{pairs, range_at}
use Rattle.pf_check.specs.declared.checked.CheckedParts.{CheckedParts}
use Rattle.pf_check.specs.Meaning.Checks.{at_pair, IsChecked}
use Rattle.pf_check.specs.Meaning.Citing.{filled, bindings, is_pair, has_pair, outside, have_bounds, first_outside, not_granted, by_forms, cited, cited_pair, Cited, IsGranted, AreGranted}
use Rattle.pf_check.proofs.CitingLaws.{bindings_formed, cited_keeps, contained, inside_out}
use Rattle.pf_check.proofs.PairLaws.{first_none}

either_way : (a b : Bool) → b ≡ true → a || b ≡ true
either_way true b e = refl
either_way false b e = e

has_of : (ps : List Pair) (q : Pair) → Contains ps q → has_pair ps q ≡ true
has_of [] q at = let k : at.0 < 0 = at.1 in absurd (omega (arith, k))
has_of (p ∷ ps) q (zero, k, is) =
    let w : (p.w == p.w) ≡ true = same_itself (Var p.w) in
    let s : (p.k == p.k) ≡ true = same_itself (Var p.k) in
    subst (λ x. is_pair p x || has_pair ps x ≡ true) is (rw (w, s) refl)
has_of (p ∷ ps) q (suc i, k, is) = either_way (is_pair p q) (has_pair ps q) (has_of ps q (i, omega (arith, k), is))

-- ---- intervals that lie in their ranges

module _ (p : Pair) (ranges : List Range) where
  is_granted : (d : VarDecl) (x : Shape) (o q : Option Range) → range_at p.w p.k d ≡ o → G ranges x ≡ q → is_some q ≡ true → outside o q ≡ None → IsGranted p ranges d x
  is_granted d x o None a b some e = absurd (cc)
  is_granted d x None (Some got) a b some e = absurd (cc)
  is_granted d x (Some stated) (Some got) a b some e = record { got = got; stated = stated; has = b; of = a; within = inside_out (Some stated) stated got refl e }

  are_granted : (ds : List VarDecl) (xs : List Shape) → length xs ≡ length ds → have_bounds ranges xs ≡ true → first_outside p ranges ds xs ≡ None → AreGranted p ranges ds xs
  are_granted [] [] alike some e = tt
  are_granted [] (x ∷ xs) alike some e = absurd (omega (arith, alike))
  are_granted (d ∷ ds) [] alike some e = absurd (omega (arith, alike))
  are_granted (d ∷ ds) (x ∷ xs) alike some e =
      let h = first_none (outside (range_at p.w p.k d) (G ranges x)) (first_outside p ranges ds xs) e in
      (is_granted d x (range_at p.w p.k d) (G ranges x) refl refl (and_left _ _ some) h.0, are_granted ds xs (omega (arith, alike)) (and_right _ _ some) h.1)

  are_bounded : (ds : List VarDecl) (xs : List Shape) → AreGranted p ranges ds xs → (have_bounds ranges xs ≡ true) × (first_outside p ranges ds xs ≡ None)
  are_bounded [] [] h = (refl, refl)
  are_bounded [] (x ∷ xs) h = absurd h
  are_bounded (d ∷ ds) [] h = absurd h
  are_bounded (d ∷ ds) (x ∷ xs) h =
      let g = h.0 in
      let has = g.has in
      let of = g.of in
      let within = g.within in
      let rest = are_bounded ds xs h.1 in
      let bounds = rest.0 in
      let inside = rest.1 in
      (rw (has, bounds) refl, rw (has, of, within, inside) refl)

-- ---- the answer

module _ (r : RuleParts) (w k : ℕ) (ranges : List Range) (f g : Shape) where
  abbrev at : Pair
  at = cited_pair r w k

  abbrev left : Shape
  left = form_at (at_pair r at) r.lhs

  abbrev right : List Shape → Shape
  right xs = filled xs (form_at (at_pair r at) r.rhs)

  abbrev tested : Bool → Bool → Option Range → List Shape → Answer
  tested b c q xs = cond b (cond c (not_granted q (Ok (right xs))) (Err TooWide)) (Err NoMatch)

  pub cited_is : IsFormOver (length ranges) f → ◌≡◌ {A = Answer} (cited r w k ranges f) (Ok g) → Cited r w k ranges f g
  cited_is form e = by_pair (has_pair (pairs r) at) (bindings 0 r.vars left f) refl refl e
    where
      by_tests : (xs : List Shape) (b c : Bool) (q : Option Range) → has_pair (pairs r) at ≡ true → bindings 0 r.vars left f ≡ Some xs → same (filled xs left) f ≡ b → have_bounds ranges xs ≡ c → first_outside at ranges r.vars xs ≡ q
          → tested b c q xs ≡ Ok g → Cited r w k ranges f g
      by_tests xs true true None h o x y z u = record {
        stated = contained (pairs r) at h;
        forms = xs;
        bound = o;
        is_left = sym (same_true (filled xs left) f x);
        granted = are_granted at ranges r.vars xs (bindings_formed (length ranges) 0 r.vars left f xs form o).alike y z;
        is_right = cc;
      }
      by_tests xs true true (Some got) h o x y z u = absurd (cc)
      by_tests xs true false q h o x y z u = absurd (cc)
      by_tests xs false c q h o x y z u = absurd (cc)

      by_pair : (b : Bool) (o : Option (List Shape)) → has_pair (pairs r) at ≡ b → bindings 0 r.vars left f ≡ o → ◌≡◌ {A = Answer} (cond b (by_forms r at ranges f o) (Err NoMatch)) (Ok g) → Cited r w k ranges f g
      by_pair false o h d u = absurd (cc)
      by_pair true None h d u = absurd (cc)
      by_pair true (Some xs) h d u = by_tests xs (same (filled xs left) f) (have_bounds ranges xs) (first_outside at ranges r.vars xs) h d refl refl refl u

  pub cited_only : Cited r w k ranges f g → ◌≡◌ {A = Answer} (cited r w k ranges f) (Ok g)
  cited_only c =
      let xs = c.forms in
      let bounds = are_bounded at ranges r.vars xs c.granted in
      let fits : same (filled xs left) f ≡ true = ap (λ y. same y f) (sym c.is_left) ∙ same_itself f in
      ap (λ b. cond b (by_forms r at ranges f (bindings 0 r.vars left f)) (Err NoMatch)) (has_of (pairs r) at c.stated)
      ∙ ap (by_forms r at ranges f) c.bound
      ∙ ap (λ b. tested b (have_bounds ranges xs) (first_outside at ranges r.vars xs) xs) fits
      ∙ ap (λ b. tested true b (first_outside at ranges r.vars xs) xs) bounds.0
      ∙ ap (λ q. tested true true q xs) bounds.1
      ∙ ap (λ y. Ok y) (sym c.is_right)

-- what a checked rule makes of a form keeps its value
pub cited_kept : (c : CheckedParts) → IsChecked c → (w k : ℕ) (ranges : List Range) (f g : Shape) → IsFormOver (length ranges) f → Cited c.rule w k ranges f g → KeepsValue ranges f g
cited_kept c h w k ranges f g form by =
    let q = cited_pair c.rule w k in
    let xs = by.forms in
    let bounds = are_bounded q ranges c.rule.vars xs by.granted in
    subst (KeepsValue ranges f) (sym by.is_right)
    (cited_keeps c h c.rule refl q (has_of (pairs c.rule) q by.stated) ranges f xs form by.bound
    (ap (λ y. same y f) (sym by.is_left) ∙ same_itself f) bounds.0 bounds.1)
