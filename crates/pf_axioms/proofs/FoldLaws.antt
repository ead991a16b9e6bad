-- A folded operation on numbers keeps the value.
use Rattle.std.proofs.Common.{◌≡◌, refl, sym, ap, ◌∙◌, subst, ℕ, ℤ, Bool, true, false, List, length, Ok}
use Rattle.pf_ints.specs.Meaning.Ranges.{Range}
use Rattle.pf_forms.specs.Meaning.Shapes.{Shape, Var, Num, Pow, Add, Sub, Mul, FloorDiv, Min, Max, Abs, Sel, Wrap, Sat}
use Rattle.pf_forms.specs.Meaning.Values.{FVal, IsFormOver}
use Rattle.pf_forms.proofs.EqualityLaws.{both}
use Rattle.pf_templates.specs.Meaning.Building.{is_within_forms}
use Rattle.pf_templates.proofs.TemplateLaws.{within_true, within_included}
use Rattle.pf_axioms.specs.Meaning.Folds.{is_number, is_foldable, closed_value}
use Rattle.pf_axioms.specs.Meaning.Rows.{Folding}
use Rattle.pf_axioms.specs.Meaning.AxiomSteps.{Answer, FoldStep, IsAnswer, KeepsValue, limited, suited, folded}

number_steady : (v : ℕ → ℤ) (f : Shape) → is_number f ≡ true → FVal v f ≡ closed_value f
number_steady v (Num n) e = refl
number_steady v _ e = absurd (cc)

fold_steady : (v : ℕ → ℤ) (f : Shape) → is_foldable f ≡ true → closed_value f ≡ FVal v f
fold_steady v (Var n) e = absurd (cc)
fold_steady v (Num n) e = absurd (cc)
fold_steady v (Pow k) e = absurd (cc)
fold_steady v (Add x y) e = let p = both _ _ e in rw (number_steady v x p.0, number_steady v y p.1) refl
fold_steady v (Sub x y) e = let p = both _ _ e in rw (number_steady v x p.0, number_steady v y p.1) refl
fold_steady v (Mul x y) e = let p = both _ _ e in rw (number_steady v x p.0, number_steady v y p.1) refl
fold_steady v (FloorDiv x k) e = rw (number_steady v x e) refl
fold_steady v (Min x y) e = let p = both _ _ e in rw (number_steady v x p.0, number_steady v y p.1) refl
fold_steady v (Max x y) e = let p = both _ _ e in rw (number_steady v x p.0, number_steady v y p.1) refl
fold_steady v (Abs x) e = rw (number_steady v x e) refl
fold_steady v (Sel a b x y) e =
    let p = both _ _ e in
    let q = both _ _ p.1 in
    let r = both _ _ q.1 in
    rw (number_steady v a p.0, number_steady v b q.0, number_steady v x r.0, number_steady v y r.1) refl
fold_steady v (Wrap t x) e = rw (number_steady v x e) refl
fold_steady v (Sat t x) e = rw (number_steady v x e) refl

module _ (ranges : List Range) (f : Shape) where
  by_room : (b : Bool) → is_within_forms (closed_value f) ≡ b → is_foldable f ≡ true → IsAnswer Folding ranges f (limited b (Num (closed_value f)))
  by_room true e n = record { numbers = n; is_value = refl; limits = within_true (closed_value f) e }
  by_room false e n = record { numbers = n; wide = λ h. within_included (closed_value f) h e }

  by_test : (b : Bool) → is_foldable f ≡ b → IsAnswer Folding ranges f (suited b (limited (is_within_forms (closed_value f)) (Num (closed_value f))))
  by_test true e = by_room (is_within_forms (closed_value f)) refl e
  by_test false e = e

  pub fold_step : IsAnswer Folding ranges f (folded f)
  fold_step = by_test (is_foldable f) refl

  only_by : (b c : Bool) (g : Shape) → is_foldable f ≡ b → is_within_forms (closed_value f) ≡ c → FoldStep ranges f g → ◌≡◌ {A = Answer} (suited b (limited c (Num (closed_value f)))) (Ok g)
  only_by true true g d e s = ap (λ h. Ok h) (sym s.is_value)
  only_by true false g d e s = absurd (within_included (closed_value f) (subst (IsFormOver (length ranges)) s.is_value s.limits) e)
  only_by false c g d e s = let n = s.numbers in absurd (cc (d, n))

  pub fold_only : (g : Shape) → FoldStep ranges f g → ◌≡◌ {A = Answer} (folded f) (Ok g)
  fold_only g s = only_by (is_foldable f) (is_within_forms (closed_value f)) g refl refl s

  pub fold_keeps : (g : Shape) → FoldStep ranges f g → KeepsValue ranges f g
  fold_keeps g s = record { same_value = λ v inside. ap (FVal v) s.is_value ∙ fold_steady v f s.numbers; form = s.limits }
