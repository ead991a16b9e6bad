-- The answers of `apply`.
use Rattle.std.proofs.Common.{◌≡◌, subst, List, length, Result, Ok, Err, IfOk}
use Rattle.pf_ints.specs.Meaning.Ranges.{Range}
use Rattle.pf_forms.specs.declared.form.Form.{Form}
use Rattle.pf_forms.specs.Meaning.Shapes.{Shape, shape}
use Rattle.pf_forms.specs.Meaning.Values.{IsFormOver}
use Rattle.pf_axioms.specs.declared.fault.StepFault.{StepFault}
use Rattle.pf_axioms.specs.declared.fault.StepFault.TheVariants.{NoMatch, TooWide, NotGranted, Memory}
use Rattle.pf_axioms.specs.Meaning.Rows.{AxiomRow, Law, Folding}
use Rattle.pf_axioms.specs.Meaning.AxiomSteps.{RowStep, IsAnswer, IsOnly, KeepsValue, GivesForm, answer, answer_of}
use Rattle.pf_axioms.proofs.FoldLaws.{fold_step, fold_only, fold_keeps}
use Rattle.pf_axioms.proofs.Sound.{step_of, only_of, keeps_of}
use Rattle.pf_axioms.proofs.RowLaws.{IsSoundRow}

module _ (ranges : List Range) (f : Shape) (is_form : IsFormOver (length ranges) f) where
  row_step : (row : AxiomRow) → IsSoundRow row → IsAnswer row ranges f (answer row ranges f)
  row_step Folding s = fold_step ranges f
  row_step (Law left right needs) s = step_of left right needs s ranges f is_form

  row_only : (row : AxiomRow) → IsSoundRow row → (g : Shape) → RowStep row ranges f g → answer row ranges f ≡ Ok g
  row_only Folding s g e = fold_only ranges f g e
  row_only (Law left right needs) s g e = only_of left right needs s ranges f is_form g e

  row_keeps : (row : AxiomRow) → IsSoundRow row → (g : Shape) → RowStep row ranges f g → KeepsValue ranges f g
  row_keeps Folding s g e = fold_keeps ranges f g e
  row_keeps (Law left right needs) s g e = keeps_of left right needs s ranges f is_form g e

  is_step : (row : AxiomRow) (g : Shape) → IsAnswer row ranges f (Ok g) → RowStep row ranges f g
  is_step Folding g s = s
  is_step (Law left right needs) g s = s

  pub exactly_at : (row : AxiomRow) → IsSoundRow row → (result : Result Form StepFault) → GivesForm result (answer row ranges f) → IsAnswer row ranges f (answer_of result)
  exactly_at row s (Ok g) e = subst (IsAnswer row ranges f) e (row_step row s)
  exactly_at row s (Err NoMatch) e = subst (IsAnswer row ranges f) e (row_step row s)
  exactly_at row s (Err TooWide) e = subst (IsAnswer row ranges f) e (row_step row s)
  exactly_at row s (Err (NotGranted got)) e = subst (IsAnswer row ranges f) e (row_step row s)
  exactly_at Folding s (Err Memory) e = tt
  exactly_at (Law left right needs) s (Err Memory) e = tt

  pub only_at : (row : AxiomRow) → IsSoundRow row → (result : Result Form StepFault) → GivesForm result (answer row ranges f) → (g : Shape) → RowStep row ranges f g → IsOnly result g
  only_at row s (Ok h) e g step = let p = row_only row s g step in cc (e, p)
  only_at row s (Err NoMatch) e g step = let p = row_only row s g step in absurd (cc (e, p))
  only_at row s (Err TooWide) e g step = let p = row_only row s g step in absurd (cc (e, p))
  only_at row s (Err (NotGranted got)) e g step = let p = row_only row s g step in absurd (cc (e, p))
  only_at row s (Err Memory) e g step = tt

  pub keeps_at : (row : AxiomRow) → IsSoundRow row → (result : Result Form StepFault) → GivesForm result (answer row ranges f) → IfOk result (λ g. KeepsValue ranges f (shape g))
  keeps_at row s (Ok g) e = row_keeps row s (shape g) (is_step row (shape g) (exactly_at row s (Ok g) e))
  keeps_at row s (Err k) e = tt
