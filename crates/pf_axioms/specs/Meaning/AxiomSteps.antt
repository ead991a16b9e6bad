-- A step by a row of the table: as a relation, and as a function that looks the letters up.
use Rattle.std.specs.Prelude.{◌≡◌, ℕ, ℤ, Bool, false, ◌&&◌, IsTrue, ◌⊎◌, if◌then◌else◌, List, length, Option, Some, None, Result, Ok, Err}
use Rattle.pf_ints.specs.Meaning.Ranges.{Range}
use Rattle.pf_forms.specs.declared.axioms.Axiom.{Axiom}
use Rattle.pf_forms.specs.declared.form.Form.{Form}
use Rattle.pf_forms.specs.Meaning.Shapes.{Shape, shape, Num}
use Rattle.pf_forms.specs.Meaning.Equality.{same}
use Rattle.pf_forms.specs.Meaning.Values.{FVal, AreIn, G, IsFormOver}
use Rattle.pf_templates.specs.Meaning.Letters.{Letters, start}
use Rattle.pf_templates.specs.Meaning.Templates.{Tree, at, looked}
use Rattle.pf_templates.specs.Meaning.Building.{has_room, is_within_forms}
use Rattle.pf_axioms.specs.declared.fault.StepFault.{StepFault}
use Rattle.pf_axioms.specs.declared.fault.StepFault.TheVariants.{NoMatch, TooWide, NotGranted, Memory}
use Rattle.pf_axioms.specs.declared.needs.Needs.{Needs}
use Rattle.pf_axioms.specs.Meaning.Folds.{is_foldable, closed_value}
use Rattle.pf_axioms.specs.Meaning.Needs.{suits, asks, other, wanted, keeps_ends}
use Rattle.pf_axioms.specs.Meaning.Rows.{AxiomRow, Law, Folding, axiom_row}

-- the new form, or why there is none
abbrev pub Answer : Type 0
Answer = Result Shape StepFault

-- ---- the relation

-- f is the left form at these letters, and they suit the row
pub record Matches (left : Tree) (needs : Needs) (f : Shape) (l : Letters) : Type 0 where
  pub is_left : f ≡ at l left
  pub suited : IsTrue (suits needs l)

-- what is asked of intervals: that they are there, and that x's keeps the ends
pub data Verdict : Type 0 where
  Granted : Verdict
  Missing : Verdict
  Denied : Range → Verdict

abbrev pub by_ends : Bool → Range → Verdict
by_ends keeps got = if keeps then Granted else Denied got

abbrev pub by_two : Needs → Letters → Option Range → Option Range → Verdict
by_two needs l None o = Missing
by_two needs l (Some got) None = Missing
by_two needs l (Some got) (Some s) = by_ends (keeps_ends (wanted needs l s) got) got

abbrev pub verdict : Needs → List Range → Letters → Verdict
verdict needs ranges l = if asks needs then by_two needs l (G ranges l.x) (G ranges (other needs l)) else Granted

-- the row makes g of f
pub record LawStep (left right : Tree) (needs : Needs) (ranges : List Range) (f g : Shape) : Type 0 where
  pub letters : Letters
  pub matched : Matches left needs f letters
  pub granted : verdict needs ranges letters ≡ Granted
  pub is_right : g ≡ at letters right
  pub limits : IsFormOver (length ranges) g

-- a needed interval doesn't exist, or the new form would leave the limits
pub record IsTooWide (left right : Tree) (needs : Needs) (ranges : List Range) (f : Shape) : Type 0 where
  pub letters : Letters
  pub matched : Matches left needs f letters
  pub wide : (verdict needs ranges letters ≡ Missing) ⊎ (IsFormOver (length ranges) (at letters right) → ⊥)

-- the interval of x is got and doesn't keep its ends
pub record IsDenied (left : Tree) (needs : Needs) (ranges : List Range) (f : Shape) (got : Range) : Type 0 where
  pub letters : Letters
  pub matched : Matches left needs f letters
  pub denied : verdict needs ranges letters ≡ Denied got

-- f is an operation on numbers alone, and g is its value
pub record FoldStep (ranges : List Range) (f g : Shape) : Type 0 where
  pub numbers : IsTrue (is_foldable f)
  pub is_value : g ≡ Num (closed_value f)
  pub limits : IsFormOver (length ranges) g

-- the value is beyond the limits
pub record IsFoldedTooWide (ranges : List Range) (f : Shape) : Type 0 where
  pub numbers : IsTrue (is_foldable f)
  pub wide : IsFormOver (length ranges) (Num (closed_value f)) → ⊥

abbrev pub RowStep : AxiomRow → List Range → Shape → Shape → Type 0
RowStep Folding ranges f g = FoldStep ranges f g
RowStep (Law left right needs) ranges f g = LawStep left right needs ranges f g

-- the axiom makes g of f
abbrev pub AxiomStep : Axiom → List Range → Shape → Shape → Type 0
AxiomStep law ranges f g = RowStep (axiom_row law) ranges f g

-- an answer and its cause
abbrev pub IsAnswer : AxiomRow → List Range → Shape → Answer → Type 0
IsAnswer Folding ranges f (Ok g) = FoldStep ranges f g
IsAnswer Folding ranges f (Err NoMatch) = is_foldable f ≡ false
IsAnswer Folding ranges f (Err TooWide) = IsFoldedTooWide ranges f
IsAnswer Folding ranges f (Err (NotGranted got)) = ⊥
IsAnswer Folding ranges f (Err Memory) = Unit {0}
IsAnswer (Law left right needs) ranges f (Ok g) = LawStep left right needs ranges f g
IsAnswer (Law left right needs) ranges f (Err NoMatch) = (l : Letters) → Matches left needs f l → ⊥
IsAnswer (Law left right needs) ranges f (Err TooWide) = IsTooWide left right needs ranges f
IsAnswer (Law left right needs) ranges f (Err (NotGranted got)) = IsDenied left needs ranges f got
IsAnswer (Law left right needs) ranges f (Err Memory) = Unit {0}

-- what a call answered, with the form as its tree
abbrev pub answer_of : Result Form StepFault → Answer
answer_of (Ok g) = Ok (shape g)
answer_of (Err e) = Err e

-- the call answered g, or memory was wanting
abbrev pub IsOnly : Result Form StepFault → Shape → Type 0
IsOnly (Ok h) g = shape h ≡ g
IsOnly (Err Memory) g = Unit {0}
IsOnly (Err _) g = ⊥

-- g has the value of f for all variables inside their ranges, and is a form over these ranges
pub record KeepsValue (ranges : List Range) (f g : Shape) : Type 0 where
  pub same_value : (v : ℕ → ℤ) → AreIn ranges v → FVal v g ≡ FVal v f
  pub form : IsFormOver (length ranges) g

-- ---- the function

abbrev pub by_verdict : Verdict → Answer → Answer
by_verdict Granted answer = answer
by_verdict Missing answer = Err TooWide
by_verdict (Denied got) answer = Err (NotGranted got)

abbrev pub limited : Bool → Shape → Answer
limited room g = if room then Ok g else Err TooWide

abbrev pub suited : Bool → Answer → Answer
suited matches answer = if matches then answer else Err NoMatch

abbrev pub answer_at : Tree → Tree → Needs → List Range → Shape → Letters → Answer
answer_at left right needs ranges f l =
    suited (same (at l left) f && suits needs l) (by_verdict (verdict needs ranges l) (limited (has_room l right) (at l right)))

abbrev pub folded : Shape → Answer
folded f = suited (is_foldable f) (limited (is_within_forms (closed_value f)) (Num (closed_value f)))

-- what the row makes of f, with the letters that are looked up in it
abbrev pub answer : AxiomRow → List Range → Shape → Answer
answer Folding ranges f = folded f
answer (Law left right needs) ranges f = answer_at left right needs ranges f (looked left f (start f))

-- what a call returned is the answer, unless memory was wanting
abbrev pub GivesForm : Result Form StepFault → Answer → Type 0
GivesForm (Err Memory) answer = Unit {0}
GivesForm (Err NoMatch) answer = answer ≡ Err NoMatch
GivesForm (Err TooWide) answer = answer ≡ Err TooWide
GivesForm (Err (NotGranted got)) answer = answer ≡ Err (NotGranted got)
GivesForm (Ok g) answer = answer ≡ Ok (shape g)
