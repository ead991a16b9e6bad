-- The steps of a certificate at a width and a shift, taken in order.
use Rattle.std.specs.Prelude.{◌≡◌, ℕ, ◌+◌, ◌-◌, ◌^◌, ◌≤◌, min, nat_le, Bool, true, false, if◌then◌else◌, List, [], ◌∷◌, slice_get, Option, Some, None, Result, Ok, Err}
use Rattle.pf_ints.specs.Meaning.Ranges.{Range}
use Rattle.pf_forms.specs.Meaning.Shapes.{Shape}
use Rattle.pf_forms.specs.Meaning.Parts.{form_node_count, part_at, put_at}
use Rattle.pf_forms.specs.Meaning.Equality.{same}
use Rattle.pf_axioms.specs.declared.fault.StepFault.TheVariants.{NoMatch}
use Rattle.pf_axioms.specs.Meaning.Rows.{axiom_row}
use Rattle.pf_axioms.specs.Meaning.AxiomSteps.{Answer, answer, AxiomStep}
use Rattle.pf_rules.specs.declared.rule.By.{By}
use Rattle.pf_rules.specs.declared.rule.By.TheVariants as by
use Rattle.pf_rules.specs.declared.rule.Step.{Step}
use Rattle.pf_check.specs.declared.checked.CheckedParts.{CheckedParts}
use Rattle.pf_check.specs.Meaning.Orders.{onward}
use Rattle.pf_check.specs.Meaning.Faults.{Fault}
use Rattle.pf_check.specs.Meaning.Faults as fault
use Rattle.pf_check.specs.Meaning.Citing.{Cited, cited}

-- where steps are taken: the width and the shift, the variables' ranges, and the earlier rules, of which refused ones are missing
pub record Setting : Type 0 where
  pub w : ℕ
  pub k : ℕ
  pub ranges : List Range
  pub earlier : List (Option CheckedParts)

-- how many nodes a form may have
abbrev pub most_nodes : ℕ
most_nodes = 8192

-- ---- the relation

abbrev pub Stepped : Setting → By → Shape → Shape → Type 0
Stepped s (by.Axiom law) f g = AxiomStep law s.ranges f g
Stepped s (by.Rule n) f g = (c : CheckedParts) × (slice_get s.earlier n ≡ Some (Some c)) × Cited c.rule s.w s.k s.ranges f g

-- the step makes g of f: it rewrites the part at its path, and g isn't too large
pub record Takes (s : Setting) (t : Step) (f g : Shape) : Type 0 where
  pub part : Shape
  pub new : Shape
  pub stands : part_at f t.path ≡ Some part
  pub stepped : Stepped s t.by part new
  pub is_put : g ≡ put_at f t.path new
  pub small : form_node_count g ≤ most_nodes

abbrev pub Then : (Shape → Type 0) → (Shape → Type 0) → Type 0
Then P Q = (h : Shape) × P h × Q h

abbrev pub OnSide : Bool → (Shape → Shape → Type 0) → (Shape → Shape → Type 0) → Shape → Shape → Type 0
OnSide true takes rest f g = Then (takes f) (λ h. rest h g)
OnSide false takes rest f g = Then (takes g) (λ h. rest f h)

-- the steps, in order, make two equal forms of f and g
abbrev pub Meet : Setting → List Step → Shape → Shape → Type 0
Meet s [] f g = f ≡ g
Meet s (t ∷ ts) f g = OnSide t.left (Takes s t) (Meet s ts) f g

-- the steps make two equal forms of these sides, which aren't too large
pub record Proves (s : Setting) (steps : List Step) (f g : Shape) : Type 0 where
  pub small_left : form_node_count f ≤ most_nodes
  pub small_right : form_node_count g ≤ most_nodes
  pub meet : Meet s steps f g

-- ---- the function

-- the number of nodes, or 2^64 - 1 where there are more
abbrev pub counted : Shape → ℕ
counted f = min (form_node_count f) (2 ^ 64 - 1)

abbrev pub sized : Setting → ℕ → Shape → Result Shape Fault
sized s n f = if nat_le (counted f) most_nodes then Ok f else Err (fault.TooLarge n s.w s.k (counted f))

abbrev pub by_entry : Setting → Option (Option CheckedParts) → Shape → Answer
by_entry s (Some (Some c)) f = cited c.rule s.w s.k s.ranges f
by_entry s _ f = Err NoMatch

-- what a part becomes
abbrev pub stepped : Setting → By → Shape → Answer
stepped s (by.Axiom law) f = answer (axiom_row law) s.ranges f
stepped s (by.Rule n) f = by_entry s (slice_get s.earlier n) f

-- the answer at step n, whose fault is the step's
abbrev pub told : Setting → ℕ → Answer → Result Shape Fault
told s n (Ok x) = Ok x
told s n (Err e) = Err (fault.Step n s.w s.k e)

abbrev pub put_in : Setting → ℕ → Shape → List ℕ → Result Shape Fault → Result Shape Fault
put_in s n f path (Ok x) = sized s n (put_at f path x)
put_in s n f path (Err e) = Err e

abbrev pub at_part : Setting → ℕ → Step → Shape → Option Shape → Result Shape Fault
at_part s n t f None = Err (fault.Step n s.w s.k NoMatch)
at_part s n t f (Some x) = put_in s n f t.path (told s n (stepped s t.by x))

-- what step n makes of a form, or its fault
abbrev pub taken : Setting → ℕ → Step → Shape → Result Shape Fault
taken s n t f = at_part s n t f (part_at f t.path)

-- the first fault of the steps, the first of them being step n, or that the last forms differ
abbrev pub replayed : Setting → ℕ → List Step → Shape → Shape → Option Fault
replayed s n [] f g = if same f g then None else Some (fault.Apart s.w s.k f g)
replayed s n (t ∷ ts) f g =
    if t.left then onward (taken s n t f) (λ h. replayed s (n + 1) ts h g) else onward (taken s n t g) (λ h. replayed s (n + 1) ts f h)

abbrev pub replay_of : Setting → List Step → Shape → Shape → Option Fault
replay_of s steps f g = onward (sized s 0 f) (λ x. onward (sized s 0 g) (λ y. replayed s 1 steps x y))
