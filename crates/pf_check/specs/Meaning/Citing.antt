-- A step by an earlier rule: a form that is the rule's left side, with forms for its variables, becomes its right side with these.
use Rattle.std.specs.Prelude.{◌≡◌, ℕ, ◌+◌, ◌==◌, Bool, true, false, ◌&&◌, ◌||◌, if◌then◌else◌, List, [], ◌∷◌, slice_index_or, Option, Some, None, option_map, option_and_then, is_some, Ok, Err, Contains}
use Rattle.pf_ints.specs.Meaning.Ranges.{Range, lies_in}
use Rattle.pf_forms.specs.Meaning.Shapes.{Shape, Var, Num, Pow, Add, Sub, Mul, FloorDiv, Min, Max, Abs, Sel, Wrap, Sat}
use Rattle.pf_forms.specs.Meaning.Equality.{same}
use Rattle.pf_forms.specs.Meaning.Values.{G}
use Rattle.pf_axioms.specs.declared.fault.StepFault.TheVariants.{NoMatch, TooWide, NotGranted}
use Rattle.pf_axioms.specs.Meaning.AxiomSteps.{Answer}
use Rattle.pf_rules.specs.declared.number.Number.{Number}
use Rattle.pf_rules.specs.declared.shifts.Pair.{Pair}
use Rattle.pf_rules.specs.declared.rule.VarDecl.{VarDecl}
use Rattle.pf_rules.specs.declared.rule.RuleParts.{RuleParts}
use Rattle.pf_rules.specs.Meaning.Sides.{form_at}
use Rattle.pf_rules.specs.Meaning.Rules.{pair, pairs, range_at}
use Rattle.pf_check.specs.Meaning.Orders.{this_or}
use Rattle.pf_check.specs.Meaning.Checks.{at_pair}

-- ---- forms for variables

-- p with form n in place of variable n
abbrev pub filled : List Shape → Shape → Shape
filled fs (Var n) = slice_index_or fs n (Var n)
filled fs (Num n) = Num n
filled fs (Pow e) = Pow e
filled fs (Add x y) = Add (filled fs x) (filled fs y)
filled fs (Sub x y) = Sub (filled fs x) (filled fs y)
filled fs (Mul x y) = Mul (filled fs x) (filled fs y)
filled fs (FloorDiv x e) = FloorDiv (filled fs x) e
filled fs (Min x y) = Min (filled fs x) (filled fs y)
filled fs (Max x y) = Max (filled fs x) (filled fs y)
filled fs (Abs x) = Abs (filled fs x)
filled fs (Sel a b x y) = Sel (filled fs a) (filled fs b) (filled fs x) (filled fs y)
filled fs (Wrap t x) = Wrap t (filled fs x)
filled fs (Sat t x) = Sat t (filled fs x)

-- what stands in f where variable n first stands in p
abbrev pub standing : ℕ → Shape → Shape → Option Shape
standing n (Var m) f = if m == n then Some f else None
standing n (Add x y) (Add u v) = this_or (standing n x u) (standing n y v)
standing n (Sub x y) (Sub u v) = this_or (standing n x u) (standing n y v)
standing n (Mul x y) (Mul u v) = this_or (standing n x u) (standing n y v)
standing n (FloorDiv x d) (FloorDiv u e) = standing n x u
standing n (Min x y) (Min u v) = this_or (standing n x u) (standing n y v)
standing n (Max x y) (Max u v) = this_or (standing n x u) (standing n y v)
standing n (Abs x) (Abs u) = standing n x u
standing n (Sel a b x y) (Sel c d u v) = this_or (this_or (standing n a c) (standing n b d)) (this_or (standing n x u) (standing n y v))
standing n (Wrap s x) (Wrap t u) = standing n x u
standing n (Sat s x) (Sat t u) = standing n x u
standing n _ _ = None

-- what stands for each of the variables from n on, of which there are count
abbrev pub bindings : ℕ → List VarDecl → Shape → Shape → Option (List Shape)
bindings n [] p f = Some []
bindings n (d ∷ ds) p f = option_and_then (λ x. option_map (λ xs. x ∷ xs) (bindings (n + 1) ds p f)) (standing n p f)

-- ---- the relation

abbrev pub shift_or : Option (Number × Number) → ℕ → ℕ
shift_or None k = 0
shift_or (Some s) k = k

-- where a rule is cited at the width w and the shift k; the shift is 0 where the rule has none
abbrev pub cited_pair : RuleParts → ℕ → ℕ → Pair
cited_pair r w k = pair w (shift_or r.shift k)

-- the form has an interval, and that lies in the variable's range
pub record IsGranted (p : Pair) (ranges : List Range) (d : VarDecl) (x : Shape) : Type 0 where
  pub got : Range
  pub stated : Range
  pub has : G ranges x ≡ Some got
  pub of : range_at p.w p.k d ≡ Some stated
  pub within : lies_in got stated ≡ true

-- each variable's form is so
abbrev pub AreGranted : Pair → List Range → List VarDecl → List Shape → Type 0
AreGranted p ranges [] [] = Unit {0}
AreGranted p ranges (d ∷ ds) (x ∷ xs) = IsGranted p ranges d x × AreGranted p ranges ds xs
AreGranted p ranges _ _ = ⊥

-- the rule makes g of f at the width w and the shift k
pub record Cited (r : RuleParts) (w k : ℕ) (ranges : List Range) (f g : Shape) : Type 0 where
  pub stated : Contains (pairs r) (cited_pair r w k)
  pub forms : List Shape
  pub bound : bindings 0 r.vars (form_at (at_pair r (cited_pair r w k)) r.lhs) f ≡ Some forms
  pub is_left : f ≡ filled forms (form_at (at_pair r (cited_pair r w k)) r.lhs)
  pub granted : AreGranted (cited_pair r w k) ranges r.vars forms
  pub is_right : g ≡ filled forms (form_at (at_pair r (cited_pair r w k)) r.rhs)

-- ---- the function

abbrev pub is_pair : Pair → Pair → Bool
is_pair p q = (p.w == q.w) && (p.k == q.k)

abbrev pub has_pair : List Pair → Pair → Bool
has_pair [] q = false
has_pair (p ∷ ps) q = is_pair p q || has_pair ps q

abbrev pub outside : Option Range → Option Range → Option Range
outside (Some stated) (Some got) = if lies_in got stated then None else Some got
outside None (Some got) = Some got
outside stated None = None

-- whether each form has an interval
abbrev pub have_bounds : List Range → List Shape → Bool
have_bounds ranges [] = true
have_bounds ranges (x ∷ xs) = is_some (G ranges x) && have_bounds ranges xs

-- the first interval that doesn't lie in its variable's range
abbrev pub first_outside : Pair → List Range → List VarDecl → List Shape → Option Range
first_outside p ranges [] xs = None
first_outside p ranges (d ∷ ds) [] = None
first_outside p ranges (d ∷ ds) (x ∷ xs) = this_or (outside (range_at p.w p.k d) (G ranges x)) (first_outside p ranges ds xs)

abbrev pub not_granted : Option Range → Answer → Answer
not_granted None answer = answer
not_granted (Some got) answer = Err (NotGranted got)

abbrev pub by_forms : RuleParts → Pair → List Range → Shape → Option (List Shape) → Answer
by_forms r p ranges f None = Err NoMatch
by_forms r p ranges f (Some xs) =
    if same (filled xs (form_at (at_pair r p) r.lhs)) f
    then (if have_bounds ranges xs then not_granted (first_outside p ranges r.vars xs) (Ok (filled xs (form_at (at_pair r p) r.rhs))) else Err TooWide)
    else Err NoMatch

abbrev pub cited_at : RuleParts → Pair → List Range → Shape → Answer
cited_at r p ranges f =
    if has_pair (pairs r) p then by_forms r p ranges f (bindings 0 r.vars (form_at (at_pair r p) r.lhs) f) else Err NoMatch

-- what the rule makes of f, or why it makes nothing
abbrev pub cited : RuleParts → ℕ → ℕ → List Range → Shape → Answer
cited r w k ranges f = cited_at r (cited_pair r w k) ranges f
