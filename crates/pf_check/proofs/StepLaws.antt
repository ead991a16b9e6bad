-- Steps keep the value, and the first fault of several.
use Rattle.std.proofs.Common.{◌≡◌, refl, sym, ap, subst, ℕ, ℤ, ◌<◌, Some, None, List, [], ◌∷◌, length, IfSome, IfOk, arith}
use Rattle.std.specs.Prelude.{Option, Result, Ok, Err}
use Rattle.pf_ints.specs.Meaning.Ranges.{Range}
use Rattle.pf_forms.specs.declared.form.Form.{Form}
use Rattle.pf_forms.specs.Meaning.Shapes.{Shape, shape}
use Rattle.pf_forms.specs.Meaning.Parts.{part_at}
use Rattle.pf_forms.specs.Meaning.Values.{FVal, IsFormOver}
use Rattle.pf_axioms.specs.Meaning.AxiomSteps.{KeepsValue}
use Rattle.pf_check.specs.declared.fault.RuleFault.{RuleFault}
use Rattle.pf_check.specs.declared.fault.RuleFault.TheVariants as told
use Rattle.pf_check.specs.Meaning.Faults.{Fault, Tells}
use Rattle.pf_rules.specs.declared.rule.Step.{Step}
use Rattle.pf_check.specs.Meaning.Orders.{this_or, fault_in}
use Rattle.pf_check.specs.Meaning.Replays.{Setting, put_in, at_part, taken, stepped, told as told_of}

-- a part replaced by one that keeps its value
pub keeps_put : (ranges : List Range) (f g part new : Shape) (path : List ℕ) → Some part ≡ part_at f path → KeepsValue ranges part new → IsFormOver (length ranges) f
    → ((count : ℕ) → IsFormOver count f → IsFormOver count new → IsFormOver count g)
    → ((v : ℕ → ℤ) → IfSome (part_at f path) (λ p. FVal v new ≡ FVal v p) → FVal v g ≡ FVal v f)
    → KeepsValue ranges f g
keeps_put ranges f g part new path is keeps formed form same = record {
  same_value = λ v inside. same v (subst (λ o. IfSome o (λ p. FVal v new ≡ FVal v p)) is (keeps.same_value v inside));
  form = form (length ranges) formed keeps.form;
}

-- a fault other than want of memory is told of a fault alone
pub told_none : (e : RuleFault) → Tells e None → e ≡ told.Memory
told_none told.Memory h = refl
told_none _ h = absurd (cc)

pub tells_none : (e : RuleFault) (o : Option Fault) → Tells e None → Tells e o
tells_none e o h = subst (λ x. Tells x o) (sym (told_none e h)) tt

pub tells_first : (e : RuleFault) (o p : Option Fault) → Tells e o → Tells e (this_or o p)
tells_first e (Some x) p h = h
tells_first e None p h = tells_none e p h

told_by : (s : Setting) (n : ℕ) (f : Shape) (path : List ℕ) (r : Result Shape Fault) (e : RuleFault) → Tells e (fault_in r) → Tells e (fault_in (put_in s n f path r))
told_by s n f path (Ok x) e h = tells_none e _ h
told_by s n f path (Err d) e h = h

-- what step n tells of a part, it tells of the form
pub taken_told : (s : Setting) (n : ℕ) (t : Step) (f x : Shape) (e : RuleFault) → Some x ≡ part_at f t.path → Tells e (fault_in (told_of s n (stepped s t.by x))) → Tells e (fault_in (taken s n t f))
taken_told s n t f x e is h = subst (λ o. Tells e (fault_in (at_part s n t f o))) is (told_by s n f t.path (told_of s n (stepped s t.by x)) e h)

pub emptied : {A : Type 0} (xs : List A) → length xs < 1 → xs ≡ []
emptied [] h = refl
emptied (x ∷ xs) h = absurd (omega (arith, h))

pub kept_sized : (ranges : List Range) (f h : Shape) (r : Result Form RuleFault) → IfOk r (λ g. shape g ≡ h) → KeepsValue ranges f h → IfOk r (λ g. KeepsValue ranges f (shape g))
kept_sized ranges f h (Ok g) e k = subst (KeepsValue ranges f) (sym e) k
kept_sized ranges f h (Err d) e k = tt
