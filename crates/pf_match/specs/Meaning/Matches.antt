-- Which terms a rule's left side is, and with which terms for its variables.
use Rattle.std.specs.Prelude.{◌≡◌, ◌<◌, ◌⊎◌, true, List, [], ◌∷◌, Option, Some, None, Contains}
use Rattle.pf_ints.specs.Meaning.Ranges.{Range, lies_in}
use Rattle.pf_values.specs.declared.term.Term.{Term}
use Rattle.pf_bounds.specs.declared.ranges.Ranges.{Ranges}
use Rattle.pf_bounds.specs.Meaning.TermBounds.{interval_of}
use Rattle.pf_rules.specs.declared.instances.Binding.{Binding}
use Rattle.pf_rules.specs.declared.rule.RuleParts.{RuleParts}
use Rattle.pf_rules.specs.declared.rule.VarDecl.{VarDecl}
use Rattle.pf_rules.specs.declared.shifts.Pair.{Pair}
use Rattle.pf_rules.specs.Meaning.Instances.{instance_of, HaveTypes}
use Rattle.pf_rules.specs.Meaning.Rules.{pair, pairs, range_at}

-- the term's interval lies in the variable's range
pub record LiesInside (p : Pair) (ranges : Ranges) (d : VarDecl) (t : Term) : Type 0 where
  pub got : Range
  pub stated : Range
  pub has : interval_of ranges t ≡ Some got
  pub of : range_at p.w p.k d ≡ Some stated
  pub within : lies_in got stated ≡ true

abbrev pub LieInside : Pair → Ranges → List VarDecl → List Term → Type 0
LieInside p ranges [] [] = Unit {0}
LieInside p ranges (d ∷ ds) (t ∷ ts) = LiesInside p ranges d t × LieInside p ranges ds ts
LieInside p ranges _ _ = ⊥

abbrev pub at_binding : Binding → Pair
at_binding b = pair b.w b.k

-- at one of its widths and shifts the rule's left side with its variables replaced is the term, and each variable's term is of its type and lies in its range
pub record IsMatch (r : RuleParts) (ranges : Ranges) (t : Term) (b : Binding) : Type 0 where
  pub stated : Contains (pairs r) (at_binding b)
  pub is : instance_of b r.lhs ≡ Some t
  pub typed : HaveTypes b.w r.vars b.vars
  pub inside : LieInside (at_binding b) ranges r.vars b.vars

-- the lesser width, or at one width the lesser shift
abbrev pub IsBefore : Pair → Pair → Type 0
IsBefore p q = (p.w < q.w) ⊎ ((p.w ≡ q.w) × (p.k < q.k))

-- the match at the least width and shift, or none where there is no match
abbrev pub Match : RuleParts → Ranges → Term → Option Binding → Type 0
Match r ranges t (Some b) = IsMatch r ranges t b × ((c : Binding) → IsMatch r ranges t c → IsBefore (at_binding c) (at_binding b) → ⊥)
Match r ranges t None = (c : Binding) → IsMatch r ranges t c → ⊥
