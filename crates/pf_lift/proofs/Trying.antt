-- The rules of a file are tried in order.
use Rattle.std.proofs.Common.{◌≡◌, refl, sym, ap, ◌∙◌, subst, ℕ, ◌+◌, ◌<◌, ◌≤◌, true, List, length, Option, Some, None, arith, ◌⊎◌, inl, inr}
use Rattle.std.specs.Prelude.{slice_get}
use Rattle.std.proofs.lemmas.Bool.{cases_eq}
use Rattle.std.proofs.lemmas.Option.{slice_get_within}
use Rattle.pf_values.specs.declared.term.Term.{Term}
use Rattle.pf_values.specs.Meaning.Terms.{IsWellTyped}
use Rattle.pf_bounds.specs.declared.ranges.Ranges.{Ranges}
use Rattle.pf_bounds.specs.Meaning.TermBounds.{are_ranges_of}
use Rattle.pf_rules.specs.declared.instances.Binding.{Binding}
use Rattle.pf_rules.specs.declared.rule.Kind.TheVariants.{Lift}
use Rattle.pf_rules.specs.declared.rule.RuleParts.{RuleParts}
use Rattle.pf_rules.specs.Meaning.Instances.{instance_of, HasInstance}
use Rattle.pf_rules.specs.Meaning.Rules.{is_rule}
use Rattle.pf_match.specs.Meaning.Matches.{Match}
use Rattle.pf_check.specs.declared.checked.CheckedParts.{CheckedParts}
use Rattle.pf_check.specs.Meaning.Checks.{IsChecked}
use Rattle.pf_check.specs.Meaning.Files.{AreOfKind}
use Rattle.pf_lift.specs.Meaning.Rewriting.{NoMatch}
use Rattle.pf_lift.specs.Steps.Counting.{IsRewritten}
use Rattle.pf_lift.proofs.RuleSteps.{has_instance, step_of}

module _ (rules : List CheckedParts) (ranges : Ranges) (t : Term) where
  -- none of the rules before rule n matches
  abbrev pub NoneBefore : ℕ → Type 0
  NoneBefore n = (m : ℕ) (c : CheckedParts) → m < n → slice_get rules m ≡ Some c → Match c.rule ranges t None

  pub none_more : (n : ℕ) (c : CheckedParts) → NoneBefore n → slice_get rules n ≡ Some c → Match c.rule ranges t None → NoneBefore (n + 1)
  none_more n c h at none m d below e = by (cases_eq m n)
    where
      by : (m ≡ n) ⊎ (m ≡ n → ⊥) → Match d.rule ranges t None
      by (inl s) = let is : c ≡ d = cc (sym at ∙ ap (slice_get rules) (sym s) ∙ e) in subst (λ x. Match x.rule ranges t None) is none
      by (inr other) = h m d (omega (arith, below, other)) e

  pub none_all : (n : ℕ) → length rules ≤ n → NoneBefore n → NoMatch rules ranges t
  none_all n past h m c e = h m c (let below = slice_get_within rules m c e in omega (arith, below, past)) e

  pub found_instance : AreOfKind Lift rules → IsWellTyped t → (n : ℕ) (c : CheckedParts) → slice_get rules n ≡ Some c → IsChecked c → (r : RuleParts) → r ≡ c.rule → is_rule r ≡ true → (b : Binding) → Match c.rule ranges t (Some b) → HasInstance b r.rhs
  found_instance alike typed n c at checked r same rule b m =
      subst (λ (s : RuleParts). HasInstance b s.rhs) (sym same) (has_instance c checked (alike n c at) (subst (λ s. is_rule s ≡ true) same rule) ranges t b m.0 typed)

  pub found_rewritten : AreOfKind Lift rules → IsWellTyped t → are_ranges_of ranges t ≡ true → (n : ℕ) (c : CheckedParts) → NoneBefore n → slice_get rules n ≡ Some c → IsChecked c → is_rule c.rule ≡ true → (b : Binding) → Match c.rule ranges t (Some b) → (u : Term) →
      instance_of b c.rule.rhs ≡ Some u → IsRewritten rules ranges t u
  found_rewritten alike typed ranged n c first at checked rule b m u is =
      let step = step_of c checked (alike n c at) rule ranges t b m.0 typed ranged u is in
      record {
        rewrites = record { number = n; checked = c; binding = b; stands = at; first = first; match = m; is = is };
        keeps = step.keeps;
        ranged = step.ranged;
        lighter = step.lighter;
      }
