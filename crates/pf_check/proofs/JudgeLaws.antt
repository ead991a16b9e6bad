-- What follows of a rule without a fault.
use Rattle.std.proofs.Common.{◌≡◌, refl, sym, ap, ◌∙◌, subst, ℕ, zero, suc, ◌+◌, ◌<◌, ◌≤◌, Bool, true, false, cond, Some, None, List, [], ◌∷◌, length, map, arith, Ok, Err}
use Rattle.std.specs.Prelude.{Option, Result, slice_get, Contains, ◌&&◌, nat_le, nat_lt, option_map}
use Rattle.std.proofs.lemmas.Bool.{leb-true}
use Rattle.std.proofs.lemmas.Bool.Decides.{nat_tests}
use Rattle.pf_ints.specs.Meaning.Ranges.{Range}
use Rattle.pf_values.proofs.Typing.{and_left, and_right}
use Rattle.pf_rules.specs.declared.rule.Kind.{Kind}
use Rattle.pf_rules.specs.declared.rule.Kind.TheVariants.{Lift, Lower}
use Rattle.pf_rules.specs.declared.rule.RuleParts.{RuleParts}
use Rattle.pf_rules.specs.declared.rule.VarDecl.{VarDecl}
use Rattle.pf_rules.specs.declared.shifts.Pair.{Pair}
use Rattle.pf_rules.specs.Meaning.Counts.{pattern_nodes}
use Rattle.pf_rules.specs.Meaning.Rules.{is_rule, is_widths, is_free_shift, is_within_limits, has_sides, suits, pairs, first_bad, range_at, Holds}
use Rattle.pf_check.specs.declared.checked.CheckedParts.{CheckedParts}
use Rattle.pf_check.specs.Meaning.Orders.{this_or, first_some, fault_in}
use Rattle.pf_check.specs.Meaning.Faults.{Fault}
use Rattle.pf_check.specs.Meaning.Faults as fault
use Rattle.pf_check.specs.Meaning.Checks.{LiftsLighter, IsSound, IsChecked, weighed, occurs, shift_fault, types_fault, with_range, ranged, ranges_from, ranges_fault, heavier_fault, repeats_fault, repeats_from, lifting_fault}
use Rattle.pf_check.specs.Meaning.Accepts.{first_fault, cites_fault}
use Rattle.pf_check.specs.Steps.Pairs.{Lasts, from_types, from_ranges, from_weights, from_amounts, from_cites, from_replays}
use Rattle.pf_check.proofs.PairLaws.{first_none, has_one_type}

pub lasts_of : (r : RuleParts) → is_rule r ≡ true → Lasts r
lasts_of r h =
    let within : is_within_limits r ≡ true = and_left (is_within_limits r) (has_sides r) (and_right (is_widths r.widths && is_free_shift r.shift) (is_within_limits r && has_sides r) h) in
    let vars : length r.vars ≤ 8 = leb-true (length r.vars) 8 (and_left (nat_le (length r.vars) 8) _ within) in
    let sides = and_right (nat_le (length r.vars) 8) (nat_le (pattern_nodes r.lhs) 64 && (nat_le (pattern_nodes r.rhs) 64 && nat_le (length r.steps) 512)) within in
    let right = and_right (nat_le (pattern_nodes r.lhs) 64) (nat_le (pattern_nodes r.rhs) 64 && nat_le (length r.steps) 512) sides in
    let steps : length r.steps ≤ 512 = leb-true (length r.steps) 512 (and_right (nat_le (pattern_nodes r.rhs) 64) (nat_le (length r.steps) 512) right) in
    record { vars = omega (arith, vars); steps = omega (arith, steps) }

this_none : (o : Option Fault) → this_or o None ≡ o
this_none None = refl
this_none (Some e) = refl

pub first_over : (r : RuleParts) (kind : Kind) (earlier : List (Option CheckedParts)) → first_bad r.widths r.shift ≡ None → first_fault r kind earlier ≡ from_types r kind earlier (pairs r)
first_over r kind earlier e =
    ap (λ (o : Option ℕ). this_or (option_map (λ w. fault.Range None w 0) o) (rest (this_or (from_replays r earlier (pairs r)) None))) e
    ∙ ap rest (this_none (from_replays r earlier (pairs r)))
  where
    rest : Option Fault → Option Fault
    rest o =
        this_or (first_some (map (types_fault false kind r) (pairs r)))
        (this_or (first_some (map (ranges_fault r) (pairs r)))
        (this_or (lifting_fault kind r) (this_or (first_some (map (types_fault true kind r) (pairs r))) (this_or (cites_fault earlier 1 r.steps) o))))

pub none_each : (f : Pair → Option Fault) (ps : List Pair) → first_some (map f ps) ≡ None → (p : Pair) → Contains ps p → f p ≡ None
none_each f [] e p at = let k : at.0 < 0 = at.1 in absurd (omega (arith, k))
none_each f (q ∷ qs) e p (zero, k, is) = subst (λ x. f x ≡ None) is (first_none (f q) (first_some (map f qs)) e).0
none_each f (q ∷ qs) e p (suc i, k, is) = none_each f qs (first_none (f q) (first_some (map f qs)) e).1 p (i, omega (arith, k), is)

pub shift_none : (o : Option ℕ) → option_map (λ w. fault.Range None w 0) o ≡ None → o ≡ None
shift_none None e = refl
shift_none (Some w) e = absurd (cc)

-- ---- weights

lighter_by : (a b : ℕ) (e : Fault) (t : Bool) → nat_lt a b ≡ t → cond t None (Some e) ≡ None → a < b
lighter_by a b e true d u = grind (arith, nat_tests)
lighter_by a b e false d u = absurd (cc)

no_more_by : (a b : ℕ) (e : Fault) (t : Bool) → nat_lt a b ≡ t → cond t (Some e) None ≡ None → b ≤ a
no_more_by a b e true d u = absurd (cc)
no_more_by a b e false d u = grind (arith, nat_tests)

module _ (r : RuleParts) where
  no_more_from : (n : ℕ) (ds : List VarDecl) → repeats_from r n ds ≡ None → (m : ℕ) → n ≤ m → m < n + length ds → occurs m r.rhs ≤ occurs m r.lhs
  no_more_from n [] u m from to = absurd (omega (arith, from, to))
  no_more_from n (d ∷ ds) u m from to =
      let h = first_none (repeats_fault r n) (repeats_from r (n + 1) ds) u in
      let here : occurs n r.rhs ≤ occurs n r.lhs = no_more_by (occurs n r.lhs) (occurs n r.rhs) (fault.Repeats n) (nat_lt (occurs n r.lhs) (occurs n r.rhs)) refl h.0 in
      from_here n m (λ g. no_more_from (n + 1) ds h.1 m g (omega (arith, to))) here from (nat_le (n + 1) m) refl
    where
      from_here : (n m : ℕ) → (n + 1 ≤ m → occurs m r.rhs ≤ occurs m r.lhs) → occurs n r.rhs ≤ occurs n r.lhs → n ≤ m → (b : Bool) → nat_le (n + 1) m ≡ b → occurs m r.rhs ≤ occurs m r.lhs
      from_here n m later here from true d = later (leb-true (n + 1) m d)
      from_here n m later here from false d = let is : n ≡ m = grind (arith, nat_tests) in subst (λ k. occurs k r.rhs ≤ occurs k r.lhs) is here

  pub lifts : (kind : Kind) → lifting_fault kind r ≡ None → LiftsLighter kind r
  lifts (Lower target) u = tt
  lifts Lift u =
      let h = first_none (heavier_fault r) (repeats_from r 0 r.vars) u in
      record {
        lighter = lighter_by (weighed r.rhs) (weighed r.lhs) (fault.Heavier (weighed r.lhs) (weighed r.rhs)) (nat_lt (weighed r.rhs) (weighed r.lhs)) refl h.0;
        no_more = λ m below. no_more_from 0 r.vars h.1 m (omega arith) (omega (arith, below));
      }
