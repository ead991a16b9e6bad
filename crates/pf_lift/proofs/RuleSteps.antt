-- What a checked rule makes of a term that it matches.
use Rattle.std.proofs.Common.{◌≡◌, refl, sym, ap, ◌∙◌, subst, ℕ, zero, suc, ◌+◌, ◌<◌, ◌≤◌, ℤ, pos, Bool, true, false, List, [], ◌∷◌, length, map, Option, Some, None, Ok, arith, ◌⊎◌, inl, inr}
use Rattle.std.specs.Prelude.{◌-◌, ◌^◌, ◌&&◌, Contains, slice_get, option_map, nat_le}
use Rattle.std.proofs.lemmas.Bool.{and_parts, cases_eq, leb-true}
use Rattle.pf_ints.specs.declared.lane.LaneType.{LaneType}
use Rattle.pf_ints.specs.Meaning.Ranges.{Range, Includes, lies_in}
use Rattle.pf_ints.proofs.RangeLaws.{inside_holds}
use Rattle.pf_values.specs.declared.op.Op.{Op}
use Rattle.pf_values.specs.declared.term.Env.{Env}
use Rattle.pf_values.specs.declared.term.Leaf.TheVariants.{Const}
use Rattle.pf_values.specs.declared.term.Term.{Term}
use Rattle.pf_values.specs.declared.term.Term.TheVariants.{Leaf, Node}
use Rattle.pf_values.specs.Meaning.Terms.{stated_type, Val, IsWellTyped, weight_of}
use Rattle.pf_values.proofs.TermRanges.{AreTyped, typed_node}
use Rattle.pf_bounds.specs.declared.ranges.Ranges.{Ranges}
use Rattle.pf_bounds.specs.Meaning.TermBounds.{interval_of, IsWithin, are_ranges_of}
use Rattle.pf_bounds.proofs.TermLaws.{bounds_hold, ranged_leaf}
use Rattle.pf_rules.specs.declared.instances.Binding.{Binding}
use Rattle.pf_rules.specs.declared.rule.Kind.{Kind}
use Rattle.pf_rules.specs.declared.rule.Kind.TheVariants.{Lift}
use Rattle.pf_rules.specs.declared.rule.RuleParts.{RuleParts}
use Rattle.pf_rules.specs.declared.rule.VarDecl.{VarDecl}
use Rattle.pf_rules.specs.declared.shifts.Pair.{Pair}
use Rattle.pf_rules.specs.declared.pattern.Pattern.{Pattern}
use Rattle.pf_rules.specs.Meaning.Counts.{occurrences, all_stand, is_formed, is_bare, is_lane_free}
use Rattle.pf_rules.specs.Meaning.Rules.{is_rule, is_widths, is_free_shift, is_within_limits, has_sides, range_at, AreInside, suits}
use Rattle.pf_rules.specs.Meaning.Sides.{value_or}
use Rattle.pf_rules.specs.Meaning.Sorts.{place}
use Rattle.pf_rules.specs.Meaning.Instances.{instance_of, HasInstance, HaveTypes, bound_values}
use Rattle.pf_rules.proofs.InstanceLaws.{Each, instance_hands, instance_gets}
use Rattle.pf_rules.proofs.InstanceTerms.{IsInstance, instance_matches, instance_type, instance_sorted}
use Rattle.pf_match.specs.Meaning.Matches.{IsMatch, LieInside, at_binding}
use Rattle.pf_check.specs.declared.checked.CheckedParts.{CheckedParts}
use Rattle.pf_check.specs.Meaning.Checks.{IsChecked, IsLighter, LiftsLighter, HasOneType, at_pair}
use Rattle.pf_lift.specs.Meaning.Lifted.{KeepsInputs, Keeps}
use Rattle.pf_lift.proofs.Lists.{each_get, each_from}
use Rattle.pf_lift.proofs.Weights.{weight_node, weight_some, instance_lighter}
use Rattle.pf_lift.proofs.Keeping.{inputs_same, inputs_down, inputs_up, inputs_number, ranged_down, ranged_up, typed_each}

-- each of the first variables stands where all do
stands_each : (v : ℕ) (p : Pattern) → all_stand v p ≡ true → (n : ℕ) → n < v → 1 ≤ occurrences n p
stands_each zero p h n below = absurd (omega (arith, below))
stands_each (suc v) p h n below = by (cases_eq n v) (stands_each v p both.1 n)
  where
    both : (nat_le 1 (occurrences v p) ≡ true) × (all_stand v p ≡ true)
    both = and_parts (nat_le 1 (occurrences v p)) (all_stand v p) h

    by : (n ≡ v) ⊎ (n ≡ v → ⊥) → (n < v → 1 ≤ occurrences n p) → 1 ≤ occurrences n p
    by (inl e) rest = subst (λ m. 1 ≤ occurrences m p) (sym e) (leb-true 1 (occurrences v p) both.0)
    by (inr other) rest = rest (omega (arith, below, other))

all_standing : (r : RuleParts) → is_rule r ≡ true → all_stand (length r.vars) r.lhs ≡ true
all_standing r rule =
    let sides = (and_parts (is_within_limits r) (has_sides r) (and_parts (is_widths r.widths && is_free_shift r.shift) _ rule).1).1 in
    let own = (and_parts (is_formed (length r.vars) r.lhs) _ sides).1 in
    let rest = (and_parts (is_formed (length r.vars) r.rhs) _ own).1 in
    (and_parts _ (all_stand (length r.vars) r.lhs) rest).1

many_typed : (w : ℕ) (ds : List VarDecl) (ts : List Term) → HaveTypes w ds ts → length ts ≡ length ds
many_typed w [] [] h = refl
many_typed w [] (t ∷ ts) h = absurd h
many_typed w (d ∷ ds) [] h = absurd h
many_typed w (d ∷ ds) (t ∷ ts) h = ap suc (many_typed w ds ts h.1)

get_within : {A : Type 0} (xs : List A) (n : ℕ) (x : A) → slice_get xs n ≡ Some x → n < length xs
get_within [] n x h = absurd (cc h)
get_within (y ∷ xs) zero x h = omega arith
get_within (y ∷ xs) (suc n) x h = let below = get_within xs n x h in omega (arith, below)

-- what a term weighs more than a leaf
abbrev more_of : Option Term → ℕ
more_of None = 0
more_of (Some x) = weight_of x - 1

inside_at : (p : Pair) (ranges : Ranges) (env : Env) → IsWithin ranges env → (ds : List VarDecl) (ts : List Term) → LieInside p ranges ds ts → Each IsWellTyped ts → (n : ℕ) (d : VarDecl) (s : Range) → slice_get ds n ≡ Some d → range_at p.w p.k d ≡ Some s →
    Includes s (value_or (option_map (Val env) (slice_get ts n)))
inside_at p ranges env within [] [] h typed n d s e at = absurd (cc e)
inside_at p ranges env within [] (t ∷ ts) h typed n d s e at = absurd h
inside_at p ranges env within (c ∷ ds) [] h typed n d s e at = absurd h
inside_at p ranges env within (c ∷ ds) (t ∷ ts) h typed zero d s e at =
    let is : c ≡ d = cc e in
    let range : h.0.stated ≡ s = cc (sym h.0.of ∙ ap (range_at p.w p.k) is ∙ at) in
    subst (λ r. Includes r (Val env t)) range (inside_holds h.0.got h.0.stated (Val env t) h.0.within (bounds_hold ranges t h.0.got typed.0 h.0.has env within))
inside_at p ranges env within (c ∷ ds) (t ∷ ts) h typed (suc n) d s e at = inside_at p ranges env within ds ts h.1 typed.1 n d s e at

-- a term that a lift rule makes of another
pub record IsStep (ranges : Ranges) (t u : Term) : Type 0 where
  pub keeps : Keeps ranges t u
  pub ranged : are_ranges_of ranges u ≡ true
  pub lighter : weight_of u < weight_of t

module _ (c : CheckedParts) (checked : IsChecked c) (kind : c.kind ≡ Lift) (rule : is_rule c.rule ≡ true) (ranges : Ranges) (t : Term) (b : Binding) (m : IsMatch c.rule ranges t b) (typed : IsWellTyped t) where
  abbrev r : RuleParts
  r = c.rule

  abbrev f : ℕ → Option Term
  f = slice_get b.vars

  stand : (n : ℕ) (x : Term) → f n ≡ Some x → 1 ≤ occurrences n r.lhs
  stand n x e = stands_each (length r.vars) r.lhs (all_standing r rule) n (subst (λ l. n < l) (many_typed b.w r.vars b.vars m.typed) (get_within b.vars n x e))

  -- what holds of the term and goes over to operands holds of the bound terms
  handed : (Q : Term → Type 0) → ((op : Op) (ty : LaneType) (j : ℕ) (ts : List Term) → Q (Node op ty j ts) → Each Q ts) → Q t → (n : ℕ) (x : Term) → f n ≡ Some x → Q x
  handed Q down q n x e = instance_hands b.w b.k f Q down r.lhs t m.is q n (stand n x e) x e

  -- and what goes over from operands too, of the right side
  carried : (Q : Term → Type 0) → ((op : Op) (ty : LaneType) (j : ℕ) (ts : List Term) → Q (Node op ty j ts) → Each Q ts) → ((n : ℤ) (ty : LaneType) → Q (Leaf (Const n) ty)) →
      ((op : Op) (ty : LaneType) (j : ℕ) (ts : List Term) → Each Q ts → Q (Node op ty j ts)) → Q t → (u : Term) → instance_of b r.rhs ≡ Some u → Q u
  carried Q down number up q u is = instance_gets b.w b.k f Q number up r.rhs u is (λ n o x e. handed Q down q n x e)

  bound_typed : Each IsWellTyped b.vars
  bound_typed = each_from IsWellTyped b.vars (λ n x e. handed IsWellTyped (λ op ty j ts h. typed_each ts (typed_node op ty j ts h).operands) typed n x e)

  sorted : HasOneType true Lift r (at_binding b)
  sorted = subst (λ q. HasOneType true q r (at_binding b)) kind (checked.sound.amounts (at_binding b) m.stated)

  free : (is_lane_free r.lhs ≡ true) × (is_lane_free r.rhs ≡ true)
  free = and_parts (is_lane_free r.lhs) (is_lane_free r.rhs) (subst (λ q. suits q r ≡ true) kind checked.suited)

  made : IsInstance b r.rhs sorted.ty
  made = instance_sorted Lift b r.vars m.typed bound_typed r.rhs sorted.ty sorted.right free.1

  -- the right side has an instance
  pub has_instance : HasInstance b r.rhs
  has_instance = record { whole = made.whole; is = made.is; typed = made.typed }

  lighter : IsLighter r
  lighter = subst (λ q. LiftsLighter q r) kind checked.sound.lighter

  value_same : (u : Term) → instance_of b r.rhs ≡ Some u → (env : Env) → IsWithin ranges env → Val env u ≡ Val env t
  value_same u is env within =
      let inside : AreInside (place b.w b.k r.vars) (bound_values env b) = λ n d s at of. inside_at (at_binding b) ranges env within r.vars b.vars m.inside bound_typed n d s at of in
      let left = (instance_matches b r.vars m.typed env r.lhs t m.is).value in
      let right = (instance_matches b r.vars m.typed env r.rhs u is).value in
      sym right ∙ sym (checked.holds (at_binding b) m.stated (bound_values env b) inside) ∙ left

  heavy : (n : ℕ) (x : Term) → f n ≡ Some x → (n < length r.vars) × (weight_of x ≡ 1 + more_of (f n))
  heavy n x e =
      let some = weight_some x in
      let is : more_of (f n) ≡ weight_of x - 1 = ap more_of e in
      (subst (λ l. n < l) (many_typed b.w r.vars b.vars m.typed) (get_within b.vars n x e), omega (arith, some, is))

  pub step_of : are_ranges_of ranges t ≡ true → (u : Term) → instance_of b r.rhs ≡ Some u → IsStep ranges t u
  step_of ranged u is =
      let same : made.whole ≡ u = cc (sym made.is ∙ is) in
      record {
        keeps = record {
          typed = subst IsWellTyped same made.typed;
          stated = ap stated_type (sym same) ∙ made.ty_is ∙ sym (instance_type true Lift b r.vars m.typed r.lhs t m.is sorted.ty sorted.left);
          value = value_same u is;
          inputs = carried (KeepsInputs t) (λ op ty j ts. inputs_down t op ty j ts) (λ n ty. inputs_number t n ty) (λ op ty j ts. inputs_up t op ty j ts) (inputs_same t) u is;
        };
        ranged = carried (λ x. are_ranges_of ranges x ≡ true) (λ op ty j ts. ranged_down ranges op ty j ts) (λ n ty. ranged_leaf ranges (Const n) ty) (λ op ty j ts. ranged_up ranges op ty j ts) ranged u is;
        lighter = instance_lighter b.w b.k f (λ n. more_of (f n)) (length r.vars) heavy r.lhs r.rhs t u m.is is (2 ^ 64 - 1) lighter.lighter lighter.no_more;
      }
