-- A pattern that has a type: its form has its value.
use Rattle.std.proofs.Common.{◌≡◌, refl, sym, ap, ◌∙◌, subst, ℕ, zero, suc, ◌+◌, ◌<◌, ℤ, pos, Bool, true, false, Some, None, List, [], ◌∷◌, length, map, arith, Ok, Err}
use Rattle.std.specs.Prelude.{Option, Result, slice_get, slice_index_or, neg_ℤ, int_le, option_and_then, cond}
use Rattle.std.proofs.lemmas.Int.{ints}
use Rattle.pf_ints.specs.declared.lane.LaneType.{LaneType}
use Rattle.pf_ints.specs.declared.lane.Bits.{Bits}
use Rattle.pf_ints.specs.declared.lane.Bits.TheVariants.{Eight, Sixteen, ThirtyTwo}
use Rattle.pf_ints.specs.Meaning.Lanes.{is_in, least, greatest}
use Rattle.pf_ints.specs.Meaning.Ranges.{Includes, range, furthest}
use Rattle.pf_values.specs.declared.op.Op.{Op}
use Rattle.pf_values.specs.Meaning.Operators.{row_of}
use Rattle.pf_values.specs.Meaning.Terms.{operand_count}
use Rattle.pf_values.proofs.Typing.{and_left, and_right}
use Rattle.pf_forms.specs.Meaning.Shapes.{Shape, Var, Num, Pow, Add, Sub, Mul, FloorDiv, Min, Max, Abs, Sel, Wrap, Sat}
use Rattle.pf_forms.specs.Meaning.Values.{FVal, IsFormOver}
use Rattle.pf_templates.specs.Meaning.Templates.{at as at_letters}
use Rattle.pf_laneops.specs.declared.lane_name.LaneName.{LaneName}
use Rattle.pf_laneops.specs.declared.lane_name.LaneName.TheVariants as lane
use Rattle.pf_laneops.specs.Meaning.Formulas.{formula, lane_formula, amount_by, over, operand, row_form, AreFormsOver}
use Rattle.pf_laneops.proofs.ValueLaws.{formula_value, value_over, some_of}
use Rattle.pf_laneops.proofs.FormulaLaws.{form_over, op_room, lane_room}
use Rattle.pf_rules.specs.declared.fault.SortFault.{SortFault}
use Rattle.pf_rules.specs.declared.number.Number.{Number}
use Rattle.pf_rules.specs.declared.number.Amount.{Amount as AmountOf}
use Rattle.pf_rules.specs.declared.pattern.PatType.{PatType}
use Rattle.pf_rules.specs.declared.pattern.Pattern.{Pattern}
use Rattle.pf_rules.specs.declared.pattern.Pattern.TheOpen.{Pattern-F}
use Rattle.pf_rules.specs.declared.pattern.Pattern.TheOpen.Pattern-F.{Var as VarLayer, Const as ConstLayer, Node as NodeLayer, Lane as LaneLayer}
use Rattle.pf_rules.specs.declared.pattern.Pattern.TheViews.{roll-Pattern}
use Rattle.pf_rules.specs.declared.pattern.Pattern.TheFolds.{fold-roll-Pattern, ind-Pattern, map-Pattern}
use Rattle.pf_rules.specs.declared.rule.Kind.{Kind}
use Rattle.pf_rules.specs.declared.rule.VarDecl.{VarDecl}
use Rattle.pf_rules.specs.Meaning.Numbers.{number_at}
use Rattle.pf_rules.specs.Meaning.Sorts.{At, lane_at, type_of_var, type_of_const, type_or, op_gives, typed, types_from, with_type, then_judged, judged_op, judged_lane, stated_at, sort_step, sorting}
use Rattle.pf_rules.specs.Meaning.Sides.{amount_or, stated_or, lane_gives, lane_value, value_or, firsts, seconds, value_step, form_step, typed_value, typed_form, PVal, form_at, HasSort}
use Rattle.pf_rules.proofs.AmountLaws.{bits_small}
use Rattle.pf_rules.proofs.RowFacts.{op_facts, lane_facts}

-- the value of a form depends on the variables' values alone
module _ (v u : ℕ → ℤ) (same : (n : ℕ) → v n ≡ u n) where
  value_same : (f : Shape) → FVal v f ≡ FVal u f
  value_same (Var n) = same n
  value_same (Num n) = refl
  value_same (Pow e) = refl
  value_same (Add x y) = rw (value_same x, value_same y) refl
  value_same (Sub x y) = rw (value_same x, value_same y) refl
  value_same (Mul x y) = rw (value_same x, value_same y) refl
  value_same (FloorDiv x e) = rw (value_same x) refl
  value_same (Min x y) = rw (value_same x, value_same y) refl
  value_same (Max x y) = rw (value_same x, value_same y) refl
  value_same (Abs x) = rw (value_same x) refl
  value_same (Sel a b x y) = rw (value_same a, value_same b, value_same x, value_same y) refl
  value_same (Wrap t x) = rw (value_same x) refl
  value_same (Sat t x) = rw (value_same x) refl

module _ (v : ℕ → ℤ) where
  nth_value : (fs : List Shape) (n : ℕ) (d : Shape) → FVal v (slice_index_or fs n d) ≡ slice_index_or (map (FVal v) fs) n (FVal v d)
  nth_value [] n d = refl
  nth_value (f ∷ fs) zero d = refl
  nth_value (f ∷ fs) (suc n) d = nth_value fs n d

  operand_value : (fs : List Shape) → 0 < length fs → (n : ℕ) → FVal v (operand fs n) ≡ slice_index_or (map (FVal v) fs) n (slice_index_or (map (FVal v) fs) 0 (pos 0))
  operand_value [] some n = absurd (omega (arith, some))
  operand_value (f ∷ fs) some n = nth_value (f ∷ fs) n f

  pub lane_form_value : (op : LaneName) (t : LaneType) (k : ℕ) (fs : List Shape) → 0 < length fs → FVal v (at_letters (over t (amount_by op t k) fs) (lane_formula op)) ≡ lane_value op t k (map (FVal v) fs)
  lane_form_value op t k fs some =
      value_over v t (amount_by op t k) fs (lane_formula op)
      ∙ value_same (λ n. FVal v (operand fs n)) (λ n. slice_index_or (map (FVal v) fs) n (slice_index_or (map (FVal v) fs) 0 (pos 0))) (operand_value fs some) (row_form op t k)

-- the amount in a lane operation's formula is within the limits of forms
pub amount_by_small : (op : LaneName) (t : LaneType) (k : ℕ) → k < 64 → amount_by op t k < 120
amount_by_small lane.MulHigh t k small = let w = bits_small t.bits in omega (arith, w)
amount_by_small lane.MulQ t k small = let w = bits_small t.bits in omega (arith, w)
amount_by_small lane.MulQr t k small = let w = bits_small t.bits in omega (arith, w)
amount_by_small _ t k small = omega (arith, small)

-- ---- what is known of a pattern that has the type t

pub record IsSided (at : At) (p : Pattern) (t : LaneType) : Type 0 where
  pub form_type : (typed_form at p).0 ≡ t
  pub value_type : (v : ℕ → ℤ) → (typed_value at v p).0 ≡ t
  pub value : (v : ℕ → ℤ) → FVal v (form_at at p) ≡ PVal at v p
  pub formed : IsFormOver (length at.vars) (form_at at p)

-- and of operands that have these types
pub record AreSided (at : At) (args : List Pattern) (types : List LaneType) : Type 0 where
  pub form_types : firsts (map (typed_form at) args) ≡ types
  pub value_types : (v : ℕ → ℤ) → firsts (map (typed_value at v) args) ≡ types
  pub values : (v : ℕ → ℤ) → map (FVal v) (seconds (map (typed_form at) args)) ≡ seconds (map (typed_value at v) args)
  pub formed : AreFormsOver (length at.vars) (seconds (map (typed_form at) args))

pub typed_some : (o : Option LaneType) (t : LaneType) → typed o ≡ Ok t → o ≡ Some t
typed_some (Some u) t h = cc
typed_some None t h = absurd (cc)

within_list : {A : Type 0} (xs : List A) (n : ℕ) (a : A) → slice_get xs n ≡ Some a → n < length xs
within_list [] n a h = absurd (cc)
within_list (x ∷ xs) zero a h = omega arith
within_list (x ∷ xs) (suc n) a h = let below = within_list xs n a h in omega (arith, below)

pub first_found : (r : Result LaneType SortFault) (n : ℕ) (rs : List (Result LaneType SortFault)) (us : List LaneType) → types_from n (r ∷ rs) ≡ Ok us →
    (t : LaneType) × (ts : List LaneType) × (r ≡ Ok t) × (types_from (n + 1) rs ≡ Ok ts) × (t ∷ ts ≡ us)
first_found (Err e) n rs us h = absurd (cc)
first_found (Ok t) n rs us h = by (types_from (n + 1) rs) refl h
  where
    by : (o : Result (List LaneType) SortFault) → types_from (n + 1) rs ≡ o → with_type t o ≡ Ok us →
        (u : LaneType) × (ts : List LaneType) × (◌≡◌ {A = Result LaneType SortFault} (Ok t) (Ok u)) × (types_from (n + 1) rs ≡ Ok ts) × (u ∷ ts ≡ us)
    by (Ok ts) e g = (t, ts, refl, e, cc)
    by (Err f) e g = absurd (cc)

pub all_found : (node : List LaneType → Result LaneType SortFault) (o : Result (List LaneType) SortFault) (t : LaneType) → then_judged node o ≡ Ok t → (ts : List LaneType) × (o ≡ Ok ts) × (node ts ≡ Ok t)
all_found node (Ok ts) t h = (ts, refl, h)
all_found node (Err e) t h = absurd (cc)

length-second : {A : Type 0} (xs : List (LaneType × A)) → length (seconds xs) ≡ length (firsts xs)
length-second [] = refl
length-second (x ∷ xs) = ap suc (length-second xs)

module _ (kind : Kind) (at : At) where
  abbrev pub Says : Pattern → Type 0
  Says p = (t : LaneType) → sorting true kind at p ≡ Ok t → IsSided at p t

  abbrev R : Type 0
  R = Result LaneType SortFault

  sort_of : (x : Pattern-F Pattern) → sorting true kind at (roll-Pattern x) ≡ sort_step true kind at (map-Pattern Pattern R (sorting true kind at) x)
  sort_of x = fold-roll-Pattern R (sort_step true kind at) x

  form_of : (x : Pattern-F Pattern) → typed_form at (roll-Pattern x) ≡ form_step at (map-Pattern Pattern (LaneType × Shape) (typed_form at) x)
  form_of x = fold-roll-Pattern (LaneType × Shape) (form_step at) x

  value_of : (v : ℕ → ℤ) (x : Pattern-F Pattern) → typed_value at v (roll-Pattern x) ≡ value_step at v (map-Pattern Pattern (LaneType × ℤ) (typed_value at v) x)
  value_of v x = fold-roll-Pattern (LaneType × ℤ) (value_step at v) x

  -- a pattern whose type, form and value are these
  sided : (p : Pattern) (t : LaneType) (f : LaneType × Shape) (x : (ℕ → ℤ) → LaneType × ℤ) → typed_form at p ≡ f → ((v : ℕ → ℤ) → typed_value at v p ≡ x v) →
      f.0 ≡ t → ((v : ℕ → ℤ) → (x v).0 ≡ t) → ((v : ℕ → ℤ) → FVal v f.1 ≡ (x v).1) → IsFormOver (length at.vars) f.1 → IsSided at p t
  sided p t f x form values ft xt same formed = record {
    form_type = ap (λ r. r.0) form ∙ ft;
    value_type = λ v. ap (λ r. r.0) (values v) ∙ xt v;
    value = λ v. ap (λ r. FVal v r.1) form ∙ same v ∙ sym (ap (λ r. r.1) (values v));
    formed = subst (λ r. IsFormOver (length at.vars) r.1) (sym form) formed;
  }

  var_says : (n : ℕ) → Says (roll-Pattern (VarLayer n))
  var_says n t h =
      let found = typed_some (type_of_var at n) t (sym (sort_of (VarLayer n)) ∙ h) in
      sided (roll-Pattern (VarLayer n)) t (type_or (type_of_var at n), Var n) (λ v. (type_or (type_of_var at n), v n)) (form_of (VarLayer n)) (λ v. value_of v (VarLayer n))
      (ap type_or found) (λ v. ap type_or found) (λ v. refl) (below (slice_get at.vars n) refl found)
    where
      below : (o : Option VarDecl) → slice_get at.vars n ≡ o → option_and_then (λ d. lane_at at.w d.ty) o ≡ Some t → n < length at.vars
      below None e g = absurd (cc)
      below (Some d) e g = within_list at.vars n d e

  number_within : (t : LaneType) (m : ℤ) → is_in t m ≡ true → Includes (range (neg_ℤ furthest) furthest) m
  number_within t m h = by t.signed t.bits (and_left _ (int_le m (greatest t)) h) (and_right (int_le (least t) m) _ h)
    where
      by : (s : Bool) (b : Bits) → int_le (least (record { signed = s; bits = b })) m ≡ true → int_le m (greatest (record { signed = s; bits = b })) ≡ true → Includes (range (neg_ℤ furthest) furthest) m
      by true Eight p q = record { low = omega (arith, ints, p); high = omega (arith, ints, q) }
      by true Sixteen p q = record { low = omega (arith, ints, p); high = omega (arith, ints, q) }
      by true ThirtyTwo p q = record { low = omega (arith, ints, p); high = omega (arith, ints, q) }
      by false Eight p q = record { low = omega (arith, ints, p); high = omega (arith, ints, q) }
      by false Sixteen p q = record { low = omega (arith, ints, p); high = omega (arith, ints, q) }
      by false ThirtyTwo p q = record { low = omega (arith, ints, p); high = omega (arith, ints, q) }

  abbrev IsNumber : Number → PatType → LaneType → Type 0
  IsNumber n ty t = (type_or (lane_at at.w ty) ≡ t) × Includes (range (neg_ℤ furthest) furthest) (value_or (number_at at.w at.k n))

  const_says : (n : Number) (ty : PatType) → Says (roll-Pattern (ConstLayer n ty))
  const_says n ty t h =
      let found = typed_some (type_of_const at n ty) t (sym (sort_of (ConstLayer n ty)) ∙ h) in
      let parts = by_type (lane_at at.w ty) refl found in
      sided (roll-Pattern (ConstLayer n ty)) t (type_or (lane_at at.w ty), Num (value_or (number_at at.w at.k n))) (λ v. (type_or (lane_at at.w ty), value_or (number_at at.w at.k n)))
      (form_of (ConstLayer n ty)) (λ v. value_of v (ConstLayer n ty)) parts.0 (λ v. parts.0) (λ v. refl) parts.1
    where
      by_member : (u : LaneType) (m : ℤ) (b : Bool) → lane_at at.w ty ≡ Some u → number_at at.w at.k n ≡ Some m → is_in u m ≡ b → cond b (Some u) None ≡ Some t → IsNumber n ty t
      by_member u m false e f i g = absurd (cc)
      by_member u m true e f i g = (ap type_or (e ∙ g), subst (λ o. Includes (range (neg_ℤ furthest) furthest) (value_or o)) (sym f) (number_within u m i))

      by_number : (u : LaneType) (o : Option ℤ) → lane_at at.w ty ≡ Some u → number_at at.w at.k n ≡ o → option_and_then (λ m. cond (is_in u m) (Some u) None) o ≡ Some t → IsNumber n ty t
      by_number u None e f g = absurd (cc)
      by_number u (Some m) e f g = by_member u m (is_in u m) e f refl g

      by_type : (o : Option LaneType) → lane_at at.w ty ≡ o → option_and_then (λ u. option_and_then (λ m. cond (is_in u m) (Some u) None) (number_at at.w at.k n)) o ≡ Some t → IsNumber n ty t
      by_type None e g = absurd (cc)
      by_type (Some u) e g = by_number u (number_at at.w at.k n) e refl g

  operands_sided : (ps : List ((p : Pattern) × Says p)) (n : ℕ) (types : List LaneType) → types_from n (map (sorting true kind at) (map (λ p. p.0) ps)) ≡ Ok types → AreSided at (map (λ p. p.0) ps) types
  operands_sided [] n types h =
      let none : [] ≡ types = cc h in
      record { form_types = none; value_types = λ v. none; values = λ v. refl; formed = tt }
  operands_sided (p ∷ ps) n types h =
      let found = first_found (sorting true kind at p.0) n (map (sorting true kind at) (map (λ q. q.0) ps)) types h in
      let own = p.1 found.0 found.2 in
      let rest = operands_sided ps (n + 1) found.1 found.3 in
      record {
        form_types = ap (λ x. x ∷ firsts (map (typed_form at) (map (λ q. q.0) ps))) own.form_type ∙ ap (λ xs. found.0 ∷ xs) rest.form_types ∙ found.4;
        value_types = λ v. ap (λ x. x ∷ firsts (map (typed_value at v) (map (λ q. q.0) ps))) (own.value_type v) ∙ ap (λ xs. found.0 ∷ xs) (rest.value_types v) ∙ found.4;
        values = λ v. ap (λ x. x ∷ map (FVal v) (seconds (map (typed_form at) (map (λ q. q.0) ps)))) (own.value v) ∙ ap (λ xs. PVal at v p.0 ∷ xs) (rest.values v);
        formed = (own.formed, rest.formed);
      }

  node_says : (op : Op) (to : Option PatType) (k : AmountOf) (ps : List ((p : Pattern) × Says p)) → Says (roll-Pattern (NodeLayer op to k (map (λ p. p.0) ps)))
  node_says op to k ps t h =
      let args = map (λ p. p.0) ps in
      let x = NodeLayer op to k args in
      let found = all_found (λ types. judged_op true at op k types (stated_at at.w to)) (types_from 0 (map (sorting true kind at) args)) t (sym (sort_of x) ∙ h) in
      let facts = op_facts at op to k found.0 t found.2 in
      let each = operands_sided ps 0 found.0 found.1 in
      let fs = seconds (map (typed_form at) args) in
      let count : length fs ≡ operand_count (row_of op).operands = length-second (map (typed_form at) args) ∙ ap length each.form_types ∙ facts.count in
      let small = facts.small in
      sided (roll-Pattern x) t (t, at_letters (over t (amount_or at k) fs) (formula op)) (λ v. (t, (row_of op).value t (amount_or at k) (seconds (map (typed_value at v) args))))
      (form_of x ∙ ap (λ u. (op_gives op (stated_or at to) u, at_letters (over (op_gives op (stated_or at to) u) (amount_or at k) fs) (formula op))) each.form_types
      ∙ ap (λ u. (u, at_letters (over u (amount_or at k) fs) (formula op))) facts.gives)
      (λ v. value_of v x
      ∙ ap (λ u. (op_gives op (stated_or at to) u, (row_of op).value (op_gives op (stated_or at to) u) (amount_or at k) (seconds (map (typed_value at v) args)))) (each.value_types v)
      ∙ ap (λ u. (u, (row_of op).value u (amount_or at k) (seconds (map (typed_value at v) args)))) facts.gives)
      refl (λ v. refl) (λ v. formula_value v t (amount_or at k) op fs count ∙ ap ((row_of op).value t (amount_or at k)) (each.values v))
      (form_over (length at.vars) t (amount_or at k) fs (formula op) (omega (arith, small)) (some_of op (length fs) count) (op_room (over t (amount_or at k) fs) (omega (arith, small)) op) each.formed)

  lane_says : (op : LaneName) (to : Option PatType) (k : AmountOf) (ps : List ((p : Pattern) × Says p)) → Says (roll-Pattern (LaneLayer op to k (map (λ p. p.0) ps)))
  lane_says op to k ps t h =
      let args = map (λ p. p.0) ps in
      let x = LaneLayer op to k args in
      let found = all_found (λ types. judged_lane true kind at op k types (stated_at at.w to)) (types_from 0 (map (sorting true kind at) args)) t (sym (sort_of x) ∙ h) in
      let facts = lane_facts kind at op to k found.0 t found.2 in
      let each = operands_sided ps 0 found.0 found.1 in
      let fs = seconds (map (typed_form at) args) in
      let a = amount_by op t (amount_or at k) in
      let count : length fs ≡ length found.0 = length-second (map (typed_form at) args) ∙ ap length each.form_types in
      let there = facts.some in
      let some : 0 < length fs = omega (arith, count, there) in
      let small = amount_by_small op t (amount_or at k) facts.small in
      sided (roll-Pattern x) t (t, at_letters (over t a fs) (lane_formula op)) (λ v. (t, lane_value op t (amount_or at k) (seconds (map (typed_value at v) args))))
      (form_of x ∙ ap (λ u. (lane_gives op (stated_or at to) u, at_letters (over (lane_gives op (stated_or at to) u) (amount_by op (lane_gives op (stated_or at to) u) (amount_or at k)) fs) (lane_formula op))) each.form_types
      ∙ ap (λ u. (u, at_letters (over u (amount_by op u (amount_or at k)) fs) (lane_formula op))) facts.gives)
      (λ v. value_of v x
      ∙ ap (λ u. (lane_gives op (stated_or at to) u, lane_value op (lane_gives op (stated_or at to) u) (amount_or at k) (seconds (map (typed_value at v) args)))) (each.value_types v)
      ∙ ap (λ u. (u, lane_value op u (amount_or at k) (seconds (map (typed_value at v) args)))) facts.gives)
      refl (λ v. refl) (λ v. lane_form_value v op t (amount_or at k) fs some ∙ ap (lane_value op t (amount_or at k)) (each.values v))
      (form_over (length at.vars) t a fs (lane_formula op) small some (lane_room (over t a fs) small op) each.formed)

  layer_says : (y : Pattern-F ((p : Pattern) × Says p)) → Says (roll-Pattern (map-Pattern ((p : Pattern) × Says p) Pattern (λ e. e.0) y))
  layer_says (VarLayer n) = var_says n
  layer_says (ConstLayer n ty) = const_says n ty
  layer_says (NodeLayer op to k ps) = node_says op to k ps
  layer_says (LaneLayer op to k ps) = lane_says op to k ps

  pub says : (p : Pattern) → Says p
  says = ind-Pattern Says (λ x y is. subst (λ z. Says (roll-Pattern z)) is (layer_says y))

-- a pattern that has a type: its form is a form over the variables, and has its value
pub sided_of : (at : At) (p : Pattern) (h : HasSort at p) → IsSided at p h.ty
sided_of at p h = says h.kind at p h.ty h.sorted
