-- The instance of a pattern that has a type is a well-typed term of this type, with the pattern's value.
use Rattle.std.proofs.Common.{◌≡◌, refl, sym, ap, ◌∙◌, subst, ℕ, zero, suc, ◌+◌, ◌<◌, ◌≤◌, ◌==◌, ℤ, pos, negsuc, Bool, true, false, cond, List, [], ◌∷◌, ◌++◌, length, map, take, get_or, Option, Some, None, Ok, Err, arith}
use Rattle.std.specs.Prelude.{All, IfOk, Result, option_and_then, option_map, slice_get, not, ◌&&◌, ◌||◌}
use Rattle.std.proofs.lemmas.Bool.{eq-eqb, and_parts}
use Rattle.std.proofs.lemmas.Bool.Decides.{nat_tests}
use Rattle.std.proofs.lemmas.List.{length-map, map-append, take_more, take_all}
use Rattle.pf_ints.specs.declared.lane.LaneType.{LaneType}
use Rattle.pf_ints.specs.Meaning.Lanes.{is_in}
use Rattle.pf_values.specs.declared.op.Op.{Op}
use Rattle.pf_values.specs.declared.row.Amounts.{Amounts}
use Rattle.pf_values.specs.declared.row.Amounts.TheVariants as amounts
use Rattle.pf_values.specs.declared.term.Env.{Env}
use Rattle.pf_values.specs.declared.term.Leaf.TheVariants.{Const as Number}
use Rattle.pf_values.specs.declared.term.Term.{Term}
use Rattle.pf_values.specs.declared.term.Term.TheVariants as term
use Rattle.pf_values.specs.declared.term.Term.TheOpen.Term-F.{Leaf as LeafLayer}
use Rattle.pf_values.specs.declared.term.Term.TheFolds.{fold-roll-Term}
use Rattle.pf_values.specs.declared.fault.TermFault.{TermFault}
use Rattle.pf_values.specs.Meaning.Operators.{row_of}
use Rattle.pf_values.specs.Meaning.Terms.{all_true, stated_type, Val, IsWellTyped, is_well_formed, typing, types_from as term_types, node_type, unless_differs, type_fault, is_amount, first_width, has_amount, is_formed_node, operand_count, then_node, typing_step}
use Rattle.pf_values.proofs.NodeParts.{formed_is, typing_is}
use Rattle.pf_values.proofs.NodeRanges.{judged}
use Rattle.pf_values.proofs.TermRanges.{AreTyped, typed_node, stated_node, stated_leaf, value_node, value_leaf, formed_leaf, typing_stated}
use Rattle.pf_rules.specs.declared.instances.Binding.{Binding}
use Rattle.pf_rules.specs.declared.number.Amount.{Amount as AmountOf}
use Rattle.pf_rules.specs.declared.number.Number.{Number as NumberOf}
use Rattle.pf_rules.specs.declared.pattern.PatType.{PatType}
use Rattle.pf_rules.specs.declared.pattern.Pattern.{Pattern}
use Rattle.pf_rules.specs.declared.pattern.Pattern.TheVariants.{Var, Const, Node, Lane, rolls-Var, rolls-Const, rolls-Node, rolls-Lane}
use Rattle.pf_rules.specs.declared.pattern.Pattern.TheOpen.{Pattern-F}
use Rattle.pf_rules.specs.declared.pattern.Pattern.TheOpen.Pattern-F.{Var as VarLayer, Const as ConstLayer, Node as NodeLayer, Lane as LaneLayer}
use Rattle.pf_rules.specs.declared.pattern.Pattern.TheViews.{roll-Pattern}
use Rattle.pf_rules.specs.declared.pattern.Pattern.TheFolds.{ind-Pattern, map-Pattern}
use Rattle.pf_rules.specs.declared.fault.SortFault.{SortFault}
use Rattle.pf_rules.specs.declared.fault.SortFault.TheVariants.{Amount}
use Rattle.pf_rules.specs.declared.rule.Kind.{Kind}
use Rattle.pf_rules.specs.declared.rule.VarDecl.{VarDecl}
use Rattle.pf_rules.specs.Meaning.Counts.{is_lane_free, lane_free_step}
use Rattle.pf_rules.specs.Meaning.Numbers.{number_at, amount_at}
use Rattle.pf_rules.specs.Meaning.Sorts.{At, place, lane_at, type_of_var, type_of_const, stated_at, op_gives, op_type, has_op_amount, sorting, sort_step, types_from, judged as judge, judged_op, fits}
use Rattle.pf_rules.specs.Meaning.Sides.{typed_value, value_step, PVal, firsts, seconds, stated_or, amount_or}
use Rattle.pf_rules.specs.Meaning.Instances.{all_of, node_over, instance_step, instance_by, instance_of, HasInstance, HaveTypes, bound_values}
use Rattle.pf_rules.specs.Steps.Sorted.{IsSmallAmount}
use Rattle.pf_rules.proofs.RowFacts.{stated_same, op_type_facts, op_facts, amount_small, width_small}
use Rattle.pf_rules.proofs.SideLaws.{typed_some, all_found, first_found}
use Rattle.pf_rules.proofs.InstanceLaws.{fold_var, fold_const, fold_node, fold_lane, IsNumberLeaf, IsNodeOver, node_parts, node_made, from_head, AllBoth, Each, instance_goes}

-- where a pattern of these variables is looked at
abbrev here : Binding → List VarDecl → At
here b vars = place b.w b.k vars

-- ---- the value

-- a bound term has its variable's type
types_at : (w k : ℕ) (ds : List VarDecl) (ts : List Term) (n : ℕ) (t : Term) → HaveTypes w ds ts → slice_get ts n ≡ Some t → type_of_var (place w k ds) n ≡ Some (stated_type t)
types_at w k [] [] n t h e = absurd (cc)
types_at w k [] (x ∷ ts) n t h e = absurd h
types_at w k (d ∷ ds) [] n t h e = absurd h
types_at w k (d ∷ ds) (x ∷ ts) zero t h e = let is : x ≡ t = cc e in h.0 ∙ ap (λ y. Some (stated_type y)) is
types_at w k (d ∷ ds) (x ∷ ts) (suc n) t h e = types_at w k ds ts n t h.1 e

module _ (b : Binding) (vars : List VarDecl) (typed : HaveTypes b.w vars b.vars) (env : Env) where
  abbrev v : ℕ → ℤ
  v = bound_values env b

  pub record Matches (p : Pattern) (t : Term) : Type 0 where
    pub ty : (typed_value (here b vars) v p).0 ≡ stated_type t
    pub value : (typed_value (here b vars) v p).1 ≡ Val env t

  match_each : (ps : List Pattern) (ts : List Term) → AllBoth Matches ps ts → (firsts (map (typed_value (here b vars) v) ps) ≡ map stated_type ts) × (seconds (map (typed_value (here b vars) v) ps) ≡ map (Val env) ts)
  match_each [] [] h = (refl, refl)
  match_each [] (t ∷ ts) h = absurd h
  match_each (p ∷ ps) [] h = absurd h
  match_each (p ∷ ps) (t ∷ ts) h = let rest = match_each ps ts h.1 in (rw (h.0.ty, rest.0) refl, rw (h.0.value, rest.1) refl)

  pub instance_matches : (p : Pattern) (t : Term) → instance_of b p ≡ Some t → Matches p t
  instance_matches = instance_goes b.w b.k (slice_get b.vars) Matches
      (λ n t h. record {
        ty = ap (λ r. r.0) (fold_var (value_step (here b vars) v) n) ∙ rw (types_at b.w b.k vars b.vars n t typed h) refl;
        value = ap (λ r. r.1) (fold_var (value_step (here b vars) v) n) ∙ rw h refl;
      })
      (λ n ty t h. record {
        ty = ap (λ r. r.0) (fold_const (value_step (here b vars) v) n ty) ∙ rw h.typed refl ∙ sym (ap stated_type (sym h.is) ∙ stated_leaf (Number h.number) h.ty);
        value = ap (λ r. r.1) (fold_const (value_step (here b vars) v) n ty) ∙ rw h.has refl ∙ sym (ap (Val env) (sym h.is) ∙ value_leaf env (Number h.number) h.ty);
      })
      (λ op to amount args t h each.
      let all = match_each args h.operands each in
      let node = fold_node (value_step (here b vars) v) op to amount args in
      let ty : op_gives op (stated_or (here b vars) to) (firsts (map (typed_value (here b vars) v) args)) ≡ op_gives op h.to (map stated_type h.operands) = ap (λ s. op_gives op s (firsts (map (typed_value (here b vars) v) args))) (stated_same (here b vars) to h.to h.stated) ∙ ap (op_gives op h.to) all.0 in
      let k : amount_or (here b vars) amount ≡ h.k = rw h.amount refl in
      record {
        ty = ap (λ r. r.0) node ∙ ty ∙ sym (ap stated_type (sym h.is) ∙ stated_node op _ h.k h.operands);
        value = ap (λ r. r.1) node ∙ rw (ty, k, all.1) refl ∙ sym (ap (Val env) (sym h.is) ∙ value_node env op _ h.k h.operands);
      })

-- ---- the type

module _ (amounts : Bool) (kind : Kind) (b : Binding) (vars : List VarDecl) (typed : HaveTypes b.w vars b.vars) where
  abbrev step : Pattern-F (Result LaneType SortFault) → Result LaneType SortFault
  step = sort_step amounts kind (here b vars)

  abbrev sort : Pattern → Result LaneType SortFault
  sort = sorting amounts kind (here b vars)

  abbrev HasType : Pattern → Term → Type 0
  HasType p t = (ty : LaneType) → sort p ≡ Ok ty → stated_type t ≡ ty

  type_each : (ps : List Pattern) (ts : List Term) (n : ℕ) (us : List LaneType) → AllBoth HasType ps ts → types_from n (map sort ps) ≡ Ok us → map stated_type ts ≡ us
  type_each [] [] n us h e = cc e
  type_each [] (t ∷ ts) n us h e = absurd h
  type_each (p ∷ ps) [] n us h e = absurd h
  type_each (p ∷ ps) (t ∷ ts) n us h e =
      let found = first_found (sort p) n (map sort ps) us e in
      rw (h.0 found.0 found.2, type_each ps ts (n + 1) found.1 h.1 found.3) found.4

  -- a type that is judged is there
  judged_some : (o : Option LaneType) (has : ℕ → Bool) (a : Option ℤ) (ty : LaneType) → judge amounts o has a ≡ Ok ty → o ≡ Some ty
  judged_some None has a ty h = absurd (cc h)
  judged_some (Some t) has None ty h = absurd (cc h)
  judged_some (Some t) has (Some k) ty h = by (not amounts || fits has k) h
    where
      by : (c : Bool) → cond c (Ok t) (Err (Amount [] k)) ≡ Ok ty → Some t ≡ Some ty
      by true e = cc e
      by false e = absurd (cc e)

  pub instance_type : (p : Pattern) (t : Term) → instance_of b p ≡ Some t → HasType p t
  instance_type = instance_goes b.w b.k (slice_get b.vars) HasType
      (λ n t h ty e. let is : Some (stated_type t) ≡ Some ty = sym (types_at b.w b.k vars b.vars n t typed h) ∙ typed_some (type_of_var (here b vars) n) ty (sym (fold_var step n) ∙ e) in cc is)
      (λ n ty t h u e.
      let is : type_of_const (here b vars) n ty ≡ Some u = typed_some (type_of_const (here b vars) n ty) u (sym (fold_const step n ty) ∙ e) in
      let same : h.ty ≡ u = of_number h.ty h.number u (rw (h.typed, h.has) at is) in
      ap stated_type (sym h.is) ∙ stated_leaf (Number h.number) h.ty ∙ same)
      (λ op to amount args t h each ty e.
      let found = all_found (λ types. judged_op amounts (here b vars) op amount types (stated_at b.w to)) (types_from 0 (map sort args)) ty (sym (fold_node step op to amount args) ∙ e) in
      let node : judge amounts (op_type op h.to found.0) (has_op_amount op found.0) (amount_at b.w b.k amount) ≡ Ok ty = ap (judged_op amounts (here b vars) op amount found.0) (sym h.stated) ∙ found.2 in
      let gives = op_type_facts op h.to found.0 ty (judged_some (op_type op h.to found.0) (has_op_amount op found.0) (amount_at b.w b.k amount) ty node) in
      ap stated_type (sym h.is) ∙ stated_node op _ h.k h.operands ∙ ap (op_gives op h.to) (type_each args h.operands 0 found.0 each found.1) ∙ gives.1)
    where
      of_number : (t : LaneType) (m : ℤ) (u : LaneType) → cond (is_in t m) (Some t) None ≡ Some u → t ≡ u
      of_number t m u e = by (is_in t m) e
        where
          by : (c : Bool) → cond c (Some t) None ≡ Some u → t ≡ u
          by true g = cc g
          by false g = absurd (cc g)

-- ---- a pattern with a type has an instance

no_amount : (a : Amounts) (w k : ℕ) → is_amount a w k ≡ true → ((k == 0) || has_amount a) ≡ true
no_amount amounts.Without w k h = grind (arith, nat_tests)
no_amount amounts.Shift w k h = grind (arith, nat_tests)
no_amount amounts.RoundingShift w k h = grind (arith, nat_tests)
no_amount amounts.Product w k h = grind (arith, nat_tests)
no_amount amounts.RoundingProduct w k h = grind (arith, nat_tests)

both : (a b : Bool) → a ≡ true → b ≡ true → a && b ≡ true
both true b h k = k
both false b h k = absurd (cc h)

all_formed : (ts : List Term) → AreTyped ts → all_true (map is_well_formed ts) ≡ true
all_formed [] h = refl
all_formed (t ∷ ts) h = both (is_well_formed t) _ h.0.formed (all_formed ts h.1)

all_types : (ts : List Term) (n : ℕ) → AreTyped ts → term_types n (map typing ts) ≡ Ok (map stated_type ts)
all_types [] n h = refl
all_types (t ∷ ts) n h = rw (h.0.typed, all_types ts (n + 1) h.1) refl

-- a node over well-typed operands that is as the table says is well-typed
pub node_typed : (op : Op) (ty : LaneType) (k : ℕ) (ts : List Term) → length ts ≡ operand_count (row_of op).operands → AreTyped ts → node_type (row_of op) ty k (map stated_type ts) ≡ Ok ty →
    IsWellTyped (term.Node op ty k ts)
node_typed op ty k ts count typed node =
    let amount = (judged (row_of op) ty ty k (map stated_type ts) node).0.amount in
    let own : is_formed_node (row_of op) k (length (map is_well_formed ts)) ≡ true = both _ _ (eq-eqb _ _ (length-map ts is_well_formed ∙ count)) (no_amount (row_of op).amounts (first_width (map stated_type ts)) k amount) in
    record {
      formed = formed_is op ty k ts ∙ both _ _ own (all_formed ts typed);
      typed = typing_is op ty k ts ∙ ap (then_node (row_of op) ty k) (all_types ts 0 typed) ∙ node ∙ ap Ok (sym (stated_node op ty k ts));
    }

number_typed : (n : ℤ) (ty : LaneType) → is_in ty n ≡ true → IsWellTyped (term.Leaf (Number n) ty)
number_typed n ty h = record {
  formed = formed_leaf (Number n) ty ∙ h;
  typed = ap typing (sym (term.rolls-Leaf (Number n) ty)) ∙ fold-roll-Term (Result LaneType TermFault) typing_step (LeafLayer (Number n) ty) ∙ ap Ok (sym (stated_leaf (Number n) ty));
}

pub record IsInstance (b : Binding) (p : Pattern) (ty : LaneType) : Type 0 where
  pub whole : Term
  pub is : instance_of b p ≡ Some whole
  pub typed : IsWellTyped whole
  pub ty_is : stated_type whole ≡ ty

module _ (kind : Kind) (b : Binding) (vars : List VarDecl) (types : HaveTypes b.w vars b.vars) (each : Each IsWellTyped b.vars) where
  abbrev sorts : Pattern → Result LaneType SortFault
  sorts = sorting true kind (here b vars)

  abbrev Sorted : Pattern → Type 0
  Sorted p = (ty : LaneType) → sorts p ≡ Ok ty → is_lane_free p ≡ true → IsInstance b p ty

  bound : (ds : List VarDecl) (ts : List Term) (n : ℕ) (ty : LaneType) → HaveTypes b.w ds ts → Each IsWellTyped ts → option_and_then (λ d. lane_at b.w d.ty) (slice_get ds n) ≡ Some ty →
      (t : Term) × (slice_get ts n ≡ Some t) × IsWellTyped t × (stated_type t ≡ ty)
  bound [] ts n ty h typed e = absurd (cc e)
  bound (d ∷ ds) [] n ty h typed e = absurd h
  bound (d ∷ ds) (t ∷ ts) zero ty h typed e = let is : Some (stated_type t) ≡ Some ty = sym h.0 ∙ e in (t, refl, typed.0, cc is)
  bound (d ∷ ds) (t ∷ ts) (suc n) ty h typed e = bound ds ts n ty h.1 typed.1 e

  sorted_var : (n : ℕ) → Sorted (Var n)
  sorted_var n ty h free =
      let found = bound vars b.vars n ty types each (typed_some (type_of_var (here b vars) n) ty (sym (fold_var (sort_step true kind (here b vars)) n) ∙ h)) in
      record { whole = found.0; is = fold_var (instance_step b.w b.k (slice_get b.vars)) n ∙ found.1; typed = found.2; ty_is = found.3 }

  sorted_const : (n : NumberOf) (ty : PatType) → Sorted (Const n ty)
  sorted_const n ty u h free = by (lane_at b.w ty) (number_at b.w b.k n) refl refl (typed_some (type_of_const (here b vars) n ty) u (sym (fold_const (sort_step true kind (here b vars)) n ty) ∙ h))
    where
      by_member : (t : LaneType) (m : ℤ) (c : Bool) → lane_at b.w ty ≡ Some t → number_at b.w b.k n ≡ Some m → is_in t m ≡ c → cond c (Some t) None ≡ Some u → IsInstance b (Const n ty) u
      by_member t m true e f i g = record {
        whole = term.Leaf (Number m) t;
        is = fold_const (instance_step b.w b.k (slice_get b.vars)) n ty ∙ rw (e, f) refl;
        typed = number_typed m t i;
        ty_is = stated_leaf (Number m) t ∙ cc g;
      }
      by_member t m false e f i g = absurd (cc g)

      by : (o : Option LaneType) (a : Option ℤ) → lane_at b.w ty ≡ o → number_at b.w b.k n ≡ a → option_and_then (λ t. option_and_then (λ m. cond (is_in t m) (Some t) None) a) o ≡ Some u → IsInstance b (Const n ty) u
      by None a e f g = absurd (cc g)
      by (Some t) None e f g = absurd (cc g)
      by (Some t) (Some m) e f g = by_member t m (is_in t m) e f refl g

  sorted_each : (ps : List ((p : Pattern) × Sorted p)) (n : ℕ) (us : List LaneType) → types_from n (map sorts (map (λ p. p.0) ps)) ≡ Ok us → all_true (map is_lane_free (map (λ p. p.0) ps)) ≡ true →
      (ts : List Term) × (all_of (map (instance_of b) (map (λ p. p.0) ps)) ≡ Some ts) × AreTyped ts × (map stated_type ts ≡ us)
  sorted_each [] n us h free = ([], refl, tt, cc h)
  sorted_each (p ∷ ps) n us h free =
      let free_both = and_parts (is_lane_free p.0) (all_true (map is_lane_free (map (λ q. q.0) ps))) free in
      let found = first_found (sorts p.0) n (map sorts (map (λ q. q.0) ps)) us h in
      let first = p.1 found.0 found.2 free_both.0 in
      let rest = sorted_each ps (n + 1) found.1 found.3 free_both.1 in
      (first.whole ∷ rest.0, rw (first.is, rest.1) refl, (first.typed, rest.2), rw (first.ty_is, rest.3) found.4)

  sorted_node : (op : Op) (to : Option PatType) (k : AmountOf) (ps : List ((p : Pattern) × Sorted p)) → Sorted (Node op to k (map (λ p. p.0) ps))
  sorted_node op to k ps ty h free =
      let args = map (λ p. p.0) ps in
      let found = all_found (λ us. judged_op true (here b vars) op k us (stated_at b.w to)) (types_from 0 (map sorts args)) ty (sym (fold_node (sort_step true kind (here b vars)) op to k args) ∙ h) in
      let facts = op_facts (here b vars) op to k found.0 ty found.2 in
      let all = sorted_each ps 0 found.0 found.1 (sym (fold_node lane_free_step op to k args) ∙ free) in
      let own : op_gives op (stated_or (here b vars) to) (map stated_type all.0) ≡ ty = ap (op_gives op (stated_or (here b vars) to)) all.3 ∙ facts.gives in
      let count : length all.0 ≡ operand_count (row_of op).operands = sym (length-map all.0 stated_type) ∙ ap length all.3 ∙ facts.count in
      record {
        whole = term.Node op ty (amount_or (here b vars) k) all.0;
        is = fold_node (instance_step b.w b.k (slice_get b.vars)) op to k args ∙ node_made op (stated_at b.w to) (amount_at b.w b.k k) (all_of (map (instance_of b) args)) (stated_or (here b vars) to) (amount_or (here b vars) k) all.0 ty facts.stated facts.amount all.1 own;
        typed = node_typed op ty (amount_or (here b vars) k) all.0 count all.2 (ap (node_type (row_of op) ty (amount_or (here b vars) k)) all.3 ∙ facts.judged);
        ty_is = stated_node op ty (amount_or (here b vars) k) all.0;
      }

  layer_sorted : (y : Pattern-F ((p : Pattern) × Sorted p)) → Sorted (roll-Pattern (map-Pattern ((p : Pattern) × Sorted p) Pattern (λ e. e.0) y))
  layer_sorted (VarLayer n) = subst Sorted (sym (rolls-Var n)) (sorted_var n)
  layer_sorted (ConstLayer n ty) = subst Sorted (sym (rolls-Const n ty)) (sorted_const n ty)
  layer_sorted (NodeLayer op to k ps) = subst Sorted (sym (rolls-Node op to k (map (λ p. p.0) ps))) (sorted_node op to k ps)
  layer_sorted (LaneLayer op to k ps) = subst Sorted (sym (rolls-Lane op to k (map (λ p. p.0) ps))) (λ ty h free. let none : false ≡ true = sym (fold_lane lane_free_step op to k (map (λ p. p.0) ps)) ∙ free in absurd (cc none))

  -- a pattern without lane operations that has a type has an instance of well-typed terms
  pub instance_sorted : (p : Pattern) → Sorted p
  instance_sorted = ind-Pattern Sorted (λ x y is. subst (λ z. Sorted (roll-Pattern z)) is (layer_sorted y))

-- ---- as it is made, operand by operand

pub node_instance : (b : Binding) (p : Pattern) (op : Op) (to : Option PatType) (k : AmountOf) (args xs : List Pattern) → p ≡ Node op to k args → xs ≡ args → (h : HasInstance b p) →
    IsNodeOver op (stated_at b.w to) (amount_at b.w b.k k) (all_of (map (instance_of b) xs)) h.whole
node_instance b p op to k args xs is same h =
    node_parts op (stated_at b.w to) (amount_at b.w b.k k) (all_of (map (instance_of b) xs)) h.whole
    (ap (λ ys. node_over op (stated_at b.w to) (amount_at b.w b.k k) (all_of (map (instance_of b) ys))) same
    ∙ sym (fold_node (instance_step b.w b.k (slice_get b.vars)) op to k args) ∙ ap (instance_of b) (sym is) ∙ h.is)

instances_each : (b : Binding) (xs : List Pattern) (ts : List Term) → all_of (map (instance_of b) xs) ≡ Some ts → AreTyped ts → All (λ x. HasInstance b x) xs
instances_each b [] ts h typed i d below = absurd (omega (arith, below))
instances_each b (x ∷ xs) ts h typed i d below =
    let found = from_head (instance_of b x) (all_of (map (instance_of b) xs)) ts h in
    let both = subst AreTyped (sym found.4) typed in
    by i below (record { whole = found.0; is = found.2; typed = both.0 }) (instances_each b xs found.1 found.3 both.1)
  where
    by : (j : ℕ) → j < length (x ∷ xs) → HasInstance b x → All (λ y. HasInstance b y) xs → HasInstance b (get_or (x ∷ xs) j d)
    by zero under first rest = first
    by (suc j) under first rest = rest j d (omega (arith, under))

pub each_instance : (b : Binding) (p : Pattern) (op : Op) (to : Option PatType) (k : AmountOf) (args xs : List Pattern) → p ≡ Node op to k args → xs ≡ args → HasInstance b p → All (λ x. HasInstance b x) xs
each_instance b p op to k args xs is same h =
    let parts = node_instance b p op to k args xs is same h in
    instances_each b xs parts.operands parts.over (typed_node op _ parts.k parts.operands (subst IsWellTyped (sym parts.is) h.typed)).operands

all_push : {A : Type 0} (os : List (Option A)) (xs : List A) (x : A) → all_of os ≡ Some xs → all_of (os ++ Some x ∷ []) ≡ Some (xs ++ x ∷ [])
all_push [] xs x h = let none : [] ≡ xs = cc h in ap (λ ys. Some (ys ++ x ∷ [])) none
all_push (o ∷ os) xs x h =
    let found = from_head o (all_of os) xs h in
    rw (found.2, all_push os found.1 x found.3) (ap (λ ys. Some (ys ++ x ∷ [])) found.4)

pub instance_more : (b : Binding) (xs : List Pattern) (ts us : List Term) (n : ℕ) (x : Pattern) (t : Term) → all_of (map (instance_of b) (take n xs)) ≡ Some ts → n < length xs → x ≡ get_or xs n x → instance_of b x ≡ Some t → us ≡ ts ++ t ∷ [] →
    all_of (map (instance_of b) (take (n + 1) xs)) ≡ Some us
instance_more b xs ts us n x t h below is found longer =
    ap (λ ys. all_of (map (instance_of b) ys)) (take_more xs n x below) ∙ ap all_of (map-append (instance_of b) (take n xs) (get_or xs n x ∷ []))
    ∙ ap (λ o. all_of (map (instance_of b) (take n xs) ++ o ∷ [])) (ap (instance_of b) (sym is) ∙ found) ∙ all_push (map (instance_of b) (take n xs)) ts t h ∙ ap Some (sym longer)

-- the amount of a well-typed node is small
pub small_instance : (b : Binding) (p : Pattern) (op : Op) (to : Option PatType) (k : AmountOf) (args : List Pattern) → p ≡ Node op to k args → HasInstance b p → IsSmallAmount (place b.w b.k []) k
small_instance b p op to k args is h =
    let parts = node_instance b p op to k args args is refl h in
    let node = typed_node op _ parts.k parts.operands (subst IsWellTyped (sym parts.is) h.typed) in
    let same : amount_or (place b.w b.k []) k ≡ parts.k = rw parts.amount refl in
    let small = amount_small (row_of op).amounts (first_width (map stated_type parts.operands)) parts.k (width_small (map stated_type parts.operands)) (judged (row_of op) _ _ parts.k (map stated_type parts.operands) node.node).0.amount in
    record { is = parts.amount ∙ ap (λ n. Some (pos n)) (sym same); small = omega (arith, same, small) }

-- the node over all operands, as they were made, is the instance
pub node_replaced : (b : Binding) (p : Pattern) (op : Op) (to : Option PatType) (k : AmountOf) (args xs : List Pattern) (n : ℕ) (ts us : List Term) (types : List LaneType) (s : Option LaneType) (ty : LaneType) (j : ℕ) → p ≡ Node op to k args → xs ≡ args →
    HasInstance b p → length xs ≤ n → all_of (map (instance_of b) (take n xs)) ≡ Some ts → us ≡ ts → types ≡ map stated_type us → s ≡ option_and_then (lane_at b.w) to → ty ≡ op_gives op s types → j ≡ amount_or (place b.w b.k []) k →
    instance_of b p ≡ Some (term.Node op ty j ts)
node_replaced b p op to k args xs n ts us types s ty j is same h past made all found stated gives amount =
    let parts = node_instance b p op to k args args is refl h in
    let whole : all_of (map (instance_of b) args) ≡ Some ts = ap (λ ys. all_of (map (instance_of b) ys)) (sym (take_all n xs past ∙ same)) ∙ made in
    let to_is : parts.to ≡ s = sym (stated_same (place b.w b.k []) to parts.to parts.stated) ∙ sym stated in
    let k_is : j ≡ parts.k = amount ∙ rw parts.amount refl in
    let own : op_gives op parts.to (map stated_type ts) ≡ ty = rw to_is (ap (op_gives op s) (ap (map stated_type) (sym all) ∙ sym found) ∙ sym gives) in
    ap (instance_of b) is ∙ fold_node (instance_step b.w b.k (slice_get b.vars)) op to k args
    ∙ node_made op (stated_at b.w to) (amount_at b.w b.k k) (all_of (map (instance_of b) args)) parts.to j ts ty parts.stated (parts.amount ∙ ap (λ i. Some (pos i)) (sym k_is)) whole own

-- ---- what is answered

pub typed_told : (b : Binding) (p : Pattern) (E : Type 0) (r : Result Term E) → HasInstance b p → IfOk r (λ t. instance_of b p ≡ Some t) → IfOk r IsWellTyped
typed_told b p E (Ok t) h is = let same : h.whole ≡ t = cc (sym h.is ∙ is) in subst IsWellTyped same h.typed
typed_told b p E (Err e) h is = tt

abbrev SortTold : Binding → Pattern → Term → Type 0
SortTold b p t = (vars : List VarDecl) (kind : Kind) (ty : LaneType) → HaveTypes b.w vars b.vars → sorting true kind (place b.w b.k vars) p ≡ Ok ty → stated_type t ≡ ty

pub sort_told : (b : Binding) (p : Pattern) (E : Type 0) (r : Result Term E) → IfOk r (λ t. instance_of b p ≡ Some t) → IfOk r (SortTold b p)
sort_told b p E (Ok t) is = λ vars kind ty types h. instance_type true kind b vars types p t is ty h
sort_told b p E (Err e) is = tt

abbrev ValueTold : Binding → Pattern → Term → Type 0
ValueTold b p t = (vars : List VarDecl) (env : Env) → HaveTypes b.w vars b.vars → Val env t ≡ PVal (place b.w b.k vars) (bound_values env b) p

pub value_told : (b : Binding) (p : Pattern) (E : Type 0) (r : Result Term E) → IfOk r (λ t. instance_of b p ≡ Some t) → IfOk r (ValueTold b p)
value_told b p E (Ok t) is = λ vars env types. sym (instance_matches b vars types env p t is).value
value_told b p E (Err e) is = tt
