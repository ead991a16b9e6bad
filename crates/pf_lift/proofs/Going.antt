-- The operands of a node are lifted one after another, and then the node.
use Rattle.std.proofs.Common.{◌≡◌, refl, sym, ap, ◌∙◌, subst, ℕ, zero, suc, ◌+◌, ◌<◌, ◌≤◌, Bool, true, List, [], ◌∷◌, ◌++◌, length, map, get_or, take, drop, Option, Some, None, arith, append_assoc, append-nil}
use Rattle.std.specs.Prelude.{IfOk, Result, Ok, Err, slice_get, sum}
use Rattle.std.proofs.lemmas.List.{drop_more, drop_all, take_more, take_all}
use Rattle.pf_ints.specs.declared.lane.LaneType.{LaneType}
use Rattle.pf_values.specs.declared.op.Op.{Op}
use Rattle.pf_values.specs.declared.term.Leaf.{Leaf as LeafOf}
use Rattle.pf_values.specs.declared.term.Term.{Term}
use Rattle.pf_values.specs.declared.term.Term.TheVariants.{Leaf, Node}
use Rattle.pf_values.specs.Meaning.Operators.{row_of}
use Rattle.pf_values.specs.Meaning.Terms.{IsWellTyped, weight_of}
use Rattle.pf_values.proofs.TermRanges.{AreTyped, typed_node}
use Rattle.pf_bounds.specs.declared.kept.BoundedParts.{BoundedParts}
use Rattle.pf_bounds.specs.declared.ranges.Ranges.{Ranges}
use Rattle.pf_bounds.specs.Meaning.TermBounds.{operands, are_ranges_of}
use Rattle.pf_bounds.proofs.PlaceLaws.{operands_node}
use Rattle.pf_check.specs.declared.checked.CheckedParts.{CheckedParts}
use Rattle.pf_rules.proofs.InstanceLaws.{Each}
use Rattle.pf_lift.specs.Meaning.Rewriting.{NoMatch, Rewrites, Next, Chain, IsNormal, LiftsTo}
use Rattle.pf_lift.specs.Meaning.Lifted.{Keeps}
use Rattle.pf_lift.specs.Steps.Counting.{AreNormal, IsRewritten, Becomes, Lifts}
use Rattle.pf_lift.proofs.Lists.{each_get, each_push, sum_cons, sum_push}
use Rattle.pf_lift.proofs.Chains.{Normal, next_root, normal_root, chain_below, chain_append}
use Rattle.pf_lift.proofs.Weights.{weight_node, weight_leaf, op_weight, weight_some}
use Rattle.pf_lift.proofs.Keeping.{AllKeep, keep_push, keeps_node, keeps_same, keeps_after, leaf_operands, ranged_up}

module _ (rules : List CheckedParts) (ranges : Ranges) where
  pub each_of : (ts : List Term) → AreNormal rules ranges ts → Each (Normal rules ranges) ts
  each_of [] h = tt
  each_of (t ∷ ts) h = (h.0, each_of ts h.1)

  are_of : (ts : List Term) → Each (Normal rules ranges) ts → AreNormal rules ranges ts
  are_of [] h = tt
  are_of (t ∷ ts) h = (h.0, are_of ts h.1)

  abbrev Ranged : Term → Type 0
  Ranged x = are_ranges_of ranges x ≡ true

  -- ---- the operands before i are lifted
  pub record Going (op : Op) (ty : LaneType) (k : ℕ) (xs done : List Term) (i before now : ℕ) : Type 0 where
    pub count : ℕ
    pub counted : now ≡ before + count
    pub chain : Chain rules ranges count (Node op ty k xs) (Node op ty k (done ++ drop i xs))
    pub normal : Each (Normal rules ranges) done
    pub keep : AllKeep ranges (take i xs) done
    pub ranged : Each Ranged done
    pub lighter : sum (map weight_of done) + count ≤ sum (map weight_of (take i xs))

  pub going_start : (op : Op) (ty : LaneType) (k : ℕ) (xs done : List Term) (before : ℕ) → done ≡ [] → Going op ty k xs done 0 before before
  going_start op ty k xs done before none = subst (λ ys. Going op ty k xs ys 0 before before) (sym none) (record {
    count = 0;
    counted = omega arith;
    chain = refl;
    normal = tt;
    keep = tt;
    ranged = tt;
    lighter = omega arith;
  })

  pub going_more : (op : Op) (ty : LaneType) (k : ℕ) (xs done new : List Term) (i before now later : ℕ) (x y : Term) → Going op ty k xs done i before now → i < length xs → x ≡ get_or xs i x → Lifts rules ranges x y now later → new ≡ done ++ y ∷ [] →
      Going op ty k xs new (i + 1) before later
  going_more op ty k xs done new i before now later x y g below at h push = subst (λ ys. Going op ty k xs ys (i + 1) before later) (sym push) (record {
    count = g.count + h.count;
    counted = omega (arith, g.counted, h.counted);
    chain = chain_append rules ranges g.count h.count (Node op ty k xs) (Node op ty k (done ++ drop i xs)) (Node op ty k ((done ++ y ∷ []) ++ drop (i + 1) xs)) g.chain step;
    normal = each_push (Normal rules ranges) done y g.normal h.lifts.normal;
    keep = subst (λ ys. AllKeep ranges ys (done ++ y ∷ [])) (sym taken) (keep_push ranges (take i xs) done x y g.keep h.keeps);
    ranged = each_push Ranged done y g.ranged h.ranged;
    lighter = omega (arith, sum_push weight_of done y, ap (λ ys. sum (map weight_of ys)) taken, sum_push weight_of (take i xs) x, g.lighter, h.lighter);
  })
    where
      taken : take (i + 1) xs ≡ take i xs ++ x ∷ []
      taken = take_more xs i x below ∙ ap (λ z. take i xs ++ z ∷ []) (sym at)

      left : drop i xs ≡ x ∷ drop (i + 1) xs
      left = drop_more xs i x below ∙ ap (λ z. z ∷ drop (i + 1) xs) (sym at)

      step : Chain rules ranges h.count (Node op ty k (done ++ drop i xs)) (Node op ty k ((done ++ y ∷ []) ++ drop (i + 1) xs))
      step =
          let own = chain_below rules ranges op ty k done (drop (i + 1) xs) g.normal h.count x y h.lifts.chain in
          let from : Node op ty k (done ++ x ∷ drop (i + 1) xs) ≡ Node op ty k (done ++ drop i xs) = ap (λ zs. Node op ty k (done ++ zs)) (sym left) in
          let to : Node op ty k (done ++ y ∷ drop (i + 1) xs) ≡ Node op ty k ((done ++ y ∷ []) ++ drop (i + 1) xs) = ap (Node op ty k) (sym (append_assoc done (y ∷ []) (drop (i + 1) xs))) in
          subst (λ z. Chain rules ranges h.count z (Node op ty k ((done ++ y ∷ []) ++ drop (i + 1) xs))) from (subst (λ z. Chain rules ranges h.count (Node op ty k (done ++ x ∷ drop (i + 1) xs)) z) to own)

  -- ---- all operands are lifted
  pub record IsOver (t u : Term) (before now : ℕ) : Type 0 where
    pub count : ℕ
    pub counted : now ≡ before + count
    pub chain : Chain rules ranges count t u
    pub normal : AreNormal rules ranges (operands u)
    pub keeps : Keeps ranges t u
    pub ranged : are_ranges_of ranges u ≡ true
    pub lighter : weight_of u + count ≤ weight_of t

  pub over_all : (t u : Term) (op : Op) (ty : LaneType) (k : ℕ) (args xs done : List Term) (i before now : ℕ) → t ≡ Node op ty k args → xs ≡ args → IsWellTyped t → Going op ty k xs done i before now → length xs ≤ i → u ≡ Node op ty k done → IsOver t u before now
  over_all t u op ty k args xs done i before now is same typed g past made =
      let t_is : Node op ty k xs ≡ t = ap (Node op ty k) same ∙ sym is in
      let all : take i xs ≡ xs = take_all i xs past in
      let none : drop i xs ≡ [] = drop_all i xs past in
      let end : Node op ty k (done ++ drop i xs) ≡ u = ap (λ ys. Node op ty k (done ++ ys)) none ∙ ap (Node op ty k) (append-nil done) ∙ sym made in
      let keep = subst (λ ys. AllKeep ranges ys done) all g.keep in
      let own = keeps_node ranges op ty k xs done (subst IsWellTyped (sym t_is) typed) keep in
      record {
        count = g.count;
        counted = g.counted;
        chain = subst (λ z. Chain rules ranges g.count z u) t_is (subst (λ z. Chain rules ranges g.count (Node op ty k xs) z) end g.chain);
        normal = are_of (operands u) (subst (Each (Normal rules ranges)) (sym (operands_node u op ty k done made)) g.normal);
        keeps = subst (λ z. Keeps ranges z u) t_is (subst (Keeps ranges (Node op ty k xs)) (sym made) own);
        ranged = subst (λ z. are_ranges_of ranges z ≡ true) (sym made) (ranged_up ranges op ty k done g.ranged);
        lighter = omega (arith, ap weight_of made, ap weight_of t_is, weight_node op ty k done, weight_node op ty k xs, g.lighter, ap (λ ys. sum (map weight_of ys)) all);
      }

  pub over_typed : (t : Term) (op : Op) (ty : LaneType) (k : ℕ) (args xs done : List Term) (i before now : ℕ) → t ≡ Node op ty k args → xs ≡ args → IsWellTyped t → Going op ty k xs done i before now → length xs ≤ i → IsWellTyped (Node op ty k done)
  over_typed t op ty k args xs done i before now is same typed g past = (over_all t (Node op ty k done) op ty k args xs done i before now is same typed g past refl).keeps.typed

  pub over_leaf : (t u : Term) (leaf : LeafOf) (ty : LaneType) (before : ℕ) → t ≡ Leaf leaf ty → u ≡ Leaf leaf ty → IsWellTyped t → are_ranges_of ranges t ≡ true → IsOver t u before before
  over_leaf t u leaf ty before is made typed ranged =
      let same : t ≡ u = is ∙ sym made in
      record {
        count = 0;
        counted = omega arith;
        chain = same;
        normal = subst (AreNormal rules ranges) (sym (ap operands made ∙ leaf_operands leaf ty)) tt;
        keeps = subst (Keeps ranges t) same (keeps_same ranges t typed);
        ranged = subst (λ z. are_ranges_of ranges z ≡ true) same ranged;
        lighter = omega (arith, ap weight_of same);
      }

  -- ---- what is lifted behind that
  pub lifts_over : (t u v : Term) (before now later : ℕ) → IsOver t u before now → Lifts rules ranges u v now later → Lifts rules ranges t v before later
  lifts_over t u v before now later o h = record {
    count = o.count + h.count;
    counted = omega (arith, o.counted, h.counted);
    lifts = record { chain = chain_append rules ranges o.count h.count t u v o.chain h.lifts.chain; normal = h.lifts.normal };
    keeps = keeps_after ranges t u v o.keeps h.keeps;
    ranged = h.ranged;
    lighter = omega (arith, o.lighter, h.lighter);
  }

  pub lifts_none : (t : Term) (before : ℕ) → IsWellTyped t → are_ranges_of ranges t ≡ true → AreNormal rules ranges (operands t) → NoMatch rules ranges t → Lifts rules ranges t t before before
  lifts_none t before typed ranged normal none = record {
    count = 0;
    counted = omega arith;
    lifts = record { chain = refl; normal = normal_root rules ranges t (each_of (operands t) normal) none };
    keeps = keeps_same ranges t typed;
    ranged = ranged;
    lighter = omega arith;
  }

  pub lifts_next : (t u v : Term) (before now later : ℕ) → AreNormal rules ranges (operands t) → IsRewritten rules ranges t u → now ≡ before + 1 → Lifts rules ranges u v now later → Lifts rules ranges t v before later
  lifts_next t u v before now later normal r tick h = record {
    count = suc h.count;
    counted = omega (arith, tick, h.counted);
    lifts = record { chain = (u, next_root rules ranges t u (each_of (operands t) normal) r.rewrites, h.lifts.chain); normal = h.lifts.normal };
    keeps = keeps_after ranges t u v r.keeps h.keeps;
    ranged = h.ranged;
    lighter = omega (arith, r.lighter, h.lighter);
  }

  ok_map : (A E : Type 0) (r : Result A E) (P Q : A → Type 0) → ((x : A) → P x → Q x) → IfOk r P → IfOk r Q
  ok_map A E (Ok x) P Q f h = f x h
  ok_map A E (Err e) P Q f h = tt

  pub ok_over : (E : Type 0) (r : Result BoundedParts E) (t u : Term) (before now later : ℕ) → IsOver t u before now → IfOk r (λ b. Lifts rules ranges u b.term now later) → IfOk r (λ b. Lifts rules ranges t b.term before later)
  ok_over E r t u before now later o = ok_map BoundedParts E r (λ b. Lifts rules ranges u b.term now later) (λ b. Lifts rules ranges t b.term before later) (λ b h. lifts_over t u b.term before now later o h)

  pub ok_next : (E : Type 0) (r : Result BoundedParts E) (t u : Term) (before now later : ℕ) → AreNormal rules ranges (operands t) → IsRewritten rules ranges t u → now ≡ before + 1 → IfOk r (λ b. Lifts rules ranges u b.term now later) → IfOk r (λ b. Lifts rules ranges t b.term before later)
  ok_next E r t u before now later normal w tick = ok_map BoundedParts E r (λ b. Lifts rules ranges u b.term now later) (λ b. Lifts rules ranges t b.term before later) (λ b h. lifts_next t u b.term before now later normal w tick h)

  -- ---- weights of operands
  pub weight_taken : (xs : List Term) (i : ℕ) (x : Term) → i < length xs → x ≡ get_or xs i x → sum (map weight_of (take i xs)) + weight_of x ≤ sum (map weight_of xs)
  weight_taken [] i x below at = absurd (omega (arith, below))
  weight_taken (y ∷ xs) zero x below at = let e = sum_cons (weight_of y) (map weight_of xs) in let same = ap weight_of at in omega (arith, e, same)
  weight_taken (y ∷ xs) (suc i) x below at =
      let e = sum_cons (weight_of y) (map weight_of xs) in
      let f = sum_cons (weight_of y) (map weight_of (take i xs)) in
      let rest = weight_taken xs i x (omega (arith, below)) at in
      omega (arith, e, f, rest)

  pub weight_operand : (t : Term) (op : Op) (ty : LaneType) (k : ℕ) (args xs : List Term) (i : ℕ) (x : Term) → t ≡ Node op ty k args → xs ≡ args → i < length xs → x ≡ get_or xs i x → sum (map weight_of (take i xs)) + weight_of x < weight_of t
  weight_operand t op ty k args xs i x is same below at =
      let taken = weight_taken xs i x below at in
      omega (arith, taken, ap weight_of is, weight_node op ty k args, op_weight op, ap (λ ys. sum (map weight_of ys)) same)
