-- An instance weighs what its pattern weighs, and for each occurrence of a variable what its term weighs more than 1.
use Rattle.std.proofs.Common.{◌≡◌, refl, sym, ap, ◌∙◌, subst, ℕ, zero, suc, ◌+◌, ◌*◌, ◌<◌, ◌≤◌, ◌==◌, Bool, true, false, List, [], ◌∷◌, length, map, Option, Some, None, arith, ◌⊎◌, inl, inr}
use Rattle.std.specs.Prelude.{◌-◌, ◌^◌, min, slice_get, sum, if◌then◌else◌}
use Rattle.std.proofs.lemmas.Bool.{eq-eqb, cases_eq, cases_lt}
use Rattle.std.proofs.Math.Nat.{mul-le-mul_left, min-le_left, min-le_right, min-eq_left, min-eq_right}
use Rattle.std.proofs.Common.{eqb-true}
use Rattle.pf_ints.specs.declared.lane.LaneType.{LaneType}
use Rattle.pf_values.specs.declared.op.Op.{Op}
use Rattle.pf_values.specs.declared.op.Op.TheVariants.{Cast}
use Rattle.pf_values.specs.declared.term.Leaf.{Leaf as LeafOf}
use Rattle.pf_values.specs.declared.term.Leaf.TheVariants.{Const as Constant}
use Rattle.pf_values.specs.declared.term.Term.{Term}
use Rattle.pf_values.specs.declared.term.Term.TheVariants as term
use Rattle.pf_values.specs.declared.term.Term.TheOpen.{Term-F}
use Rattle.pf_values.specs.declared.term.Term.TheOpen.Term-F.{Leaf as LeafLayer, Node as NodeLayer}
use Rattle.pf_values.specs.declared.term.Term.TheViews.{roll-Term}
use Rattle.pf_values.specs.declared.term.Term.TheFolds.{fold-roll-Term, ind-Term}
use Rattle.pf_values.specs.Meaning.Operators.{row_of}
use Rattle.pf_values.specs.Meaning.Terms.{weight_of, weight_step, stated_type}
use Rattle.pf_rules.specs.declared.number.Amount.{Amount as AmountOf}
use Rattle.pf_rules.specs.declared.number.Number.{Number as NumberOf}
use Rattle.pf_rules.specs.declared.pattern.PatType.{PatType}
use Rattle.pf_rules.specs.declared.pattern.Pattern.{Pattern}
use Rattle.pf_rules.specs.declared.pattern.Pattern.TheVariants.{Var, Const, Node}
use Rattle.pf_rules.specs.Meaning.Counts.{pattern_weight, occurrences, occurrences_step}
use Rattle.pf_rules.specs.Meaning.Counts as counts
use Rattle.pf_rules.specs.Meaning.Instances.{instance_by}
use Rattle.pf_rules.specs.Meaning.Sorts.{op_gives}
use Rattle.pf_rules.proofs.InstanceLaws.{fold_var, fold_const, fold_node, AllBoth, instance_goes}
use Rattle.pf_lift.proofs.Lists.{sum_cons}

-- ---- terms

pub weight_leaf : (leaf : LeafOf) (ty : LaneType) → weight_of (term.Leaf leaf ty) ≡ 1
weight_leaf leaf ty = ap weight_of (sym (term.rolls-Leaf leaf ty)) ∙ fold-roll-Term ℕ weight_step (LeafLayer leaf ty)

pub weight_node : (op : Op) (ty : LaneType) (k : ℕ) (args : List Term) → weight_of (term.Node op ty k args) ≡ (row_of op).weight + sum (map weight_of args)
weight_node op ty k args = ap weight_of (sym (term.rolls-Node op ty k args)) ∙ fold-roll-Term ℕ weight_step (NodeLayer op ty k args)

pub op_weight : (op : Op) → 1 ≤ (row_of op).weight
op_weight Cast = omega arith
op_weight _ = omega arith

pub weight_some : (t : Term) → 1 ≤ weight_of t
weight_some = ind-Term (λ t. 1 ≤ weight_of t) (λ x y is. by x)
  where
    by : (x : Term-F Term) → 1 ≤ weight_of (roll-Term x)
    by (LeafLayer leaf ty) = let e = fold-roll-Term ℕ weight_step (LeafLayer leaf ty) in omega (arith, e)
    by (NodeLayer op ty k args) = let e = fold-roll-Term ℕ weight_step (NodeLayer op ty k args) in omega (arith, e, op_weight op)

-- ---- what the variables add

module _ (V : ℕ → ℕ) where
  abbrev extra : ℕ → Pattern → ℕ
  extra zero p = 0
  extra (suc n) p = extra n p + V n * occurrences n p

  extra_const : (n : ℕ) (c : NumberOf) (ty : PatType) → extra n (Const c ty) ≡ 0
  extra_const zero c ty = refl
  extra_const (suc n) c ty = rw (extra_const n c ty, fold_const (occurrences_step n) c ty) (omega arith)

  occurs_at : (m n : ℕ) → occurrences m (Var n) ≡ (if n == m then 1 else 0)
  occurs_at m n = fold_var (occurrences_step m) n

  occurs_other : (m n : ℕ) → (n ≡ m → ⊥) → occurrences m (Var n) ≡ 0
  occurs_other m n other = by (n == m) refl
    where
      by : (b : Bool) → (n == m) ≡ b → occurrences m (Var n) ≡ 0
      by true e = absurd (other (eqb-true n m e))
      by false e = occurs_at m n ∙ ap (λ b. if b then 1 else 0) e

  extra_none : (N n : ℕ) → N ≤ n → extra N (Var n) ≡ 0
  extra_none zero n above = refl
  extra_none (suc N) n above = rw (extra_none N n (omega (arith, above)), occurs_other N n (λ e. omega (arith, above, e))) (omega arith)

  extra_var : (N n : ℕ) → n < N → extra N (Var n) ≡ V n
  extra_var zero n below = absurd (omega (arith, below))
  extra_var (suc N) n below = by (cases_eq n N) (extra_var N n)
    where
      by : (n ≡ N) ⊎ (n ≡ N → ⊥) → (n < N → extra N (Var n) ≡ V n) → extra N (Var n) + V N * occurrences N (Var n) ≡ V n
      by (inl e) rest =
          let once : occurrences N (Var n) ≡ 1 = occurs_at N n ∙ ap (λ b. if b then 1 else 0) (eq-eqb n N e) in
          let same : V N ≡ V n = ap V (sym e) in
          rw (extra_none N n (omega (arith, e)), once, same) (omega arith)
      by (inr other) rest = rw (rest (omega (arith, below, other)), occurs_other N n other) (omega arith)

  nothing : (ps : List Pattern) → 0 ≡ sum (map (extra 0) ps)
  nothing [] = refl
  nothing (p ∷ ps) = let e = sum_cons 0 (map (extra 0) ps) in let rest = nothing ps in omega (arith, e, rest)

  exchanged : (n : ℕ) (ps : List Pattern) → sum (map (extra n) ps) + V n * sum (map (occurrences n) ps) ≡ sum (map (extra (suc n)) ps)
  exchanged n [] = omega arith
  exchanged n (p ∷ ps) =
      let a = sum_cons (extra n p) (map (extra n) ps) in
      let b = sum_cons (occurrences n p) (map (occurrences n) ps) in
      let c = sum_cons (extra (suc n) p) (map (extra (suc n)) ps) in
      let rest = exchanged n ps in
      let times : V n * sum (map (occurrences n) (p ∷ ps)) ≡ V n * (occurrences n p + sum (map (occurrences n) ps)) = ap (λ m. V n * m) b in
      omega (arith, a, c, rest, times)

  extra_node : (n : ℕ) (op : Op) (to : Option PatType) (k : AmountOf) (args : List Pattern) → extra n (Node op to k args) ≡ sum (map (extra n) args)
  extra_node zero op to k args = nothing args
  extra_node (suc n) op to k args = rw (extra_node n op to k args, fold_node (occurrences_step n) op to k args) (exchanged n args)

  -- no more occurrences add no more
  extra_less : (n : ℕ) (p q : Pattern) → ((m : ℕ) → m < n → occurrences m p ≤ occurrences m q) → extra n p ≤ extra n q
  extra_less zero p q h = omega arith
  extra_less (suc n) p q h =
      let rest = extra_less n p q (λ m below. h m (omega (arith, below))) in
      let here = mul-le-mul_left (V n) (h n (omega arith)) in
      omega (arith, rest, here)

-- ---- instances

module _ (w k : ℕ) (f : ℕ → Option Term) (V : ℕ → ℕ) (N : ℕ) (heavy : (n : ℕ) (x : Term) → f n ≡ Some x → (n < N) × (weight_of x ≡ 1 + V n)) where
  abbrev Weighs : Pattern → Term → Type 0
  Weighs p t = weight_of t ≡ pattern_weight p + extra V N p

  weigh_each : (ps : List Pattern) (ts : List Term) → AllBoth Weighs ps ts → sum (map weight_of ts) ≡ sum (map pattern_weight ps) + sum (map (extra V N) ps)
  weigh_each [] [] h = refl
  weigh_each [] (t ∷ ts) h = absurd h
  weigh_each (p ∷ ps) [] h = absurd h
  weigh_each (p ∷ ps) (t ∷ ts) h =
      let a = sum_cons (weight_of t) (map weight_of ts) in
      let b = sum_cons (pattern_weight p) (map pattern_weight ps) in
      let c = sum_cons (extra V N p) (map (extra V N) ps) in
      let rest = weigh_each ps ts h.1 in
      omega (arith, a, b, c, rest, h.0)

  instance_weighs : (p : Pattern) (t : Term) → instance_by w k f p ≡ Some t → Weighs p t
  instance_weighs = instance_goes w k f Weighs
      (λ n t h. let own = heavy n t h in let one : pattern_weight (Var n) ≡ 1 = fold_var counts.weight_step n in let more = extra_var V N n own.0 in omega (arith, own.1, one, more))
      (λ n ty t h. let one : pattern_weight (Const n ty) ≡ 1 = fold_const counts.weight_step n ty in let none = extra_const V N n ty in let leaf = weight_leaf (Constant h.number) h.ty in omega (arith, ap weight_of h.is, one, none, leaf))
      (λ op to amount args t h each.
      let a = weigh_each args h.operands each in
      let b : pattern_weight (Node op to amount args) ≡ (row_of op).weight + sum (map pattern_weight args) = fold_node counts.weight_step op to amount args in
      let c = extra_node V N op to amount args in
      let d = weight_node op (op_gives op h.to (map stated_type h.operands)) h.k h.operands in
      let e = ap weight_of h.is in
      omega (arith, a, b, c, d, e))

  -- a variable stands in a pattern at most as often as the pattern weighs
  abbrev Bears : ℕ → Pattern → Term → Type 0
  Bears m p t = occurrences m p ≤ pattern_weight p

  bear_each : (m : ℕ) (ps : List Pattern) (ts : List Term) → AllBoth (Bears m) ps ts → sum (map (occurrences m) ps) ≤ sum (map pattern_weight ps)
  bear_each m [] [] h = omega arith
  bear_each m [] (t ∷ ts) h = absurd h
  bear_each m (p ∷ ps) [] h = absurd h
  bear_each m (p ∷ ps) (t ∷ ts) h =
      let a = sum_cons (occurrences m p) (map (occurrences m) ps) in
      let b = sum_cons (pattern_weight p) (map pattern_weight ps) in
      let rest = bear_each m ps ts h.1 in
      omega (arith, a, b, rest, h.0)

  instance_bears : (m : ℕ) (p : Pattern) (t : Term) → instance_by w k f p ≡ Some t → Bears m p t
  instance_bears m = instance_goes w k f (Bears m)
      (λ n t h. let one : pattern_weight (Var n) ≡ 1 = fold_var counts.weight_step n in once n (n == m) refl one)
      (λ n ty t h. let none : occurrences m (Const n ty) ≡ 0 = fold_const (occurrences_step m) n ty in omega (arith, none))
      (λ op to amount args t h each.
      let a = bear_each m args h.operands each in
      let b : pattern_weight (Node op to amount args) ≡ (row_of op).weight + sum (map pattern_weight args) = fold_node counts.weight_step op to amount args in
      let c : occurrences m (Node op to amount args) ≡ sum (map (occurrences m) args) = fold_node (occurrences_step m) op to amount args in
      omega (arith, a, b, c))
    where
      once : (n : ℕ) (b : Bool) → (n == m) ≡ b → pattern_weight (Var n) ≡ 1 → occurrences m (Var n) ≤ pattern_weight (Var n)
      once n true e one = let is : occurrences m (Var n) ≡ 1 = occurs_at V m n ∙ ap (λ c. if c then 1 else 0) e in omega (arith, is, one)
      once n false e one = let is : occurrences m (Var n) ≡ 0 = occurs_at V m n ∙ ap (λ c. if c then 1 else 0) e in omega (arith, is, one)

  -- of two instances over the same terms the one of a lighter pattern, in which no variable stands more often, is lighter
  pub instance_lighter : (p q : Pattern) (t u : Term) → instance_by w k f p ≡ Some t → instance_by w k f q ≡ Some u → (limit : ℕ) → min (pattern_weight q) limit < min (pattern_weight p) limit →
      ((n : ℕ) → n < N → min (occurrences n q) limit ≤ min (occurrences n p) limit) → weight_of u < weight_of t
  instance_lighter p q t u at_p at_q limit less few =
      let a = instance_weighs p t at_p in
      let b = instance_weighs q u at_q in
      let top = min-le_right (pattern_weight p) limit in
      let under : pattern_weight q < limit = low (pattern_weight q) limit (omega (arith, less, top)) in
      let is : min (pattern_weight q) limit ≡ pattern_weight q = min-eq_left (omega (arith, under)) in
      let more = min-le_left (pattern_weight p) limit in
      let each : (m : ℕ) → m < N → occurrences m q ≤ occurrences m p = λ m below.
      let small = instance_bears m q u at_q in
      let same : min (occurrences m q) limit ≡ occurrences m q = min-eq_left (omega (arith, small, under)) in
      let first = few m below in
      let last = min-le_left (occurrences m p) limit in
      omega (arith, same, first, last) in
      let added = extra_less V N q p each in
      omega (arith, a, b, is, more, less, added)
    where
      low : (n m : ℕ) → min n m < m → n < m
      low n m h = by (cases_lt n m)
        where
          by : (n < m) ⊎ (m ≤ n) → n < m
          by (inl under) = under
          by (inr over) = let all : min n m ≡ m = min-eq_right over in absurd (omega (arith, all, h))
