-- What holds of every pattern and its instance, node by node.
use Rattle.std.proofs.Common.{◌≡◌, refl, sym, ap, ◌∙◌, subst, ℕ, zero, suc, ◌+◌, ◌<◌, ◌≤◌, ◌==◌, ℤ, pos, negsuc, Bool, true, false, List, [], ◌∷◌, length, map, Option, Some, None, arith, eqb-true}
use Rattle.std.specs.Prelude.{option_and_then, option_map, slice_get, sum, if◌then◌else◌}
use Rattle.std.proofs.lemmas.Bool.{eq-eqb}
use Rattle.std.proofs.lemmas.List.Sums.{sum_by-cons}
use Rattle.pf_ints.specs.declared.lane.LaneType.{LaneType}
use Rattle.pf_values.specs.declared.op.Op.{Op}
use Rattle.pf_values.specs.declared.term.Leaf.TheVariants.{Const as Number}
use Rattle.pf_values.specs.declared.term.Term.{Term, out-Term, out-roll-Term}
use Rattle.pf_values.specs.declared.term.Term.TheVariants as term
use Rattle.pf_values.specs.declared.term.Term.TheOpen.{Term-F}
use Rattle.pf_values.specs.declared.term.Term.TheOpen.Term-F.{Leaf as LeafLayer, Node as TermLayer}
use Rattle.pf_values.specs.Meaning.Terms.{stated_type}
use Rattle.pf_laneops.specs.declared.lane_name.LaneName.{LaneName}
use Rattle.pf_rules.specs.declared.number.Amount.{Amount as AmountOf}
use Rattle.pf_rules.specs.declared.number.Number.{Number as NumberOf}
use Rattle.pf_rules.specs.declared.pattern.PatType.{PatType}
use Rattle.pf_rules.specs.declared.pattern.Pattern.{Pattern}
use Rattle.pf_rules.specs.declared.pattern.Pattern.TheVariants.{Var, Const, Node, Lane, rolls-Var, rolls-Const, rolls-Node, rolls-Lane}
use Rattle.pf_rules.specs.declared.pattern.Pattern.TheOpen.{Pattern-F}
use Rattle.pf_rules.specs.declared.pattern.Pattern.TheOpen.Pattern-F.{Var as VarLayer, Const as ConstLayer, Node as NodeLayer, Lane as LaneLayer}
use Rattle.pf_rules.specs.declared.pattern.Pattern.TheViews.{roll-Pattern}
use Rattle.pf_rules.specs.declared.pattern.Pattern.TheFolds.{fold-Pattern, fold-roll-Pattern, ind-Pattern, map-Pattern}
use Rattle.pf_rules.specs.Meaning.Counts.{occurrences, occurrences_step}
use Rattle.pf_rules.specs.Meaning.Numbers.{number_at, amount_at}
use Rattle.pf_rules.specs.Meaning.Sorts.{lane_at, stated_at, op_gives}
use Rattle.pf_rules.specs.Meaning.Instances.{all_of, number_leaf, node_over, instance_step, instance_by}

-- ---- a fold at each kind of node

pub fold_var : {A : Type 0} (step : Pattern-F A → A) (n : ℕ) → fold-Pattern A step (Var n) ≡ step (VarLayer n)
fold_var {A = A} step n = ap (fold-Pattern A step) (sym (rolls-Var n)) ∙ fold-roll-Pattern A step (VarLayer n)

pub fold_const : {A : Type 0} (step : Pattern-F A → A) (n : NumberOf) (ty : PatType) → fold-Pattern A step (Const n ty) ≡ step (ConstLayer n ty)
fold_const {A = A} step n ty = ap (fold-Pattern A step) (sym (rolls-Const n ty)) ∙ fold-roll-Pattern A step (ConstLayer n ty)

pub fold_node : {A : Type 0} (step : Pattern-F A → A) (op : Op) (to : Option PatType) (k : AmountOf) (args : List Pattern) → fold-Pattern A step (Node op to k args) ≡ step (NodeLayer op to k (map (fold-Pattern A step) args))
fold_node {A = A} step op to k args = ap (fold-Pattern A step) (sym (rolls-Node op to k args)) ∙ fold-roll-Pattern A step (NodeLayer op to k args)

pub fold_lane : {A : Type 0} (step : Pattern-F A → A) (op : LaneName) (to : Option PatType) (k : AmountOf) (args : List Pattern) → fold-Pattern A step (Lane op to k args) ≡ step (LaneLayer op to k (map (fold-Pattern A step) args))
fold_lane {A = A} step op to k args = ap (fold-Pattern A step) (sym (rolls-Lane op to k args)) ∙ fold-roll-Pattern A step (LaneLayer op to k args)

-- ---- what an instance is

pub from_head : {A : Type 0} (o : Option A) (p : Option (List A)) (xs : List A) → option_and_then (λ x. option_map (λ more. x ∷ more) p) o ≡ Some xs →
    (x : A) × (more : List A) × (o ≡ Some x) × (p ≡ Some more) × (x ∷ more ≡ xs)
from_head None p xs e = absurd (cc)
from_head (Some x) None xs e = absurd (cc)
from_head (Some x) (Some more) xs e = (x, more, refl, refl, cc)

pub record IsNumberLeaf (o : Option LaneType) (n : Option ℤ) (t : Term) : Type 0 where
  pub ty : LaneType
  pub number : ℤ
  pub typed : o ≡ Some ty
  pub has : n ≡ Some number
  pub is : term.Leaf (Number number) ty ≡ t

pub record IsNodeOver (op : Op) (s : Option (Option LaneType)) (a : Option ℤ) (o : Option (List Term)) (t : Term) : Type 0 where
  pub to : Option LaneType
  pub k : ℕ
  pub operands : List Term
  pub stated : s ≡ Some to
  pub amount : a ≡ Some (pos k)
  pub over : o ≡ Some operands
  pub is : term.Node op (op_gives op to (map stated_type operands)) k operands ≡ t

pub leaf_parts : (o : Option LaneType) (n : Option ℤ) (t : Term) → number_leaf o n ≡ Some t → IsNumberLeaf o n t
leaf_parts (Some ty) (Some n) t h = record { ty = ty; number = n; typed = refl; has = refl; is = cc }
leaf_parts (Some ty) None t h = absurd (cc)
leaf_parts None n t h = absurd (cc)

pub node_parts : (op : Op) (s : Option (Option LaneType)) (a : Option ℤ) (o : Option (List Term)) (t : Term) → node_over op s a o ≡ Some t → IsNodeOver op s a o t
node_parts op (Some to) (Some (pos k)) (Some ts) t h = record { to = to; k = k; operands = ts; stated = refl; amount = refl; over = refl; is = cc }
node_parts op (Some to) (Some (pos k)) None t h = absurd (cc)
node_parts op (Some to) (Some (negsuc k)) o t h = absurd (cc)
node_parts op (Some to) None o t h = absurd (cc)
node_parts op None a o t h = absurd (cc)

pub node_made : (op : Op) (s : Option (Option LaneType)) (a : Option ℤ) (o : Option (List Term)) (to : Option LaneType) (k : ℕ) (ts : List Term) (ty : LaneType) → s ≡ Some to → a ≡ Some (pos k) → o ≡ Some ts → op_gives op to (map stated_type ts) ≡ ty →
    node_over op s a o ≡ Some (term.Node op ty k ts)
node_made op s a o to k ts ty stated amount over own = rw (stated, amount, over, own) refl

-- ---- the induction

-- of patterns and terms, place by place
abbrev pub AllBoth : (Pattern → Term → Type 0) → List Pattern → List Term → Type 0
AllBoth P [] [] = Unit {0}
AllBoth P (p ∷ ps) (t ∷ ts) = P p t × AllBoth P ps ts
AllBoth P [] (t ∷ ts) = ⊥
AllBoth P (p ∷ ps) [] = ⊥

module _ (w k : ℕ) (terms : ℕ → Option Term) (P : Pattern → Term → Type 0)
    (at_var : (n : ℕ) (t : Term) → terms n ≡ Some t → P (Var n) t)
    (at_const : (n : NumberOf) (ty : PatType) (t : Term) → IsNumberLeaf (lane_at w ty) (number_at w k n) t → P (Const n ty) t)
    (at_node : (op : Op) (to : Option PatType) (amount : AmountOf) (args : List Pattern) (t : Term) (h : IsNodeOver op (stated_at w to) (amount_at w k amount) (all_of (map (instance_by w k terms) args)) t)
    → AllBoth P args h.operands → P (Node op to amount args) t) where
  abbrev Goes : Pattern → Type 0
  Goes p = (t : Term) → instance_by w k terms p ≡ Some t → P p t

  operands_go : (ps : List ((p : Pattern) × Goes p)) (ts : List Term) → all_of (map (instance_by w k terms) (map (λ p. p.0) ps)) ≡ Some ts → AllBoth P (map (λ p. p.0) ps) ts
  operands_go [] [] h = tt
  operands_go [] (t ∷ ts) h = absurd (cc)
  operands_go (p ∷ ps) ts h =
      let found = from_head (instance_by w k terms p.0) (all_of (map (instance_by w k terms) (map (λ q. q.0) ps))) ts h in
      subst (AllBoth P (map (λ q. q.0) (p ∷ ps))) found.4 (p.1 found.0 found.2, operands_go ps found.1 found.3)

  layer_goes : (y : Pattern-F ((p : Pattern) × Goes p)) → Goes (roll-Pattern (map-Pattern ((p : Pattern) × Goes p) Pattern (λ e. e.0) y))
  layer_goes (VarLayer n) = subst Goes (sym (rolls-Var n)) (λ t h. at_var n t (sym (fold_var (instance_step w k terms) n) ∙ h))
  layer_goes (ConstLayer n ty) = subst Goes (sym (rolls-Const n ty)) (λ t h. at_const n ty t (leaf_parts (lane_at w ty) (number_at w k n) t (sym (fold_const (instance_step w k terms) n ty) ∙ h)))
  layer_goes (NodeLayer op to amount ps) =
      let args = map (λ p. p.0) ps in
      subst Goes (sym (rolls-Node op to amount args)) (λ t h.
      let parts = node_parts op (stated_at w to) (amount_at w k amount) (all_of (map (instance_by w k terms) args)) t (sym (fold_node (instance_step w k terms) op to amount args) ∙ h) in
      at_node op to amount args t parts (operands_go ps parts.operands parts.over))
  layer_goes (LaneLayer op to amount ps) =
      let args = map (λ p. p.0) ps in
      subst Goes (sym (rolls-Lane op to amount args)) (λ t h. let none : None ≡ Some t = sym (fold_lane (instance_step w k terms) op to amount args) ∙ h in absurd (cc none))

  -- what holds of a variable with its term, of a number, and of a node where it holds of its operands, holds of a pattern and its instance
  pub instance_goes : (p : Pattern) → Goes p
  instance_goes = ind-Pattern Goes (λ x y is. subst (λ z. Goes (roll-Pattern z)) is (layer_goes y))

-- ---- variables

pub occurs_var : (m n : ℕ) → 1 ≤ occurrences m (Var n) → n ≡ m
occurs_var m n h = by (n == m) refl (subst (λ c. 1 ≤ c) (fold_var (occurrences_step m) n) h)
  where
    by : (b : Bool) → (n == m) ≡ b → 1 ≤ (if b then 1 else 0) → n ≡ m
    by true e g = eqb-true n m e
    by false e g = absurd (omega (arith, g))

pub occurs_self : (n : ℕ) → 1 ≤ occurrences n (Var n)
occurs_self n = subst (λ c. 1 ≤ c) (sym (fold_var (occurrences_step n) n ∙ ap (λ b. if b then 1 else 0) (eq-eqb n n refl))) (omega arith)

occurs_none : {A : Type 0} (m : ℕ) (n : NumberOf) (ty : PatType) → 1 ≤ occurrences m (Const n ty) → A
occurs_none m n ty h = absurd (omega (arith, h, fold_const (occurrences_step m) n ty))

occurs_in : (m : ℕ) (op : Op) (to : Option PatType) (k : AmountOf) (args : List Pattern) → occurrences m (Node op to k args) ≡ sum (map (occurrences m) args)
occurs_in m op to k args = fold_node (occurrences_step m) op to k args

pub sum_first : (n : ℕ) (p : Pattern) (ps : List Pattern) → sum (map (occurrences n) (p ∷ ps)) ≡ occurrences n p + sum (map (occurrences n) ps)
sum_first n p ps = sum_by-cons (λ c. c) (occurrences n p) (map (occurrences n) ps)

-- nodes that are one have the same parts
pub node_same : (o p : Op) (t u : LaneType) (j k : ℕ) (xs ys : List Term) → term.Node o t j xs ≡ term.Node p u k ys → (o ≡ p) × (t ≡ u) × (j ≡ k) × (xs ≡ ys)
node_same o p t u j k xs ys e =
    let layer : (q : Op) (v : LaneType) (n : ℕ) (zs : List Term) → out-Term (term.Node q v n zs) ≡ TermLayer q v n zs = λ q v n zs. ap out-Term (sym (term.rolls-Node q v n zs)) ∙ out-roll-Term (TermLayer q v n zs) in
    let same : TermLayer o t j xs ≡ TermLayer p u k ys = sym (layer o t j xs) ∙ ap out-Term e ∙ layer p u k ys in
    (cc same, cc same, cc same, cc same)

module _ (w k : ℕ) (f g : ℕ → Option Term) where
  -- terms that agree on the variables of a pattern make one instance
  abbrev Agrees : Pattern → Term → Type 0
  Agrees p t = ((n : ℕ) → 1 ≤ occurrences n p → f n ≡ g n) → instance_by w k g p ≡ Some t

  agree_each : (ps : List Pattern) (ts : List Term) → AllBoth Agrees ps ts → ((n : ℕ) → 1 ≤ sum (map (occurrences n) ps) → f n ≡ g n) → all_of (map (instance_by w k g) ps) ≡ Some ts
  agree_each [] [] h same = refl
  agree_each [] (t ∷ ts) h same = absurd h
  agree_each (p ∷ ps) [] h same = absurd h
  agree_each (p ∷ ps) (t ∷ ts) h same =
      let first = h.0 (λ n o. same n (omega (arith, o, sum_first n p ps))) in
      let rest = agree_each ps ts h.1 (λ n o. same n (omega (arith, o, sum_first n p ps))) in
      rw (first, rest) refl

  pub instance_agrees : (p : Pattern) (t : Term) → instance_by w k f p ≡ Some t → Agrees p t
  instance_agrees = instance_goes w k f Agrees
      (λ n t h same. fold_var (instance_step w k g) n ∙ sym (same n (occurs_self n)) ∙ h)
      (λ n ty t h same. fold_const (instance_step w k g) n ty ∙ rw (h.typed, h.has) (ap Some h.is))
      (λ op to amount args t h each same.
      let all = agree_each args h.operands each (λ n o. same n (subst (λ c. 1 ≤ c) (sym (occurs_in n op to amount args)) o)) in
      fold_node (instance_step w k g) op to amount args ∙ rw (h.stated, h.amount, all) (ap Some h.is))

  -- an instance tells the terms of the pattern's variables
  abbrev Tells : Pattern → Term → Type 0
  Tells p t = instance_by w k g p ≡ Some t → (n : ℕ) → 1 ≤ occurrences n p → f n ≡ g n

  tell_each : (ps : List Pattern) (ts : List Term) → AllBoth Tells ps ts → all_of (map (instance_by w k g) ps) ≡ Some ts → (n : ℕ) → 1 ≤ sum (map (occurrences n) ps) → f n ≡ g n
  tell_each [] ts h all n o = absurd (omega (arith, o))
  tell_each (p ∷ ps) [] h all n o = absurd h
  tell_each (p ∷ ps) (t ∷ ts) h all n o =
      let found = from_head (instance_by w k g p) (all_of (map (instance_by w k g) ps)) (t ∷ ts) all in
      let first : found.0 ≡ t = cc found.4 in
      let more : found.1 ≡ ts = cc found.4 in
      by (occurrences n p) refl (h.0 (found.2 ∙ ap Some first)) (tell_each ps ts h.1 (found.3 ∙ ap Some more) n)
    where
      by : (c : ℕ) → occurrences n p ≡ c → ((m : ℕ) → 1 ≤ occurrences m p → f m ≡ g m) → (1 ≤ sum (map (occurrences n) ps) → f n ≡ g n) → f n ≡ g n
      by zero e here there = there (omega (arith, e, o, sum_first n p ps))
      by (suc c) e here there = here n (omega (arith, e))

  pub instance_tells : (p : Pattern) (t : Term) → instance_by w k f p ≡ Some t → Tells p t
  instance_tells = instance_goes w k f Tells
      (λ m t h other n o. let is = occurs_var n m o in rw (sym is) (h ∙ sym (sym (fold_var (instance_step w k g) m) ∙ other)))
      (λ m ty t h other n o. occurs_none n m ty o)
      (λ op to amount args t h each other n o.
      let parts = node_parts op (stated_at w to) (amount_at w k amount) (all_of (map (instance_by w k g) args)) t (sym (fold_node (instance_step w k g) op to amount args) ∙ other) in
      let same = node_same op op _ _ parts.k h.k parts.operands h.operands (parts.is ∙ sym h.is) in
      tell_each args h.operands each (parts.over ∙ ap Some same.3) n (subst (λ c. 1 ≤ c) (occurs_in n op to amount args) o))

-- what holds of each, one after another
abbrev pub Each : (Term → Type 0) → List Term → Type 0
Each Q [] = Unit {0}
Each Q (t ∷ ts) = Q t × Each Q ts

module _ (w k : ℕ) (f : ℕ → Option Term) (Q : Term → Type 0) where
  -- what holds of an instance and goes over to operands holds of the variables' terms
  abbrev Hands : Pattern → Term → Type 0
  Hands p t = Q t → (n : ℕ) → 1 ≤ occurrences n p → (x : Term) → f n ≡ Some x → Q x

  hand_each : (ps : List Pattern) (ts : List Term) → AllBoth Hands ps ts → Each Q ts → (n : ℕ) → 1 ≤ sum (map (occurrences n) ps) → (x : Term) → f n ≡ Some x → Q x
  hand_each [] ts h all n o x e = absurd (omega (arith, o))
  hand_each (p ∷ ps) [] h all n o x e = absurd h
  hand_each (p ∷ ps) (t ∷ ts) h all n o x e = by (occurrences n p) refl (h.0 all.0 n) (hand_each ps ts h.1 all.1 n)
    where
      by : (c : ℕ) → occurrences n p ≡ c → (1 ≤ occurrences n p → (y : Term) → f n ≡ Some y → Q y) → (1 ≤ sum (map (occurrences n) ps) → (y : Term) → f n ≡ Some y → Q y) → Q x
      by zero c here there = there (omega (arith, c, o, sum_first n p ps)) x e
      by (suc m) c here there = here (omega (arith, c)) x e

  pub instance_hands : ((op : Op) (ty : LaneType) (j : ℕ) (ts : List Term) → Q (term.Node op ty j ts) → Each Q ts) → (p : Pattern) (t : Term) → instance_by w k f p ≡ Some t → Hands p t
  instance_hands down = instance_goes w k f Hands
      (λ m t h holds n o x e. let is = occurs_var n m o in let same : t ≡ x = cc (sym h ∙ ap f is ∙ e) in subst Q same holds)
      (λ m ty t h holds n o x e. occurs_none n m ty o)
      (λ op to amount args t h each holds n o.
      hand_each args h.operands each (down op _ h.k h.operands (subst Q (sym h.is) holds)) n (subst (λ c. 1 ≤ c) (occurs_in n op to amount args) o))

  -- what holds of the variables' terms and of numbers, and of nodes over such, holds of an instance
  abbrev Gets : Pattern → Term → Type 0
  Gets p t = ((n : ℕ) → 1 ≤ occurrences n p → (x : Term) → f n ≡ Some x → Q x) → Q t

  get_each : (ps : List Pattern) (ts : List Term) → AllBoth Gets ps ts → ((n : ℕ) → 1 ≤ sum (map (occurrences n) ps) → (x : Term) → f n ≡ Some x → Q x) → Each Q ts
  get_each [] [] h all = tt
  get_each [] (t ∷ ts) h all = absurd h
  get_each (p ∷ ps) [] h all = absurd h
  get_each (p ∷ ps) (t ∷ ts) h all = (h.0 (λ n o. all n (omega (arith, o, sum_first n p ps))), get_each ps ts h.1 (λ n o. all n (omega (arith, o, sum_first n p ps))))

  pub instance_gets : ((n : ℤ) (ty : LaneType) → Q (term.Leaf (Number n) ty)) → ((op : Op) (ty : LaneType) (j : ℕ) (ts : List Term) → Each Q ts → Q (term.Node op ty j ts)) →
      (p : Pattern) (t : Term) → instance_by w k f p ≡ Some t → Gets p t
  instance_gets number up = instance_goes w k f Gets
      (λ n t h all. all n (occurs_self n) t h)
      (λ n ty t h all. subst Q h.is (number h.number h.ty))
      (λ op to amount args t h each all. subst Q h.is (up op _ h.k h.operands (get_each args h.operands each (λ n o. all n (subst (λ c. 1 ≤ c) (sym (occurs_in n op to amount args)) o)))))
