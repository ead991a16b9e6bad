-- What stands for the variables of a pattern, and when a node is a pattern's.
use Rattle.std.proofs.Common.{◌≡◌, refl, sym, ap, ◌∙◌, subst, ℕ, zero, suc, ◌+◌, ◌<◌, ◌≤◌, ◌==◌, ◌↔◌, pos, Bool, true, false, List, [], ◌∷◌, length, map, get_or, take, drop, ◌++◌, ◌-◌, Option, Some, None, arith, ◌⊎◌, inl, inr}
use Rattle.std.specs.Prelude.{All, IsSome, IsTrue, slice_get, sum, if◌then◌else◌}
use Rattle.std.proofs.lemmas.Bool.{eq-eqb, cases_eq}
use Rattle.std.proofs.lemmas.List.{drop_more, drop_all, take_all, length-map, length_push}
use Rattle.pf_ints.specs.declared.lane.LaneType.{LaneType}
use Rattle.pf_values.specs.declared.op.Op.{Op}
use Rattle.pf_values.specs.declared.op.Op.TheVariants.{SelectGreater, SelectEqual}
use Rattle.pf_values.specs.declared.row.Gives.{Gives}
use Rattle.pf_values.specs.declared.row.Gives.TheVariants.{Stated, First, Unsigned, Twice, SignedTwice, Third}
use Rattle.pf_values.specs.declared.term.Term.{Term}
use Rattle.pf_values.specs.declared.term.Term.TheVariants as term
use Rattle.pf_values.specs.Meaning.Operators.{row_of}
use Rattle.pf_values.specs.Meaning.Terms.{stated_type, result_type, operand_count, IsWellTyped}
use Rattle.pf_values.proofs.Typing.{same_self}
use Rattle.pf_values.proofs.NodeRanges.{judged, same_type_is}
use Rattle.pf_values.proofs.TermRanges.{AreTyped, IsTypedNode, typed_node}
use Rattle.pf_ints.specs.Meaning.Ranges.{Range, lies_in}
use Rattle.pf_bounds.specs.declared.kept.Bounds.{Bounds}
use Rattle.pf_bounds.specs.declared.ranges.Ranges.{Ranges}
use Rattle.pf_bounds.specs.Meaning.KeptBounds.{whole, marks}
use Rattle.pf_bounds.specs.Meaning.TermBounds.{operands}
use Rattle.pf_bounds.proofs.PlaceLaws.{operands_node, marks_interval}
use Rattle.pf_bounds.proofs.TermLaws.{counted}
use Rattle.pf_rules.specs.declared.number.Amount.{Amount as AmountOf}
use Rattle.pf_rules.specs.declared.pattern.PatType.{PatType}
use Rattle.pf_rules.specs.declared.pattern.Pattern.{Pattern}
use Rattle.pf_rules.specs.declared.pattern.Pattern.TheVariants.{Var, Node}
use Rattle.pf_rules.specs.declared.rule.VarDecl.{VarDecl}
use Rattle.pf_rules.specs.declared.shifts.Pair.{Pair}
use Rattle.pf_rules.specs.Meaning.Rules.{pair, range_at}
use Rattle.pf_rules.specs.Meaning.Counts.{occurrences, occurrences_step}
use Rattle.pf_rules.specs.Meaning.Numbers.{amount_at}
use Rattle.pf_rules.specs.Meaning.Sorts.{lane_at, stated_at, type_or, op_gives}
use Rattle.pf_rules.specs.Meaning.Instances.{all_of, node_over, instance_step, instance_by}
use Rattle.pf_rules.proofs.InstanceLaws.{fold_var, fold_const, fold_node, from_head, node_parts, node_made, node_same, AllBoth, instance_goes, occurs_var, sum_first}
use Rattle.pf_match.specs.Steps.Trials.{this_or, first_in, standing_step, standing, is_type, IsHead, IsBound, AreBoundFrom, AreTermsOf}

-- ---- what stands for a variable

standing_node : (n : ℕ) (op : Op) (to : Option PatType) (k : AmountOf) (args : List Pattern) (t : Term) → standing n (Node op to k args) t ≡ first_in (map (standing n) args) (operands t)
standing_node n op to k args t = ap (λ f. f t) (fold_node (standing_step n) op to k args)

module _ (w k : ℕ) (f : ℕ → Option Term) (n : ℕ) where
  -- where the variable stands in a pattern, its term stands there in the instance
  pub record Stands (p : Pattern) (t : Term) : Type 0 where
    pub nowhere : occurrences n p ≡ 0 → standing n p t ≡ None
    pub there : 1 ≤ occurrences n p → (x : Term) × (f n ≡ Some x) × (standing n p t ≡ Some x)

  none_stand : (ps : List Pattern) (ts : List Term) → AllBoth Stands ps ts → sum (map (occurrences n) ps) ≡ 0 → first_in (map (standing n) ps) ts ≡ None
  none_stand [] ts h e = refl
  none_stand (p ∷ ps) [] h e = refl
  none_stand (p ∷ ps) (t ∷ ts) h e = rw (h.0.nowhere (omega (arith, e, sum_first n p ps)), none_stand ps ts h.1 (omega (arith, e, sum_first n p ps))) refl

  some_stands : (ps : List Pattern) (ts : List Term) → AllBoth Stands ps ts → 1 ≤ sum (map (occurrences n) ps) → (x : Term) × (f n ≡ Some x) × (first_in (map (standing n) ps) ts ≡ Some x)
  some_stands [] ts h o = absurd (omega (arith, o))
  some_stands (p ∷ ps) [] h o = absurd h
  some_stands (p ∷ ps) (t ∷ ts) h o = by (occurrences n p) refl (some_stands ps ts h.1)
    where
      by : (c : ℕ) → occurrences n p ≡ c → (1 ≤ sum (map (occurrences n) ps) → (x : Term) × (f n ≡ Some x) × (first_in (map (standing n) ps) ts ≡ Some x)) → (x : Term) × (f n ≡ Some x) × (first_in (map (standing n) (p ∷ ps)) (t ∷ ts) ≡ Some x)
      by zero e later = let rest = later (omega (arith, e, o, sum_first n p ps)) in (rest.0, rest.1, rw (h.0.nowhere e) rest.2)
      by (suc c) e later = let here = h.0.there (omega (arith, e)) in (here.0, here.1, rw here.2 refl)

  pub instance_stands : (p : Pattern) (t : Term) → instance_by w k f p ≡ Some t → Stands p t
  instance_stands = instance_goes w k f Stands
      (λ m t h. record {
        nowhere = λ e. ap (λ g. g t) (fold_var (standing_step n) m) ∙ var_none m t (m == n) refl e;
        there = λ o. let is = occurs_var n m o in (t, ap f (sym is) ∙ h, ap (λ g. g t) (fold_var (standing_step n) m) ∙ rw (eq-eqb m n is) refl);
      })
      (λ c ty t h. record {
        nowhere = λ e. ap (λ g. g t) (fold_const (standing_step n) c ty);
        there = λ o. absurd (omega (arith, o, fold_const (occurrences_step n) c ty));
      })
      (λ op to amount args t h each.
      let at : operands t ≡ h.operands = operands_node t op _ h.k h.operands (sym h.is) in
      let whole : standing n (Node op to amount args) t ≡ first_in (map (standing n) args) h.operands = standing_node n op to amount args t ∙ ap (first_in (map (standing n) args)) at in
      let count : occurrences n (Node op to amount args) ≡ sum (map (occurrences n) args) = fold_node (occurrences_step n) op to amount args in
      record {
        nowhere = λ e. whole ∙ none_stand args h.operands each (sym count ∙ e);
        there = λ o. let found = some_stands args h.operands each (subst (λ c. 1 ≤ c) count o) in (found.0, found.1, whole ∙ found.2);
      })
    where
      var_none : (m : ℕ) (t : Term) (b : Bool) → (m == n) ≡ b → occurrences n (Var m) ≡ 0 → (if m == n then Some t else None) ≡ None
      var_none m t true e g = absurd (omega (arith, sym (fold_var (occurrences_step n) m ∙ ap (λ c. if c then 1 else 0) e) ∙ g))
      var_none m t false e g = rw e refl

-- ---- the head of a node

third_choice : (op : Op) → (row_of op).gives ≡ Third → operand_count (row_of op).operands ≡ 4
third_choice SelectGreater e = refl
third_choice SelectEqual e = refl
third_choice _ e = absurd (cc e)

-- a type that isn't stated follows from the operands'
same_result : (g : Gives) (a b : LaneType) (ts : List LaneType) → 1 ≤ length ts → (g ≡ Third → 3 ≤ length ts) → (g ≡ Stated → ⊥) → result_type g a ts ≡ result_type g b ts
same_result Stated a b ts some more other = absurd (other refl)
same_result g a b [] some more other = absurd (omega (arith, some))
same_result First a b (t ∷ ts) some more other = refl
same_result Unsigned a b (t ∷ ts) some more other = refl
same_result Twice a b (t ∷ ts) some more other = refl
same_result SignedTwice a b (t ∷ ts) some more other = refl
same_result Third a b (t ∷ []) some more other = absurd (omega (arith, more refl))
same_result Third a b (t ∷ u ∷ []) some more other = absurd (omega (arith, more refl))
same_result Third a b (t ∷ u ∷ v ∷ ts) some more other = refl

is_stated : (g : Gives) → (g ≡ Stated) ⊎ (g ≡ Stated → ⊥)
is_stated Stated = inl refl
is_stated First = inr (λ e. absurd (cc e))
is_stated Unsigned = inr (λ e. absurd (cc e))
is_stated Twice = inr (λ e. absurd (cc e))
is_stated SignedTwice = inr (λ e. absurd (cc e))
is_stated Third = inr (λ e. absurd (cc e))

type_given : (op : Op) (s : Option LaneType) (t : LaneType) (ts : List LaneType) → length ts ≡ operand_count (row_of op).operands → result_type (row_of op).gives t ts ≡ t → is_type (row_of op).gives (Some s) t ≡ true → op_gives op s ts ≡ t
type_given op s t ts count own h = by (is_stated (row_of op).gives)
  where
    by : ((row_of op).gives ≡ Stated) ⊎ ((row_of op).gives ≡ Stated → ⊥) → result_type (row_of op).gives (type_or s) ts ≡ t
    by (inl e) = rw e (same_type_is (type_or s) t (rw e at h))
    by (inr other) =
        let some = (counted (row_of op).operands (length ts) count).some in
        same_result (row_of op).gives (type_or s) t ts some (λ e. omega (arith, count, third_choice op e)) other ∙ own

given_type : (g : Gives) (s : Option LaneType) (ts : List LaneType) → is_type g (Some s) (result_type g (type_or s) ts) ≡ true
given_type Stated s ts = same_self (type_or s)
given_type First s ts = refl
given_type Unsigned s ts = refl
given_type Twice s ts = refl
given_type SignedTwice s ts = refl
given_type Third s ts = refl

module _ (w k : ℕ) (f : ℕ → Option Term) (p : Pattern) (op : Op) (to : Option PatType) (amount : AmountOf) (args : List Pattern) (is : p ≡ Node op to amount args)
    (t : Term) (other : Op) (ty : LaneType) (j : ℕ) (ts : List Term) (node : t ≡ term.Node other ty j ts) where
  instance_node : instance_by w k f p ≡ node_over op (stated_at w to) (amount_at w k amount) (all_of (map (instance_by w k f) args))
  instance_node = ap (instance_by w k f) is ∙ fold_node (instance_step w k f) op to amount args

  -- where the pattern's instance is the node, it has the node's head, and operands
  pub head_found : instance_by w k f p ≡ Some t → IsHead op (stated_at w to) (amount_at w k amount) other ty j × (all_of (map (instance_by w k f) args) ≡ Some ts)
  head_found h =
      let parts = node_parts op (stated_at w to) (amount_at w k amount) (all_of (map (instance_by w k f) args)) t (sym instance_node ∙ h) in
      let same = node_same op other _ ty parts.k j parts.operands ts (parts.is ∙ node) in
      let typed : is_type (row_of op).gives (Some parts.to) ty ≡ true = ap (is_type (row_of op).gives (Some parts.to)) (sym same.1) ∙ given_type (row_of op).gives parts.to (map stated_type parts.operands) in
      (record { same = same.0; typed = ap (λ s. is_type (row_of op).gives s ty) parts.stated ∙ typed; amount = parts.amount ∙ ap (λ i. Some (pos i)) same.2 }, parts.over ∙ ap Some same.3)

  -- and where a well-typed node has its head and operands, it is its instance
  pub head_given : IsWellTyped t → IsHead op (stated_at w to) (amount_at w k amount) other ty j → all_of (map (instance_by w k f) args) ≡ Some ts → instance_by w k f p ≡ Some t
  head_given typed head all = instance_node ∙ by (stated_at w to) refl head.typed
    where
      parts : IsTypedNode op ty j ts
      parts = typed_node op ty j ts (subst IsWellTyped (node ∙ ap (λ o. term.Node o ty j ts) (sym head.same)) typed)

      by : (s : Option (Option LaneType)) → stated_at w to ≡ s → is_type (row_of op).gives (stated_at w to) ty ≡ true → node_over op (stated_at w to) (amount_at w k amount) (all_of (map (instance_by w k f) args)) ≡ Some t
      by None e h = absurd (cc (ap (λ s. is_type (row_of op).gives s ty) (sym e) ∙ h))
      by (Some s) e h =
          let own = type_given op s ty (map stated_type ts) (length-map ts stated_type ∙ parts.count) (judged (row_of op) ty ty j (map stated_type ts) parts.node).0.result (ap (λ o. is_type (row_of op).gives o ty) (sym e) ∙ h) in
          node_made op (stated_at w to) (amount_at w k amount) (all_of (map (instance_by w k f) args)) s j ts ty e head.amount all own ∙ ap (λ o. Some (term.Node o ty j ts)) head.same ∙ ap Some (sym node)

-- ---- two lists, place by place

module _ {A B : Type 0} (f : A → Option B) (xs : List A) (ys : List B) (G : Type 0) where
  abbrev pub Rest : ℕ → Type 0
  Rest i = (all_of (map f (drop i xs)) ≡ Some (drop i ys)) ↔ G

  cut : (i : ℕ) (x : A) (y : B) → i < length xs → i < length ys → x ≡ get_or xs i x → y ≡ get_or ys i y →
      (drop i xs ≡ x ∷ drop (i + 1) xs) × (drop i ys ≡ y ∷ drop (i + 1) ys)
  cut i x y under below at of = (drop_more xs i x under ∙ ap (λ z. z ∷ drop (i + 1) xs) (sym at), drop_more ys i y below ∙ ap (λ z. z ∷ drop (i + 1) ys) (sym of))

  here : (i : ℕ) (x : A) (y : B) → drop i xs ≡ x ∷ drop (i + 1) xs → drop i ys ≡ y ∷ drop (i + 1) ys →
      (all_of (map f (drop i xs)) ≡ Some (drop i ys)) ↔ ((f x ≡ Some y) × (all_of (map f (drop (i + 1) xs)) ≡ Some (drop (i + 1) ys)))
  here i x y dx dy = (
    (λ h.
        let g : all_of (f x ∷ map f (drop (i + 1) xs)) ≡ Some (y ∷ drop (i + 1) ys) = ap (λ zs. all_of (map f zs)) (sym dx) ∙ h ∙ ap Some dy in
        let found = from_head (f x) (all_of (map f (drop (i + 1) xs))) (y ∷ drop (i + 1) ys) g in
        (found.2 ∙ ap Some (cc found.4), found.3 ∙ ap Some (cc found.4))),
    (λ h. ap (λ zs. all_of (map f zs)) dx ∙ rw (h.0, h.1) (ap Some (sym dy))),
  )

  pub rest_more : (i : ℕ) (x : A) (y : B) → Rest i → i < length xs → i < length ys → x ≡ get_or xs i x → y ≡ get_or ys i y → f x ≡ Some y → Rest (i + 1)
  rest_more i x y rest under below at of same =
      let c = cut i x y under below at of in
      let h = here i x y c.0 c.1 in
      ((λ more. rest.0 (h.1 (same, more))), (λ g. (h.0 (rest.1 g)).1))

  pub rest_not : (i : ℕ) (x : A) (y : B) → Rest i → i < length xs → i < length ys → x ≡ get_or xs i x → y ≡ get_or ys i y → (f x ≡ Some y → ⊥) → G → ⊥
  rest_not i x y rest under below at of fails g = let c = cut i x y under below at of in fails ((here i x y c.0 c.1).0 (rest.1 g)).0

  pub rest_none : (i : ℕ) → Rest i → length xs ≤ i → length xs ≡ length ys → G
  rest_none i rest past alike = rest.0 (rw (drop_all i xs past, drop_all i ys (omega (arith, past, alike))) refl)

-- ---- what stands for a variable, operand by operand

pub standing_start : (n : ℕ) (p : Pattern) (op : Op) (to : Option PatType) (k : AmountOf) (args xs : List Pattern) (t : Term) → p ≡ Node op to k args → xs ≡ args → first_in (map (standing n) xs) (operands t) ≡ standing n p t
standing_start n p op to k args xs t is same = ap (λ ys. first_in (map (standing n) ys) (operands t)) same ∙ sym (standing_node n op to k args t) ∙ ap (λ q. standing n q t) (sym is)

drop_some : {A : Type 0} (xs : List A) (i : ℕ) (x : A) → slice_get xs i ≡ Some x → drop i xs ≡ x ∷ drop (suc i) xs
drop_some [] i x e = absurd (cc e)
drop_some (y ∷ ys) zero x e = ap (λ z. z ∷ ys) (cc e)
drop_some (y ∷ ys) (suc i) x e = drop_some ys i x e

drop_none : {A : Type 0} (xs : List A) (i : ℕ) → slice_get xs i ≡ None → drop i xs ≡ []
drop_none [] zero e = refl
drop_none [] (suc i) e = refl
drop_none (y ∷ ys) zero e = absurd (cc e)
drop_none (y ∷ ys) (suc i) e = drop_none ys i e

module _ (f : Pattern → Term → Option Term) (ps : List Pattern) (ts : List Term) (whole : Option Term) where
  abbrev pub FirstFrom : ℕ → Type 0
  FirstFrom i = first_in (map f (drop i ps)) (drop i ts) ≡ whole

  next : (i : ℕ) (p : Pattern) (t : Term) → FirstFrom i → i < length ps → p ≡ get_or ps i p → slice_get ts i ≡ Some t → this_or (f p t) (first_in (map f (drop (i + 1) ps)) (drop (suc i) ts)) ≡ whole
  next i p t h below at is =
      let dp : drop i ps ≡ p ∷ drop (i + 1) ps = drop_more ps i p below ∙ ap (λ z. z ∷ drop (i + 1) ps) (sym at) in
      sym (ap (λ qs. first_in (map f qs) (drop i ts)) dp ∙ ap (first_in (map f (p ∷ drop (i + 1) ps))) (drop_some ts i t is)) ∙ h

  pub first_more : (i : ℕ) (p : Pattern) (t : Term) → FirstFrom i → i < length ps → p ≡ get_or ps i p → slice_get ts i ≡ Some t → f p t ≡ None → FirstFrom (i + 1)
  first_more i p t h below at is none =
      let e : i + 1 ≡ suc i = omega arith in
      ap (λ j. first_in (map f (drop (i + 1) ps)) (drop j ts)) e ∙ sym (ap (λ o. this_or o (first_in (map f (drop (i + 1) ps)) (drop (suc i) ts))) none) ∙ next i p t h below at is

  pub first_is : (i : ℕ) (p : Pattern) (t x : Term) → FirstFrom i → i < length ps → p ≡ get_or ps i p → slice_get ts i ≡ Some t → f p t ≡ Some x → Some x ≡ whole
  first_is i p t x h below at is some = sym (ap (λ o. this_or o (first_in (map f (drop (i + 1) ps)) (drop (suc i) ts))) some) ∙ next i p t h below at is

  pub first_over : (i : ℕ) → FirstFrom i → slice_get ts i ≡ None → None ≡ whole
  first_over i h is = by (drop i ps) (sym (ap (first_in (map f (drop i ps))) (drop_none ts i is)) ∙ h)
    where
      by : (qs : List Pattern) → first_in (map f qs) [] ≡ whole → None ≡ whole
      by [] e = e
      by (q ∷ qs) e = e

  pub first_past : (i : ℕ) → FirstFrom i → length ps ≤ i → None ≡ whole
  first_past i h past = sym (ap (λ qs. first_in (map f qs) (drop i ts)) (drop_all i ps past)) ∙ h

-- ---- equal terms

all_some : {A : Type 0} (xs : List A) → all_of (map Some xs) ≡ Some xs
all_some [] = refl
all_some (x ∷ xs) = rw (all_some xs) refl

pub equal_start : (a b : Term) (op other : Op) (ty u : LaneType) (k l : ℕ) (args xs terms : List Term) → a ≡ term.Node op ty k args → b ≡ term.Node other u l terms → xs ≡ args → op ≡ other → ty ≡ u → k ≡ l → Rest Some xs terms (a ≡ b) 0
equal_start a b op other ty u k l args xs terms left right same head types amounts = (
  (λ h.
      let all : args ≡ terms = cc (sym (all_some args) ∙ ap (λ ys. all_of (map Some ys)) (sym same) ∙ h) in
      left ∙ ap (λ o. term.Node o ty k args) head ∙ ap (λ v. term.Node other v k args) types ∙ ap (λ j. term.Node other u j args) amounts ∙ ap (term.Node other u l) all ∙ sym right),
  (λ e. all_some xs ∙ ap Some (same ∙ (node_same op other ty u k l args terms (sym left ∙ e ∙ right)).3)),
)

-- ---- variables inside their ranges

pub inside_told : (w k : ℕ) (ranges : Ranges) (d : VarDecl) (t : Term) (b : Bounds) (o : Option Range) (got : Range) (r : Bool) → marks ranges t ≡ Some b → lane_at w d.ty ≡ Some (stated_type t) → o ≡ range_at w k d → got ≡ whole b →
    IsTrue r ↔ ((s : Range) × (o ≡ Some s) × (lies_in got s ≡ true)) → IsTrue r ↔ IsBound (pair w k) ranges d t
inside_told w k ranges d t b o got r kept typed stated is h = (
  (λ x.
      let found = h.0 x in
      record {
        typed = typed;
        inside = record { got = got; stated = found.0; has = marks_interval ranges t b kept ∙ ap Some (sym is); of = sym stated ∙ found.1; within = found.2 };
      }),
  (λ y.
      let same : y.inside.got ≡ got = cc (sym y.inside.has ∙ marks_interval ranges t b kept ∙ ap Some (sym is)) in
      h.1 (y.inside.stated, stated ∙ y.inside.of, subst (λ g. lies_in g y.inside.stated ≡ true) same y.inside.within)),
)

module _ (p : Pair) (ranges : Ranges) (f : ℕ → Option Term) (n : ℕ) where
  tail_is : (d : VarDecl) (ds : List VarDecl) → take (length (d ∷ ds) - 1) (drop 1 (d ∷ ds)) ≡ ds
  tail_is d ds = take_all (length (d ∷ ds) - 1) ds (omega arith)

  pub inside_more : (ds : List VarDecl) (d : VarDecl) (t : Term) (r : Bool) → 1 ≤ length ds → d ≡ get_or ds 0 d → f n ≡ Some t → IsBound p ranges d t → IsTrue r ↔ AreBoundFrom p ranges f (n + 1) (take (length ds - 1) (drop 1 ds)) →
      IsTrue r ↔ AreBoundFrom p ranges f n ds
  inside_more [] d t r some at stands is h = absurd (omega (arith, some))
  inside_more (e ∷ es) d t r some at stands is h = (
    (λ x. ((t, stands, subst (λ c. IsBound p ranges c t) at is), subst (AreBoundFrom p ranges f (n + 1)) (tail_is e es) (h.0 x))),
    (λ y. h.1 (subst (AreBoundFrom p ranges f (n + 1)) (sym (tail_is e es)) y.1)),
  )

  pub inside_not : (ds : List VarDecl) (d : VarDecl) (t : Term) → 1 ≤ length ds → d ≡ get_or ds 0 d → f n ≡ Some t → (IsBound p ranges d t → ⊥) → AreBoundFrom p ranges f n ds → ⊥
  inside_not [] d t some at stands fails y = absurd (omega (arith, some))
  inside_not (e ∷ es) d t some at stands fails y =
      let same : y.0.0 ≡ t = cc (sym y.0.1 ∙ stands) in
      fails (subst (λ c. IsBound p ranges c t) (sym at) (subst (IsBound p ranges e) same y.0.2))

pub each_typed : (ts : List Term) → AreTyped ts → All (λ t. IsWellTyped t) ts
each_typed [] h i d below = absurd (omega (arith, below))
each_typed (t ∷ ts) h zero d below = h.0
each_typed (t ∷ ts) h (suc i) d below = each_typed ts h.1 i d (omega (arith, below))

pub operands_typed : (t : Term) (op : Op) (ty : LaneType) (k : ℕ) (ts : List Term) → t ≡ term.Node op ty k ts → IsWellTyped t → All (λ x. IsWellTyped x) ts
operands_typed t op ty k ts is typed = each_typed ts (typed_node op ty k ts (subst IsWellTyped is typed)).operands

-- ---- the terms of the first variables

get_before : {A : Type 0} (xs : List A) (x : A) (i : ℕ) → i < length xs → slice_get (xs ++ x ∷ []) i ≡ slice_get xs i
get_before [] x i below = absurd (omega (arith, below))
get_before (y ∷ xs) x zero below = refl
get_before (y ∷ xs) x (suc i) below = get_before xs x i (omega (arith, below))

get_last : {A : Type 0} (xs : List A) (x : A) → slice_get (xs ++ x ∷ []) (length xs) ≡ Some x
get_last [] x = refl
get_last (y ∷ xs) x = get_last xs x

pub terms_more : (f : ℕ → Option Term) (n : ℕ) (ts us : List Term) (t : Term) → AreTermsOf f n ts → f n ≡ Some t → us ≡ ts ++ t ∷ [] → AreTermsOf f (n + 1) us
terms_more f n ts us t h is longer = subst (AreTermsOf f (n + 1)) (sym longer) (record { many = length_push ts t ∙ ap (λ i. i + 1) h.many; each = each })
  where
    each : (m : ℕ) → m < n + 1 → slice_get (ts ++ t ∷ []) m ≡ f m
    each m below = by (cases_eq m n)
      where
        by : (m ≡ n) ⊎ (m ≡ n → ⊥) → slice_get (ts ++ t ∷ []) m ≡ f m
        by (inl e) = rw e (ap (slice_get (ts ++ t ∷ [])) (sym h.many) ∙ get_last ts t ∙ sym is)
        by (inr other) = get_before ts t m (omega (arith, below, other, h.many)) ∙ h.each m (omega (arith, below, other))

-- ---- tests

pub clash : (b : Bool) → b ≡ false → IsTrue b → ⊥
clash b e h = let both : false ≡ true = sym e ∙ h in absurd (cc both)

pub fails : {X : Type 0} → (X → ⊥) → IsTrue false ↔ X
fails other = ((λ h. absurd (cc h)), (λ x. absurd (other x)))

pub over_args : {A B : Type 0} (f : A → Option B) (xs args : List A) → xs ≡ args → all_of (map f args) ≡ all_of (map f xs)
over_args f xs args same = ap (λ ys. all_of (map f ys)) (sym same)

pub many_found : {A B : Type 0} (f : A → Option B) (xs : List A) (ys : List B) → all_of (map f xs) ≡ Some ys → length xs ≡ length ys
many_found f [] ys h = let none : [] ≡ ys = cc h in ap length none
many_found f (x ∷ xs) ys h =
    let found = from_head (f x) (all_of (map f xs)) ys h in
    ap suc (many_found f xs found.1 found.3) ∙ ap length found.4

pub none_there : {A : Type 0} (o : Option A) → o ≡ None → IsSome o → ⊥
none_there None e h = absurd (cc h)
none_there (Some x) e h = absurd (cc e)
