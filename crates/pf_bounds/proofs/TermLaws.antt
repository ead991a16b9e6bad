-- The interval of a well-typed term exists, lies in its type, and holds its value.
use Rattle.std.proofs.Common.{◌≡◌, refl, sym, ap, ◌∙◌, subst, ℕ, zero, suc, ◌+◌, ◌<◌, ◌≤◌, ℤ, pos, ◌≤ℤ◌, Bool, true, List, [], ◌∷◌, length, map, get_or, Option, Some, None, All, arith}
use Rattle.std.specs.Prelude.{option_and_then, option_map, slice_get, slice_index_or, nat_le, int_le, IsSome}
use Rattle.std.proofs.lemmas.Bool.{and_parts}
use Rattle.std.proofs.lemmas.Int.{ints}
use Rattle.std.proofs.lemmas.List.{length-map}
use borrow.Author.Tests.{leb-true}
use Rattle.pf_ints.specs.declared.lane.LaneType.{LaneType}
use Rattle.pf_ints.specs.declared.lane.Bits.{Bits}
use Rattle.pf_ints.specs.declared.lane.Bits.TheVariants.{Eight, Sixteen, ThirtyTwo}
use Rattle.pf_ints.specs.Meaning.Lanes.{bit_count, is_in, least, greatest}
use Rattle.pf_ints.proofs.RangeLaws.{within_some, is_range_lane}
use Rattle.pf_values.specs.declared.row.Operands.{Operands}
use Rattle.pf_values.specs.declared.row.Operands.TheVariants.{One, OneSigned, Alike, Narrow, WideFirst, Choice}
use Rattle.pf_ints.specs.Meaning.Ranges.{Range, IsRange, Includes, range, within, lies_in, lane_range}
use Rattle.pf_values.specs.declared.op.Op.{Op}
use Rattle.pf_values.specs.declared.row.Amounts.{Amounts}
use Rattle.pf_values.specs.declared.row.Amounts.TheVariants.{Without, Shift, RoundingShift, Product, RoundingProduct}
use Rattle.pf_values.specs.declared.term.Env.{Env}
use Rattle.pf_values.specs.declared.term.Leaf.{Leaf as LeafOf}
use Rattle.pf_values.specs.declared.term.Leaf.TheVariants.{Tap, Const, Def}
use Rattle.pf_values.specs.declared.term.Term.{Term}
use Rattle.pf_values.specs.declared.term.Term.TheVariants.{Leaf, Node, rolls-Leaf, rolls-Node}
use Rattle.pf_values.specs.declared.term.Term.TheOpen.{Term-F}
use Rattle.pf_values.specs.declared.term.Term.TheOpen.Term-F.{Leaf as LeafLayer, Node as NodeLayer}
use Rattle.pf_values.specs.declared.term.Term.TheViews.{roll-Term}
use Rattle.pf_values.specs.declared.term.Term.TheFolds.{fold-Term, fold-roll-Term, ind-Term, map-Term}
use Rattle.pf_values.specs.Meaning.Operators.{row_of}
use Rattle.pf_values.specs.Meaning.Terms.{all_true, is_well_formed, is_formed_leaf, stated_type, Val, leaf_value, IsWellTyped, operand_count, is_amount, least_amount, greatest_amount, first_width, depth_of, depth_step, greatest_of}
use Rattle.pf_values.proofs.Typing.{all_true_at}
use Rattle.pf_values.proofs.NodeParts.{node_formed}
use Rattle.pf_values.proofs.NodeRanges.{judged, IsJudged}
use Rattle.pf_values.proofs.TermRanges.{AreTyped, typed_node, stated_node, stated_leaf, value_node, value_leaf, formed_leaf}
use Rattle.pf_forms.specs.Meaning.Shapes.{Shape}
use Rattle.pf_forms.specs.Meaning.Shapes as form
use Rattle.pf_forms.specs.Meaning.Values.{FVal}
use Rattle.pf_forms.proofs.BoundLaws.{value_in}
use Rattle.pf_templates.specs.Meaning.Templates.{at}
use Rattle.pf_laneops.specs.Meaning.Formulas.{formula, vars, operand}
use Rattle.pf_laneops.proofs.ValueLaws.{value_over, formula_value}
use Rattle.pf_bounds.specs.declared.ranges.Ranges.{Ranges}
use Rattle.pf_bounds.specs.Meaning.TermBounds.{leaf_range, row_range, all_of, interval_step, interval_of, ranged_step, is_ranged_leaf, are_ranges_of, lies_in_type, IsWithin}
use Rattle.pf_bounds.proofs.Narrowing.{Under, AreUnder, Found, lies_true, lies_low, lies_high, within_kept}
use Rattle.pf_bounds.proofs.WholeTypes.{row_found}

-- each definition at a leaf and at a node
pub interval_leaf : (ranges : Ranges) (leaf : LeafOf) (ty : LaneType) → interval_of ranges (Leaf leaf ty) ≡ leaf_range ranges leaf
interval_leaf ranges leaf ty = ap (interval_of ranges) (sym (rolls-Leaf leaf ty)) ∙ fold-roll-Term (Option Range) (interval_step ranges) (LeafLayer leaf ty)

pub interval_node : (ranges : Ranges) (op : Op) (ty : LaneType) (k : ℕ) (args : List Term) → interval_of ranges (Node op ty k args) ≡ option_and_then (row_range op ty k) (all_of (map (interval_of ranges) args))
interval_node ranges op ty k args = ap (interval_of ranges) (sym (rolls-Node op ty k args)) ∙ fold-roll-Term (Option Range) (interval_step ranges) (NodeLayer op ty k args)

pub ranged_leaf : (ranges : Ranges) (leaf : LeafOf) (ty : LaneType) → are_ranges_of ranges (Leaf leaf ty) ≡ is_ranged_leaf ranges leaf ty
ranged_leaf ranges leaf ty = ap (are_ranges_of ranges) (sym (rolls-Leaf leaf ty)) ∙ fold-roll-Term Bool (ranged_step ranges) (LeafLayer leaf ty)

pub ranged_node : (ranges : Ranges) (op : Op) (ty : LaneType) (k : ℕ) (args : List Term) → are_ranges_of ranges (Node op ty k args) ≡ all_true (map (are_ranges_of ranges) args)
ranged_node ranges op ty k args = ap (are_ranges_of ranges) (sym (rolls-Node op ty k args)) ∙ fold-roll-Term Bool (ranged_step ranges) (NodeLayer op ty k args)

-- ---- amounts
pub first_below : (ts : List LaneType) → first_width ts ≤ 32
first_below [] = omega arith
first_below (t ∷ ts) = by t.bits
  where
    by : (b : Bits) → bit_count b ≤ 32
    by Eight = omega arith
    by Sixteen = omega arith
    by ThirtyTwo = omega arith

pub amount_below : (a : Amounts) (w k : ℕ) → w ≤ 32 → is_amount a w k ≡ true → k < 64
amount_below a w k h is =
    let most : k ≤ greatest_amount a w = leb-true k (greatest_amount a w) (and_parts (nat_le (least_amount a) k) _ is).1 in
    by a most
  where
    by : (a : Amounts) → k ≤ greatest_amount a w → k < 64
    by Without up = omega arith
    by Shift up = omega arith
    by RoundingShift up = omega arith
    by Product up = omega arith
    by RoundingProduct up = omega arith

-- ---- a node's operands, with what their bounds ask for
pub record IsReady (ranges : Ranges) (op : Op) (ty : LaneType) (k : ℕ) (xs : List Term) : Type 0 where
  pub typed : All (λ t. IsWellTyped t) xs
  pub ranged : All (λ t. are_ranges_of ranges t ≡ true) xs
  pub count : length xs ≡ operand_count (row_of op).operands
  pub amount : k < 64
  pub judged : IsJudged (row_of op) ty k (map stated_type xs)

typed_each : (ts : List Term) → AreTyped ts → All (λ t. IsWellTyped t) ts
typed_each [] h k d below = absurd (omega arith)
typed_each (t ∷ ts) h zero d below = h.0
typed_each (t ∷ ts) h (suc k) d below = typed_each ts h.1 k d (omega arith)

ready_node : (ranges : Ranges) (op : Op) (ty : LaneType) (k : ℕ) (args : List Term) → IsWellTyped (Node op ty k args) → are_ranges_of ranges (Node op ty k args) ≡ true → IsReady ranges op ty k args
ready_node ranges op ty k args typed h =
    let parts = typed_node op ty k args typed in
    let all = sym (ranged_node ranges op ty k args) ∙ h in
    let j = (judged (row_of op) ty ty k (map stated_type args) parts.node).0 in
    record {
      typed = typed_each args parts.operands;
      ranged = λ i d below. all_true_at (are_ranges_of ranges) args i d all below;
      count = parts.count;
      amount = amount_below (row_of op).amounts (first_width (map stated_type args)) k (first_below (map stated_type args)) j.amount;
      judged = j;
    }

pub ready : (ranges : Ranges) (t : Term) (op : Op) (ty : LaneType) (k : ℕ) (args xs : List Term) → t ≡ Node op ty k args → xs ≡ args → IsWellTyped t → are_ranges_of ranges t ≡ true → IsReady ranges op ty k xs
ready ranges t op ty k args xs is same typed h =
    subst (IsReady ranges op ty k) (sym same) (ready_node ranges op ty k args (subst IsWellTyped is typed) (ap (are_ranges_of ranges) (sym is) ∙ h))

pub each_typed : (xs : List Term) (i : ℕ) (x : Term) → All (λ t. IsWellTyped t) xs → i < length xs → x ≡ get_or xs i x → IsWellTyped x
each_typed xs i x h below is = subst IsWellTyped (sym is) (h i x below)

pub each_ranged : (ranges : Ranges) (xs : List Term) (i : ℕ) (x : Term) → All (λ t. are_ranges_of ranges t ≡ true) xs → i < length xs → x ≡ get_or xs i x → are_ranges_of ranges x ≡ true
each_ranged ranges xs i x h below is = subst (λ t. are_ranges_of ranges t ≡ true) (sym is) (h i x below)

-- ---- an operand is less deep
depth_node : (op : Op) (ty : LaneType) (k : ℕ) (args : List Term) → depth_of (Node op ty k args) ≡ 1 + greatest_of (map depth_of args)
depth_node op ty k args = ap depth_of (sym (rolls-Node op ty k args)) ∙ fold-roll-Term ℕ depth_step (NodeLayer op ty k args)

among_all : (xs : List Term) (m : ℕ) (x : Term) → m < length xs → x ≡ get_or xs m x → depth_of x ≤ greatest_of (map depth_of xs)
among_all [] m x below is = absurd (omega arith)
among_all (y ∷ ys) zero x below is = let same : x ≡ y = is in omega (arith, ap depth_of same)
among_all (y ∷ ys) (suc m) x below is = omega (arith, among_all ys m x (omega arith) is)

pub operand_smaller : (t : Term) (op : Op) (ty : LaneType) (k : ℕ) (args xs : List Term) (m : ℕ) (x : Term) → t ≡ Node op ty k args → xs ≡ args → m < length xs → x ≡ get_or xs m x → depth_of x < depth_of t
operand_smaller t op ty k args xs m x is same below at =
    omega (arith, ap depth_of is, depth_node op ty k args, ap (λ ys. greatest_of (map depth_of ys)) same, among_all xs m x below at)

-- ---- intervals that are found
pub record IsFound (ranges : Ranges) (t : Term) (r : Range) : Type 0 where
  pub value : interval_of ranges t ≡ Some r
  pub kept : IsRange r
  pub member : lies_in r (lane_range (stated_type t)) ≡ true

abbrev pub AreFound : Ranges → List Term → List Range → Type 0
AreFound ranges [] [] = Unit {0}
AreFound ranges (t ∷ ts) (r ∷ rs) = IsFound ranges t r × AreFound ranges ts rs
AreFound ranges [] (r ∷ rs) = ⊥
AreFound ranges (t ∷ ts) [] = ⊥

all_found : (ranges : Ranges) (ts : List Term) (rs : List Range) → AreFound ranges ts rs → all_of (map (interval_of ranges) ts) ≡ Some rs
all_found ranges [] [] h = refl
all_found ranges [] (r ∷ rs) h = absurd h
all_found ranges (t ∷ ts) [] h = absurd h
all_found ranges (t ∷ ts) (r ∷ rs) h = rw (h.0.value, all_found ranges ts rs h.1) refl

under_found : (ranges : Ranges) (ts : List Term) (rs : List Range) → AreFound ranges ts rs → AreUnder rs (map lane_range (map stated_type ts))
under_found ranges [] [] h = tt
under_found ranges [] (r ∷ rs) h = absurd h
under_found ranges (t ∷ ts) [] h = absurd h
under_found ranges (t ∷ ts) (r ∷ rs) h =
    let whole = lane_range (stated_type t) in
    (record { kept = h.0.kept; low = lies_low r whole h.0.member; high = lies_high r whole h.0.member }, under_found ranges ts rs h.1)

node_found : (ranges : Ranges) (op : Op) (ty : LaneType) (k : ℕ) (xs : List Term) (rs : List Range) → IsReady ranges op ty k xs → AreFound ranges xs rs → Found (row_range op ty k rs) (lane_range ty)
node_found ranges op ty k xs rs h found =
    row_found op ty k (map stated_type xs) rs (length-map xs stated_type ∙ h.count) h.amount h.judged (under_found ranges xs rs found)

pub node_some : (ranges : Ranges) (op : Op) (ty : LaneType) (k : ℕ) (xs : List Term) (rs : List Range) (o : Option Range) → IsReady ranges op ty k xs → AreFound ranges xs rs → o ≡ row_range op ty k rs → IsSome o
node_some ranges op ty k xs rs o h found e = let f = node_found ranges op ty k xs rs h found in rw (e, f.is) refl

pub same_some : (r s : Range) → ◌≡◌ {A = Option Range} (Some r) (Some s) → r ≡ s
same_some r s e = cc

pub node_told : (ranges : Ranges) (t : Term) (op : Op) (ty : LaneType) (k : ℕ) (args xs : List Term) (rs : List Range) (o : Option Range) (g : Range) →
    t ≡ Node op ty k args → xs ≡ args → IsReady ranges op ty k xs → AreFound ranges xs rs → o ≡ row_range op ty k rs → o ≡ Some g → IsFound ranges t g
node_told ranges t op ty k args xs rs o g is same h found e some =
    let f = node_found ranges op ty k xs rs h found in
    let at_g : f.range ≡ g = same_some f.range g (sym f.is ∙ sym e ∙ some) in
    let all : all_of (map (interval_of ranges) args) ≡ Some rs = ap (λ ys. all_of (map (interval_of ranges) ys)) (sym same) ∙ all_found ranges xs rs found in
    let under : Under g (lane_range ty) = subst (λ r. Under r (lane_range ty)) at_g f.under in
    let stated : stated_type t ≡ ty = ap stated_type is ∙ stated_node op ty k args in
    record {
      value = ap (interval_of ranges) is ∙ interval_node ranges op ty k args ∙ ap (option_and_then (row_range op ty k)) all ∙ sym e ∙ some;
      kept = under.kept;
      member = rw stated (lies_true g (lane_range ty) under.low under.high);
    }

pub leaf_told : (ranges : Ranges) (t : Term) (leaf : LeafOf) (ty : LaneType) (r : Range) → t ≡ Leaf leaf ty → leaf_range ranges leaf ≡ Some r → IsRange r → lies_in r (lane_range ty) ≡ true → IsFound ranges t r
leaf_told ranges t leaf ty r is value kept member = record {
  value = ap (interval_of ranges) is ∙ interval_leaf ranges leaf ty ∙ value;
  kept = kept;
  member = rw (is, stated_leaf leaf ty) member;
}

pub leaf_ranged : (ranges : Ranges) (t : Term) (leaf : LeafOf) (ty : LaneType) → t ≡ Leaf leaf ty → are_ranges_of ranges t ≡ true → is_ranged_leaf ranges leaf ty ≡ true
leaf_ranged ranges t leaf ty is h = sym (ranged_leaf ranges leaf ty) ∙ ap (are_ranges_of ranges) (sym is) ∙ h

pub leaf_formed : (t : Term) (leaf : LeafOf) (ty : LaneType) → t ≡ Leaf leaf ty → IsWellTyped t → is_formed_leaf leaf ty ≡ true
leaf_formed t leaf ty is h = sym (formed_leaf leaf ty) ∙ ap is_well_formed (sym is) ∙ h.formed

below_is : (a b : ℤ) → int_le a b ≡ true → a ≤ℤ b
below_is a b h = grind (arith, ints)

-- a constant alone lies in its type
pub const_member : (ty : LaneType) (n : ℤ) (r : Range) → within (range n n) ≡ Some r → is_in ty n ≡ true → lies_in r (lane_range ty) ≡ true
const_member ty n r e h =
    let p = and_parts (int_le (least ty) n) (int_le n (greatest ty)) h in
    subst (λ s. lies_in s (lane_range ty) ≡ true) (within_some (range n n) r e).1 (lies_true (range n n) (lane_range ty) (below_is (least ty) n p.0) (below_is n (greatest ty) p.1))

pub const_kept : (ty : LaneType) (n : ℤ) → is_in ty n ≡ true → IsRange (range n n)
const_kept ty n h =
    let p = and_parts (int_le (least ty) n) (int_le n (greatest ty)) h in
    let near = is_range_lane ty in
    record {
      low = omega (arith, ints, near.low, below_is (least ty) n p.0);
      ordered = omega (arith, ints);
      high = omega (arith, ints, near.high, below_is n (greatest ty) p.1);
    }

-- how many operands there can be
pub record IsCount (n : ℕ) : Type 0 where
  pub some : 1 ≤ n
  pub most : n ≤ 4
  pub other : n ≡ 3 → ⊥

pub counted : (o : Operands) (n : ℕ) → n ≡ operand_count o → IsCount n
counted One n e = record { some = omega (arith, e); most = omega (arith, e); other = λ d. omega (arith, d, e) }
counted OneSigned n e = record { some = omega (arith, e); most = omega (arith, e); other = λ d. omega (arith, d, e) }
counted Alike n e = record { some = omega (arith, e); most = omega (arith, e); other = λ d. omega (arith, d, e) }
counted Narrow n e = record { some = omega (arith, e); most = omega (arith, e); other = λ d. omega (arith, d, e) }
counted WideFirst n e = record { some = omega (arith, e); most = omega (arith, e); other = λ d. omega (arith, d, e) }
counted Choice n e = record { some = omega (arith, e); most = omega (arith, e); other = λ d. omega (arith, d, e) }

-- ---- lists by their places
pub found_one : (ranges : Ranges) (xs : List Term) (x : Term) (r : Range) → length xs ≡ 1 → x ≡ get_or xs 0 x → IsFound ranges x r → AreFound ranges xs (r ∷ [])
found_one ranges [] x r n e h = absurd (omega arith)
found_one ranges (a ∷ []) x r n e h = (subst (λ t. IsFound ranges t r) e h, tt)
found_one ranges (a ∷ b ∷ xs) x r n e h = absurd (omega arith)

pub found_two : (ranges : Ranges) (xs : List Term) (x y : Term) (r s : Range) → length xs ≡ 2 → x ≡ get_or xs 0 x → y ≡ get_or xs 1 y → IsFound ranges x r → IsFound ranges y s → AreFound ranges xs (r ∷ s ∷ [])
found_two ranges [] x y r s n d e h k = absurd (omega arith)
found_two ranges (a ∷ []) x y r s n d e h k = absurd (omega arith)
found_two ranges (a ∷ b ∷ []) x y r s n d e h k = (subst (λ t. IsFound ranges t r) d h, (subst (λ t. IsFound ranges t s) e k, tt))
found_two ranges (a ∷ b ∷ c ∷ xs) x y r s n d e h k = absurd (omega arith)

pub found_four : (ranges : Ranges) (xs : List Term) (x y z w : Term) (r s t u : Range) → length xs ≡ 4 → x ≡ get_or xs 0 x → y ≡ get_or xs 1 y → z ≡ get_or xs 2 z → w ≡ get_or xs 3 w →
    IsFound ranges x r → IsFound ranges y s → IsFound ranges z t → IsFound ranges w u → AreFound ranges xs (r ∷ s ∷ t ∷ u ∷ [])
found_four ranges [] x y z w r s t u n d e f g h i j k = absurd (omega arith)
found_four ranges (a ∷ []) x y z w r s t u n d e f g h i j k = absurd (omega arith)
found_four ranges (a ∷ b ∷ []) x y z w r s t u n d e f g h i j k = absurd (omega arith)
found_four ranges (a ∷ b ∷ c ∷ []) x y z w r s t u n d e f g h i j k = absurd (omega arith)
found_four ranges (a ∷ b ∷ c ∷ l ∷ []) x y z w r s t u n d e f g h i j k =
    (subst (λ v. IsFound ranges v r) d h, (subst (λ v. IsFound ranges v s) e i, (subst (λ v. IsFound ranges v t) f j, (subst (λ v. IsFound ranges v u) g k, tt))))
found_four ranges (a ∷ b ∷ c ∷ l ∷ m ∷ xs) x y z w r s t u n d e f g h i j k = absurd (omega arith)

-- ---- the interval holds the value
abbrev EachIn : List Range → List ℤ → Type 0
EachIn [] [] = Unit {0}
EachIn (r ∷ rs) (x ∷ xs) = Includes r x × EachIn rs xs
EachIn [] (x ∷ xs) = ⊥
EachIn (r ∷ rs) [] = ⊥

module _ (v : ℕ → ℤ) where
  abbrev number : ℤ → Shape
  number x = form.Num x

  numbers_are : (xs : List ℤ) → map (FVal v) (map number xs) ≡ xs
  numbers_are [] = refl
  numbers_are (x ∷ xs) = ap (λ ys. x ∷ ys) (numbers_are xs)

  place_in : (rs : List Range) (xs : List ℤ) (d : Shape) (n : ℕ) (r : Range) → EachIn rs xs → slice_get rs n ≡ Some r → Includes r (FVal v (slice_index_or (map number xs) n d))
  place_in [] [] d n r h e = absurd (cc)
  place_in [] (x ∷ xs) d n r h e = absurd h
  place_in (s ∷ rs) [] d n r h e = absurd h
  place_in (s ∷ rs) (x ∷ xs) d zero r h e = subst (λ q. Includes q x) (same_some s r e) h.0
  place_in (s ∷ rs) (x ∷ xs) d (suc n) r h e = place_in rs xs d n r h.1 e

  node_in : (op : Op) (ty : LaneType) (k : ℕ) (rs : List Range) (xs : List ℤ) (r : Range) → length xs ≡ operand_count (row_of op).operands → EachIn rs xs → row_range op ty k rs ≡ Some r →
      Includes r ((row_of op).value ty k xs)
  node_in op ty k rs xs r count h e =
      let fs = map number xs in
      let value : FVal (λ n. FVal v (operand fs n)) (at (vars ty k) (formula op)) ≡ (row_of op).value ty k xs =
      sym (value_over v ty k fs (formula op)) ∙ formula_value v ty k op fs (length-map xs number ∙ count) ∙ ap ((row_of op).value ty k) (numbers_are xs) in
      subst (Includes r) value (value_in rs (λ n. FVal v (operand fs n)) (λ n s i. place_in rs xs (slice_index_or fs 0 (form.Var 0)) n s h i) (at (vars ty k) (formula op)) r e)

-- said of each term
abbrev HoldsValue : Ranges → Env → Term → Type 0
HoldsValue ranges env t = is_well_formed t ≡ true → (r : Range) → interval_of ranges t ≡ Some r → Includes r (Val env t)

pub from_all : {A B : Type 0} (f : A → Option B) (o : Option A) (y : B) → option_and_then f o ≡ Some y → (x : A) × (o ≡ Some x) × (f x ≡ Some y)
from_all f None y e = absurd (cc)
from_all f (Some x) y e = (x, refl, e)

from_head : (o : Option Range) (p : Option (List Range)) (rs : List Range) → option_and_then (λ s. option_map (λ more. s ∷ more) p) o ≡ Some rs →
    (s : Range) × (more : List Range) × (o ≡ Some s) × (p ≡ Some more) × (rs ≡ s ∷ more)
from_head None p rs e = absurd (cc)
from_head (Some s) None rs e = absurd (cc)
from_head (Some s) (Some more) rs e = (s, more, refl, refl, cc)

module _ (ranges : Ranges) (env : Env) (inside : IsWithin ranges env) where
  leaf_in : (leaf : LeafOf) (r : Range) → leaf_range ranges leaf ≡ Some r → Includes r (leaf_value env leaf)
  leaf_in (Tap n) r e = inside.taps n r e
  leaf_in (Const n) r e = value_in [] (λ i. pos 0) (λ i s none. absurd (cc)) (form.Num n) r e
  leaf_in (Def n) r e = inside.defs n r e

  operands_in : (ps : List ((t : Term) × HoldsValue ranges env t)) (rs : List Range) → all_true (map is_well_formed (map (λ p. p.0) ps)) ≡ true → all_of (map (interval_of ranges) (map (λ p. p.0) ps)) ≡ Some rs →
      EachIn rs (map (Val env) (map (λ p. p.0) ps))
  operands_in [] rs f e = let none : [] ≡ rs = cc in subst (λ ss. EachIn ss []) none tt
  operands_in (p ∷ ps) rs f e =
      let h = from_head (interval_of ranges p.0) (all_of (map (interval_of ranges) (map (λ q. q.0) ps))) rs e in
      let formed = and_parts (is_well_formed p.0) (all_true (map is_well_formed (map (λ q. q.0) ps))) f in
      subst (λ ss. EachIn ss (map (Val env) (map (λ q. q.0) (p ∷ ps)))) (sym h.4) (p.1 formed.0 h.0 h.2, operands_in ps h.1 formed.1 h.3)

  leaf_holds : (leaf : LeafOf) (ty : LaneType) → HoldsValue ranges env (Leaf leaf ty)
  leaf_holds leaf ty f r e = rw (value_leaf env leaf ty) (leaf_in leaf r (sym (interval_leaf ranges leaf ty) ∙ e))

  layer_holds : (y : Term-F ((t : Term) × HoldsValue ranges env t)) → HoldsValue ranges env (roll-Term (map-Term ((t : Term) × HoldsValue ranges env t) Term (λ e. e.0) y))
  layer_holds (LeafLayer leaf ty) = subst (HoldsValue ranges env) (sym (rolls-Leaf leaf ty)) (leaf_holds leaf ty)
  layer_holds (NodeLayer op ty k ps) =
      let args = map (λ p. p.0) ps in
      subst (HoldsValue ranges env) (sym (rolls-Node op ty k args)) (λ f r e.
      let formed = node_formed (Node op ty k args) op ty k args refl f in
      let all = from_all (row_range op ty k) (all_of (map (interval_of ranges) args)) r (sym (interval_node ranges op ty k args) ∙ e) in
      rw (value_node env op ty k args) (node_in (λ i. pos 0) op ty k all.0 (map (Val env) args) r (length-map args (Val env) ∙ formed.0) (operands_in ps all.0 formed.1 all.1) all.2))

  pub value_held : (t : Term) → HoldsValue ranges env t
  value_held = ind-Term (HoldsValue ranges env) (λ x y is. subst (λ z. HoldsValue ranges env (roll-Term z)) is (layer_holds y))

-- so what a call gives as the interval holds the value
pub bounds_hold : (ranges : Ranges) (t : Term) (r : Range) → IsWellTyped t → interval_of ranges t ≡ Some r → (env : Env) → IsWithin ranges env → Includes r (Val env t)
bounds_hold ranges t r typed e env inside = value_held ranges env inside t typed.formed r e

-- ---- a test of all leaves of a term that implies another
module _ (f g : Term-F Bool → Bool) (f_node : (op : Op) (ty : LaneType) (k : ℕ) (bs : List Bool) → f (NodeLayer op ty k bs) ≡ all_true bs) (g_node : (op : Op) (ty : LaneType) (k : ℕ) (bs : List Bool) → g (NodeLayer op ty k bs) ≡ all_true bs)
    (leaf_implied : (leaf : LeafOf) (ty : LaneType) → f (LeafLayer leaf ty) ≡ true → g (LeafLayer leaf ty) ≡ true) where
  abbrev Implied : Term → Type 0
  Implied t = fold-Term Bool f t ≡ true → fold-Term Bool g t ≡ true

  each_implied : (ps : List ((t : Term) × Implied t)) → all_true (map (fold-Term Bool f) (map (λ p. p.0) ps)) ≡ true → all_true (map (fold-Term Bool g) (map (λ p. p.0) ps)) ≡ true
  each_implied [] h = refl
  each_implied (p ∷ ps) h =
      let both = and_parts (fold-Term Bool f p.0) (all_true (map (fold-Term Bool f) (map (λ q. q.0) ps))) h in
      rw (p.1 both.0, each_implied ps both.1) refl

  layer_implied : (y : Term-F ((t : Term) × Implied t)) → Implied (roll-Term (map-Term ((t : Term) × Implied t) Term (λ e. e.0) y))
  layer_implied (LeafLayer leaf ty) h =
      fold-roll-Term Bool g (LeafLayer leaf ty) ∙ leaf_implied leaf ty (sym (fold-roll-Term Bool f (LeafLayer leaf ty)) ∙ h)
  layer_implied (NodeLayer op ty k ps) h =
      let args = map (λ p. p.0) ps in
      fold-roll-Term Bool g (NodeLayer op ty k args) ∙ g_node op ty k (map (fold-Term Bool g) args) ∙ each_implied ps (sym (f_node op ty k (map (fold-Term Bool f) args)) ∙ sym (fold-roll-Term Bool f (NodeLayer op ty k args)) ∙ h)

  pub implied : (t : Term) → Implied t
  implied = ind-Term Implied (λ x y is. subst (λ z. Implied (roll-Term z)) is (layer_implied y))

-- ---- there is an interval
pub record AreOrdered (ranges : Ranges) : Type 0 where
  pub taps : (n : ℕ) (r : Range) → slice_get ranges.taps n ≡ Some r → IsRange r
  pub defs : (n : ℕ) (r : Range) → slice_get ranges.defs n ≡ Some r → IsRange r

module _ (ranges : Ranges) (ordered : AreOrdered ranges) where
  abbrev HasInterval : Term → Type 0
  HasInterval t = IsWellTyped t → are_ranges_of ranges t ≡ true → (r : Range) × IsFound ranges t r

  entry_found : (o : Option Range) (ty : LaneType) → ((r : Range) → o ≡ Some r → IsRange r) → lies_in_type o ty ≡ true → (r : Range) × (o ≡ Some r) × IsRange r × (lies_in r (lane_range ty) ≡ true)
  entry_found None ty all h = absurd (cc)
  entry_found (Some r) ty all h = (r, refl, all r refl, h)

  leaf_found : (leaf : LeafOf) (ty : LaneType) → is_formed_leaf leaf ty ≡ true → is_ranged_leaf ranges leaf ty ≡ true → (r : Range) × (leaf_range ranges leaf ≡ Some r) × IsRange r × (lies_in r (lane_range ty) ≡ true)
  leaf_found (Tap n) ty formed h = entry_found (slice_get ranges.taps n) ty (ordered.taps n) h
  leaf_found (Const n) ty formed h =
      let kept = const_kept ty n formed in
      let is = within_kept (range n n) kept in
      (range n n, is, kept, const_member ty n (range n n) is formed)
  leaf_found (Def n) ty formed h = entry_found (slice_get ranges.defs n) ty (ordered.defs n) h

  each_found : (ps : List ((t : Term) × HasInterval t)) → AreTyped (map (λ p. p.0) ps) → all_true (map (are_ranges_of ranges) (map (λ p. p.0) ps)) ≡ true → (rs : List Range) × AreFound ranges (map (λ p. p.0) ps) rs
  each_found [] typed h = ([], tt)
  each_found (p ∷ ps) typed h =
      let both = and_parts (are_ranges_of ranges p.0) (all_true (map (are_ranges_of ranges) (map (λ q. q.0) ps))) h in
      let first = p.1 typed.0 both.0 in
      let rest = each_found ps typed.1 both.1 in
      (first.0 ∷ rest.0, (first.1, rest.1))

  layer_found : (y : Term-F ((t : Term) × HasInterval t)) → HasInterval (roll-Term (map-Term ((t : Term) × HasInterval t) Term (λ e. e.0) y))
  layer_found (LeafLayer leaf ty) = subst HasInterval (sym (rolls-Leaf leaf ty)) (λ typed h.
      let f = leaf_found leaf ty (leaf_formed (Leaf leaf ty) leaf ty refl typed) (leaf_ranged ranges (Leaf leaf ty) leaf ty refl h) in
      (f.0, leaf_told ranges (Leaf leaf ty) leaf ty f.0 refl f.1 f.2 f.3))
  layer_found (NodeLayer op ty k ps) =
      let args = map (λ p. p.0) ps in
      subst HasInterval (sym (rolls-Node op ty k args)) (λ typed h.
      let found = each_found ps (typed_node op ty k args typed).operands (sym (ranged_node ranges op ty k args) ∙ h) in
      let ready = ready_node ranges op ty k args typed h in
      let f = node_found ranges op ty k args found.0 ready found.1 in
      (f.range, node_told ranges (Node op ty k args) op ty k args args found.0 (row_range op ty k found.0) f.range refl refl ready found.1 refl f.is))

  pub interval_found : (t : Term) → HasInterval t
  interval_found = ind-Term HasInterval (λ x y is. subst (λ z. HasInterval (roll-Term z)) is (layer_found y))
