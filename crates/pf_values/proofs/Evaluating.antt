-- The values of a node's operands, as they are found one after another.
use Rattle.std.proofs.Common.{◌≡◌, sym, ap, ◌∙◌, subst, ℕ, ◌+◌, ◌<◌, ◌≤◌, zero, suc, ℤ, arith, true, List, [], ◌∷◌, ◌++◌, length, map, get_or, take, set}
use Rattle.std.specs.Prelude.{All, nat_le}
use Rattle.std.proofs.lemmas.List.{map-append, take_more, take_more_set, take_all}
use borrow.Author.Tests.{leb-true}
use Rattle.pf_ints.specs.declared.lane.LaneType.{LaneType}
use Rattle.pf_ints.specs.declared.lane.Bits.{Bits}
use Rattle.pf_ints.specs.declared.lane.Bits.TheVariants.{Eight, Sixteen, ThirtyTwo}
use Rattle.pf_ints.specs.Meaning.Lanes.{bit_count, IsIn}
use Rattle.pf_values.specs.declared.op.Op.{Op}
use Rattle.pf_values.specs.declared.row.Amounts.{Amounts}
use Rattle.pf_values.specs.declared.row.Amounts.TheVariants.{Without, Shift, RoundingShift, Product, RoundingProduct}
use Rattle.pf_values.specs.declared.row.Operands.{Operands}
use Rattle.pf_values.specs.declared.row.Operands.TheVariants.{One, OneSigned, Alike, Narrow, WideFirst, Choice}
use Rattle.pf_values.specs.declared.term.Env.{Env}
use Rattle.pf_values.specs.declared.term.Term.{Term}
use Rattle.pf_values.specs.declared.term.Term.TheVariants.{Leaf, Node}
use Rattle.pf_values.specs.declared.term.Leaf.{Leaf as LeafOf}
use Rattle.pf_values.specs.Meaning.Operators.{row_of}
use Rattle.pf_values.specs.Meaning.Small.{IsSmall}
use Rattle.pf_values.specs.Meaning.Terms.{all_true, stated_type, Val, IsWellTyped, is_env_of, operand_count, is_amount, least_amount, greatest_amount, first_width, leaf_value, is_env_leaf}
use Rattle.pf_values.proofs.Typing.{and_left, and_right, all_true_at}
use Rattle.pf_values.proofs.Ranges.{small_member}
use Rattle.pf_values.proofs.NodeRanges.{judged}
use Rattle.pf_values.proofs.TermRanges.{AreTyped, typed_node, env_node, value_node, value_leaf, env_leaf, value_in_type}

width_below : (b : Bits) → bit_count b ≤ 32
width_below Eight = omega arith
width_below Sixteen = omega arith
width_below ThirtyTwo = omega arith

first_below : (ts : List LaneType) → first_width ts ≤ 32
first_below [] = omega arith
first_below (t ∷ ts) = width_below t.bits

amount_below : (a : Amounts) (w k : ℕ) → w ≤ 32 → is_amount a w k ≡ true → k < 64
amount_below a w k h is = let most : k ≤ greatest_amount a w = leb-true k (greatest_amount a w) (and_right (nat_le (least_amount a) k) _ is) in by a most where
  by : (a : Amounts) → k ≤ greatest_amount a w → k < 64
  by Without up = omega arith
  by Shift up = omega arith
  by RoundingShift up = omega arith
  by Product up = omega arith
  by RoundingProduct up = omega arith

typed_each : (ts : List Term) → AreTyped ts → All (λ t. IsWellTyped t) ts
typed_each [] h k d below = absurd (omega arith)
typed_each (t ∷ ts) h zero d below = h.0
typed_each (t ∷ ts) h (suc k) d below = typed_each ts h.1 k d (omega arith)

small_each : (env : Env) (ts : List Term) → AreTyped ts → all_true (map (is_env_of env) ts) ≡ true → All IsSmall (map (Val env) ts)
small_each env [] typed h k d below = absurd (omega arith)
small_each env (t ∷ ts) typed h zero d below = small_member (stated_type t) (Val env t) (value_in_type env t typed.0 (and_left _ (all_true (map (is_env_of env) ts)) h))
small_each env (t ∷ ts) typed h (suc k) d below = small_each env ts typed.1 (and_right (is_env_of env t) _ h) k d (omega arith)

-- a node's operands, each with what evaluation asks for
pub record IsReady (env : Env) (op : Op) (k : ℕ) (xs : List Term) : Type 0 where
  pub typed : All (λ t. IsWellTyped t) xs
  pub entries : All (λ t. is_env_of env t ≡ true) xs
  pub count : length xs ≡ operand_count (row_of op).operands
  pub small : All IsSmall (map (Val env) xs)
  pub amount : k < 64

ready_node : (env : Env) (op : Op) (ty : LaneType) (k : ℕ) (args : List Term) → IsWellTyped (Node op ty k args) → is_env_of env (Node op ty k args) ≡ true → IsReady env op k args
ready_node env op ty k args typed h =
    let parts = typed_node op ty k args typed in
    let all = sym (env_node env op ty k args) ∙ h in
    record {
      typed = typed_each args parts.operands;
      entries = λ i d below. all_true_at (is_env_of env) args i d all below;
      count = parts.count;
      small = small_each env args parts.operands all;
      amount = amount_below (row_of op).amounts (first_width (map stated_type args)) k (first_below (map stated_type args)) (judged (row_of op) ty ty k (map stated_type args) parts.node).0.amount;
    }

pub ready : (env : Env) (t : Term) (op : Op) (ty : LaneType) (k : ℕ) (args xs : List Term) → t ≡ Node op ty k args → xs ≡ args → IsWellTyped t → is_env_of env t ≡ true → IsReady env op k xs
ready env t op ty k args xs is same typed h =
    subst (IsReady env op k) (sym same) (ready_node env op ty k args (subst IsWellTyped is typed) (ap (is_env_of env) (sym is) ∙ h))

pub count_most : (o : Operands) → operand_count o ≤ 4
count_most One = omega arith
count_most OneSigned = omega arith
count_most Alike = omega arith
count_most Narrow = omega arith
count_most WideFirst = omega arith
count_most Choice = omega arith

-- one more value is found
pub found_more : (env : Env) (xs : List Term) (vs : List ℤ) (n : ℕ) (x : Term) (v : ℤ) → take n vs ≡ map (Val env) (take n xs) → n < length xs → n < length vs → x ≡ get_or xs n x → v ≡ Val env x →
    take (n + 1) (set vs n v) ≡ map (Val env) (take (n + 1) xs)
found_more env xs vs n x v so_far below room at is =
    take_more_set vs n v room ∙ ap (λ ys. ys ++ v ∷ []) so_far ∙ ap (λ y. map (Val env) (take n xs) ++ y ∷ []) (is ∙ ap (Val env) at)
    ∙ sym (map-append (Val env) (take n xs) (get_or xs n x ∷ [])) ∙ ap (map (Val env)) (sym (take_more xs n x below))

-- all values are found
pub found_all : (env : Env) (xs args : List Term) (vs : List ℤ) (n m : ℕ) → xs ≡ args → take n vs ≡ map (Val env) (take n xs) → length xs ≤ n → n ≤ length xs → m ≡ length args → take m vs ≡ map (Val env) xs
found_all env xs args vs n m same so_far past within count =
    let here : m ≡ n = count ∙ ap length (sym same) ∙ (let e : length xs ≡ n = omega arith in e) in
    ap (λ i. take i vs) here ∙ so_far ∙ ap (map (Val env)) (take_all n xs past)

pub value_told : (env : Env) (t : Term) (op : Op) (ty : LaneType) (k : ℕ) (args xs : List Term) (vs : List ℤ) (r : ℤ) → t ≡ Node op ty k args → xs ≡ args → vs ≡ map (Val env) xs →
    r ≡ (row_of op).value ty k vs → r ≡ Val env t
value_told env t op ty k args xs vs r is same found told =
    told ∙ ap ((row_of op).value ty k) (found ∙ ap (map (Val env)) same) ∙ sym (value_node env op ty k args) ∙ ap (Val env) (sym is)

-- what equals the value lies in the type
pub member_told : (env : Env) (t : Term) (r : ℤ) → IsWellTyped t → is_env_of env t ≡ true → r ≡ Val env t → IsIn (stated_type t) r
member_told env t r typed h e = rw e (value_in_type env t typed h)

pub leaf_told : (env : Env) (t : Term) (leaf : LeafOf) (ty : LaneType) (r : ℤ) → t ≡ Leaf leaf ty → r ≡ leaf_value env leaf → r ≡ Val env t
leaf_told env t leaf ty r is told = told ∙ sym (value_leaf env leaf ty) ∙ ap (Val env) (sym is)

pub leaf_ready : (env : Env) (t : Term) (leaf : LeafOf) (ty : LaneType) → t ≡ Leaf leaf ty → is_env_of env t ≡ true → is_env_leaf env leaf ty ≡ true
leaf_ready env t leaf ty is h = sym (env_leaf env leaf ty) ∙ ap (is_env_of env) (sym is) ∙ h
