-- An operation's value lies in its result's type where its operands' values lie in theirs: computed over the table.
use Rattle.std.proofs.Common.{◌≡◌, refl, sym, ap, ◌∙◌, subst, ℕ, zero, suc, ◌*◌, ◌<◌, ◌≤◌, ℤ, pos, Bool, true, false, List, [], ◌∷◌, length, map, get_or, Option, Some, None, arith, ⊎_elim}
use Rattle.std.specs.Prelude.{◌/◌, ◌&&◌, ◌||◌, if◌then◌else◌, slice_get, is_some, option_and_then, nat_le, nat_lt}
use Rattle.std.proofs.lemmas.Bool.Decides.{nat_tests}
use Rattle.std.proofs.lemmas.Bool.{and_parts, cases_eq}
use Rattle.std.specs.Cmp.Derive.{both_true}
use Rattle.pf_ints.specs.declared.lane.LaneType.{LaneType}
use Rattle.pf_ints.specs.declared.lane.Bits.{Bits}
use Rattle.pf_ints.specs.declared.lane.Bits.TheVariants.{Eight, Sixteen, ThirtyTwo}
use Rattle.pf_ints.specs.declared.target.Target.{Target}
use Rattle.pf_ints.specs.declared.target.Target.TheVariants.{Neon, Avx2, Hvx}
use Rattle.pf_ints.specs.Meaning.Lanes.{IsIn, lane_width, bit_count, clamped}
use Rattle.pf_ints.specs.Meaning.Ranges.{Range, Includes, within, lies_in, lane_range}
use Rattle.pf_ints.proofs.RangeLaws.{inside_holds}
use Rattle.pf_values.specs.Meaning.Terms.{typed_as, halved, same_type, same_bits}
use Rattle.pf_values.proofs.Typing.{same_self}
use Rattle.pf_forms.specs.Meaning.Values.{FVal, G}
use Rattle.pf_forms.proofs.BoundLaws.{value_in}
use Rattle.pf_laneops.specs.declared.lane_name.LaneName.{LaneName}
use Rattle.pf_laneops.specs.declared.lane_name.LaneName.TheVariants.{Add}
use Rattle.pf_laneops.specs.declared.lane_row.LaneRow.{LaneRow}
use Rattle.pf_laneops.specs.declared.lane_row.LaneAmounts.{LaneAmounts}
use Rattle.pf_laneops.specs.declared.lane_row.LaneAmounts.TheVariants.{Without, Below, Inside, UpTo, UpToButHvx}
use Rattle.pf_laneops.specs.declared.lane_row.LaneGives.{LaneGives}
use Rattle.pf_laneops.specs.declared.lane_row.LaneGives.TheVariants.{First, Unsigned, Third, SameWidth, Twice, SignedTwice, UnsignedTwice, Half, HalfWidth}
use Rattle.pf_laneops.specs.declared.lane_row.LaneOperands.{LaneOperands}
use Rattle.pf_laneops.specs.declared.lane_row.LaneOperands.TheVariants.{One, Two, Three, Four, UnsignedAndSigned, WideAndNarrow, WideAndTwo}
use Rattle.pf_laneops.specs.Meaning.Formulas.{row_form}
use Rattle.pf_laneops.specs.Meaning.LaneRows.{lane_row, row_key, lane_result, factor, cost_on, is_lane_amount, counted, allowed, priced, row_type, when}
use Rattle.pf_laneops.specs.Meaning.LaneCodes.{IsRow, row_value, stated, stated_by}

-- the values lie in their types
abbrev pub AreOf : List LaneType → List ℤ → Type 0
AreOf [] [] = Unit {0}
AreOf (t ∷ ts) (x ∷ xs) = IsIn t x × AreOf ts xs
AreOf _ _ = ⊥

-- ---- tests over types, amounts and operands
abbrev u8 : LaneType
u8 = typed_as false Eight

abbrev i8 : LaneType
i8 = typed_as true Eight

abbrev u16 : LaneType
u16 = typed_as false Sixteen

abbrev i16 : LaneType
i16 = typed_as true Sixteen

abbrev u32 : LaneType
u32 = typed_as false ThirtyTwo

abbrev i32 : LaneType
i32 = typed_as true ThirtyTwo

abbrev every_type : (LaneType → Bool) → Bool
every_type f = (f u8 && (f i8 && f u16)) && (f i16 && (f u32 && f i32))

abbrev every_below : (ℕ → Bool) → ℕ → Bool
every_below f zero = true
every_below f (suc n) = f n && every_below f n

-- all lists of n types
abbrev every_list : ℕ → (List LaneType → Bool) → Bool
every_list zero f = f []
every_list (suc n) f = every_type (λ t. every_list n (λ ts. f (t ∷ ts)))

abbrev arity : LaneOperands → ℕ
arity One = 1
arity Two = 2
arity Three = 3
arity Four = 4
arity UnsignedAndSigned = 2
arity WideAndNarrow = 2
arity WideAndTwo = 3

abbrev lies : Option Range → LaneType → Bool
lies (Some r) ty = lies_in r (lane_range ty)
lies None ty = false

abbrev fits : LaneName → LaneType → ℕ → List LaneType → Bool
fits op ty k ts = lies (G (map lane_range ts) (row_form op ty k)) ty

abbrev is_result : Option LaneType → LaneType → Bool
is_result (Some u) ty = same_type u ty
is_result None ty = false

-- some target has the types
abbrev has_types : LaneRow → LaneType → LaneType → Bool
has_types r t ty = is_some (factor r.neon t ty) || (is_some (factor r.avx2 t ty) || is_some (factor r.hvx t ty))

abbrev amount_of : LaneName → LaneType → LaneType → ℕ → Bool
amount_of op t ty k = is_lane_amount (lane_row op).amounts Neon (lane_width (counted (lane_row op).gives t ty)) k

abbrev is_tried : LaneName → List LaneType → LaneType → LaneType → Bool
is_tried op ts t ty = is_result (lane_result (lane_row op).gives (stated op ty) t ts) ty && has_types (lane_row op) t ty

abbrev fits_amount : LaneName → List LaneType → LaneType → LaneType → ℕ → Bool
fits_amount op ts t ty k = elim (amount_of op t ty k) [ true ↦ fits op ty k ts | false ↦ true ]

abbrev fits_result : LaneName → List LaneType → LaneType → LaneType → Bool
fits_result op ts t ty = elim (is_tried op ts t ty) [ true ↦ every_below (fits_amount op ts t ty) 33 | false ↦ true ]

abbrev fits_key : LaneName → List LaneType → Option LaneType → Bool
fits_key op ts None = true
fits_key op ts (Some t) = every_type (fits_result op ts t)

abbrev fits_list : LaneName → List LaneType → Bool
fits_list op ts = fits_key op ts (row_key (lane_row op).operands ts)

all_fit : (op : LaneName) → every_list (arity (lane_row op).operands) (fits_list op) ≡ true
unfolding within clamped
all_fit Add = refl
all_fit _ = refl

-- ---- what is true of all is true of each
module _ (f : LaneType → Bool) (h : every_type f ≡ true) where
  left : (f u8 && (f i8 && f u16)) ≡ true
  left = (and_parts (f u8 && (f i8 && f u16)) (f i16 && (f u32 && f i32)) h).0

  right : (f i16 && (f u32 && f i32)) ≡ true
  right = (and_parts (f u8 && (f i8 && f u16)) (f i16 && (f u32 && f i32)) h).1

  by_parts : (signed : Bool) (bits : Bits) → f (typed_as signed bits) ≡ true
  by_parts false Eight = (and_parts (f u8) (f i8 && f u16) left).0
  by_parts true Eight = (and_parts (f i8) (f u16) (and_parts (f u8) (f i8 && f u16) left).1).0
  by_parts false Sixteen = (and_parts (f i8) (f u16) (and_parts (f u8) (f i8 && f u16) left).1).1
  by_parts true Sixteen = (and_parts (f i16) (f u32 && f i32) right).0
  by_parts false ThirtyTwo = (and_parts (f u32) (f i32) (and_parts (f i16) (f u32 && f i32) right).1).0
  by_parts true ThirtyTwo = (and_parts (f u32) (f i32) (and_parts (f i16) (f u32 && f i32) right).1).1

  type_at : (t : LaneType) → f t ≡ true
  type_at t = by_parts t.signed t.bits

below_at : (f : ℕ → Bool) (n k : ℕ) → every_below f n ≡ true → k < n → f k ≡ true
below_at f zero k h less = absurd (omega arith)
below_at f (suc n) k h less =
    let p = and_parts (f n) (every_below f n) h in
    ⊎_elim (λ (same : k ≡ n). rw same p.0) (λ (other : k ≡ n → ⊥). below_at f n k p.1 (omega arith)) (cases_eq k n)

list_at : (n : ℕ) (f : List LaneType → Bool) → every_list n f ≡ true → (ts : List LaneType) → length ts ≡ n → f ts ≡ true
list_at zero f h [] e = h
list_at zero f h (t ∷ ts) e = absurd (omega (arith, e))
list_at (suc n) f h [] e = absurd (omega (arith, e))
list_at (suc n) f h (t ∷ ts) e = list_at n (λ us. f (t ∷ us)) (type_at (λ u. every_list n (λ us. f (u ∷ us))) h t) ts (omega (arith, e))

granted : (b c : Bool) → elim b [ true ↦ c | false ↦ true ] ≡ true → b ≡ true → c ≡ true
granted true c h e = h
granted false c h e = absurd (cc)

or_right : (a b : Bool) → b ≡ true → (a || b) ≡ true
or_right true b h = refl
or_right false b h = h

-- ---- what a row says
then_some : {A B : Type 0} (f : A → Option B) (o : Option A) (y : B) → option_and_then f o ≡ Some y → (x : A) × (o ≡ Some x) × (f x ≡ Some y)
then_some f None y h = absurd (cc)
then_some f (Some x) y h = (x, refl, h)

if_some : {A : Type 0} (b : Bool) (o : Option A) (y : A) → (if b then o else None) ≡ Some y → (b ≡ true) × (o ≡ Some y)
if_some true o y h = (refl, h)
if_some false o y h = absurd (cc)

first_same : (p q : LaneType × ℕ) → Some p ≡ Some q → p.0 ≡ q.0
first_same p q h = let same : p ≡ q = cc in ap (λ r. r.0) same

key_count : (o : LaneOperands) (ts : List LaneType) (t : LaneType) → row_key o ts ≡ Some t → length ts ≡ arity o
key_count One (x ∷ []) t e = omega arith
key_count Two (x ∷ y ∷ []) t e = omega arith
key_count Three (x ∷ y ∷ z ∷ []) t e = omega arith
key_count Four (a ∷ b ∷ x ∷ y ∷ []) t e = omega arith
key_count UnsignedAndSigned (x ∷ y ∷ []) t e = omega arith
key_count WideAndNarrow (a ∷ x ∷ []) t e = omega arith
key_count WideAndTwo (a ∷ x ∷ y ∷ []) t e = omega arith
key_count _ _ t e = absurd (cc)

-- neon has each amount that a target has
amount_on_neon : (a : LaneAmounts) (target : Target) (w k : ℕ) → is_lane_amount a target w k ≡ true → is_lane_amount a Neon w k ≡ true
amount_on_neon Without target w k e = e
amount_on_neon Below target w k e = e
amount_on_neon Inside target w k e = e
amount_on_neon UpTo target w k e = e
amount_on_neon UpToButHvx Neon w k e = e
amount_on_neon UpToButHvx Avx2 w k e = e
amount_on_neon UpToButHvx Hvx w k e =
    let p = and_parts (nat_le 1 k) (nat_lt k w) e in both_true p.0 (grind (arith, nat_tests, p.1))

amount_small : (a : LaneAmounts) (w k : ℕ) → w ≤ 32 → is_lane_amount a Neon w k ≡ true → k < 33
amount_small Without w k h e = grind (arith, nat_tests, e)
amount_small Below w k h e = grind (arith, nat_tests, e, h)
amount_small Inside w k h e = let p = and_parts (nat_le 1 k) (nat_lt k w) e in grind (arith, nat_tests, p.1, h)
amount_small UpTo w k h e = let p = and_parts (nat_le 1 k) (nat_le k w) e in grind (arith, nat_tests, p.1, h)
amount_small UpToButHvx w k h e = let p = and_parts (nat_le 1 k) (nat_le k w) e in grind (arith, nat_tests, p.1, h)

width_small : (t : LaneType) → lane_width t ≤ 32
width_small t = by t.bits
  where
    by : (b : Bits) → bit_count b ≤ 32
    by Eight = omega arith
    by Sixteen = omega arith
    by ThirtyTwo = omega arith

types_there : (r : LaneRow) (target : Target) (t ty : LaneType) (n : ℕ) → factor (cost_on r target) t ty ≡ Some n → has_types r t ty ≡ true
types_there r Neon t ty n e = rw e refl
types_there r Avx2 t ty n e = or_right (is_some (factor r.neon t ty)) _ (rw e refl)
types_there r Hvx t ty n e = or_right (is_some (factor r.neon t ty)) _ (or_right (is_some (factor r.avx2 t ty)) _ (ap is_some e))

fits_row : (op : LaneName) (target : Target) (ty t : LaneType) (k n : ℕ) (ts : List LaneType) → row_key (lane_row op).operands ts ≡ Some t → lane_result (lane_row op).gives (stated op ty) t ts ≡ Some ty →
    factor (cost_on (lane_row op) target) t ty ≡ Some n → is_lane_amount (lane_row op).amounts target (lane_width (counted (lane_row op).gives t ty)) k ≡ true → fits op ty k ts ≡ true
fits_row op target ty t k n ts key result types amount =
    let w = lane_width (counted (lane_row op).gives t ty) in
    let all = list_at (arity (lane_row op).operands) (fits_list op) (all_fit op) ts (key_count (lane_row op).operands ts t key) in
    let at_key : every_type (fits_result op ts t) ≡ true = subst (λ o. fits_key op ts o ≡ true) key all in
    let is : is_result (lane_result (lane_row op).gives (stated op ty) t ts) ty ≡ true = ap (λ o. is_result o ty) result ∙ same_self ty in
    let tried = granted (is_tried op ts t ty) (every_below (fits_amount op ts t ty) 33) (type_at (fits_result op ts t) at_key ty) (both_true is (types_there (lane_row op) target t ty n types)) in
    let on_neon = amount_on_neon (lane_row op).amounts target w k amount in
    let small = amount_small (lane_row op).amounts w k (width_small (counted (lane_row op).gives t ty)) on_neon in
    granted (amount_of op t ty k) (fits op ty k ts) (below_at (fits_amount op ts t ty) 33 k tried small) on_neon

-- what is found on the way to a row
record RowParts (target : Target) (op : LaneName) (to : Option LaneType) (ty : LaneType) (k : ℕ) (ts : List LaneType) : Type 0 where
  t : LaneType
  n : ℕ
  key : row_key (lane_row op).operands ts ≡ Some t
  result : lane_result (lane_row op).gives to t ts ≡ Some ty
  types : factor (cost_on (lane_row op) target) t ty ≡ Some n
  amount : is_lane_amount (lane_row op).amounts target (lane_width (counted (lane_row op).gives t ty)) k ≡ true

row_parts : (target : Target) (op : LaneName) (to : Option LaneType) (ty : LaneType) (k : ℕ) (ts : List LaneType) (cost : ℕ) → row_type target op to ts k ≡ Some (ty, cost) → RowParts target op to ty k ts
row_parts target op to ty k ts cost row =
    let key = then_some (λ t. option_and_then (λ u. allowed (lane_row op) target k t u) (lane_result (lane_row op).gives to t ts)) (row_key (lane_row op).operands ts) (ty, cost) row in
    let result = then_some (λ u. allowed (lane_row op) target k key.0 u) (lane_result (lane_row op).gives to key.0 ts) (ty, cost) key.2 in
    let c = counted (lane_row op).gives key.0 result.0 in
    let has = is_lane_amount (lane_row op).amounts target (lane_width c) k in
    let types = then_some (λ n. if has then priced result.0 n c else None) (factor (cost_on (lane_row op) target) key.0 result.0) (ty, cost) result.2 in
    let amount = if_some has (priced result.0 types.0 c) (ty, cost) types.2 in
    let same : result.0 ≡ ty = first_same (result.0, types.0 * (lane_width c / 8)) (ty, cost) amount.1 in
    record {
      t = key.0;
      n = types.0;
      key = key.1;
      result = result.1 ∙ ap Some same;
      types = subst (λ u. factor (cost_on (lane_row op) target) key.0 u ≡ Some types.0) same types.1;
      amount = subst (λ u. is_lane_amount (lane_row op).amounts target (lane_width (counted (lane_row op).gives key.0 u)) k ≡ true) same amount.0;
    }

row_fits : (target : Target) (op : LaneName) (ty : LaneType) (k : ℕ) (ts : List LaneType) (cost : ℕ) → IsRow target op ty k ts cost → fits op ty k ts ≡ true
row_fits target op ty k ts cost row =
    let p = row_parts target op (stated op ty) ty k ts cost row in fits_row op target ty p.t k p.n ts p.key p.result p.types p.amount

-- a row has at most four operands
arity_few : (o : LaneOperands) → arity o ≤ 4
arity_few One = omega arith
arity_few Two = omega arith
arity_few Three = omega arith
arity_few Four = omega arith
arity_few UnsignedAndSigned = omega arith
arity_few WideAndNarrow = omega arith
arity_few WideAndTwo = omega arith

pub row_few : (target : Target) (op : LaneName) (to : Option LaneType) (ty : LaneType) (k : ℕ) (ts : List LaneType) (cost : ℕ) → row_type target op to ts k ≡ Some (ty, cost) → length ts ≤ 4
row_few target op to ty k ts cost row =
    let p = row_parts target op to ty k ts cost row in
    let count = key_count (lane_row op).operands ts p.t p.key in
    let few = arity_few (lane_row op).operands in omega (arith, count, few)

-- a type is stated exactly where the row has one, and it is the result's
when_some : (b : Bool) (x y : LaneType) → when b x ≡ Some y → x ≡ y
when_some true x y h = cc
when_some false x y h = absurd (cc)

gives_stated : (g : LaneGives) (to : Option LaneType) (t u : LaneType) (ts : List LaneType) → lane_result g to t ts ≡ Some u → to ≡ stated_by g u
gives_stated First None t u ts h = refl
gives_stated Unsigned None t u ts h = refl
gives_stated Third None t u ts h = refl
gives_stated Twice None t u ts h = refl
gives_stated SignedTwice None t u ts h = refl
gives_stated UnsignedTwice None t u ts h = refl
gives_stated Half None t u ts h = refl
gives_stated SameWidth (Some v) t u ts h = ap Some (when_some (same_bits v.bits t.bits) v u h)
gives_stated HalfWidth (Some v) t u ts h = ap Some (when_some (same_bits v.bits (halved t.bits)) v u h)
gives_stated _ _ t u ts h = absurd (cc)

pub row_stated : (target : Target) (op : LaneName) (to : Option LaneType) (ty : LaneType) (k : ℕ) (ts : List LaneType) (cost : ℕ) → row_type target op to ts k ≡ Some (ty, cost) → to ≡ stated op ty
row_stated target op to ty k ts cost row = let p = row_parts target op to ty k ts cost row in gives_stated (lane_row op).gives to p.t ty ts p.result

-- ---- the values
are_in : (d : ℤ) (ts : List LaneType) (xs : List ℤ) → AreOf ts xs → (n : ℕ) (r : Range) → slice_get (map lane_range ts) n ≡ Some r → Includes r (get_or xs n d)
are_in d [] xs h n r e = absurd (cc)
are_in d (t ∷ ts) [] h n r e = absurd h
are_in d (t ∷ ts) (x ∷ xs) h zero r e =
    let same : lane_range t ≡ r = cc in subst (λ s. Includes s x) same (record { low = h.0.low; high = h.0.high })
are_in d (t ∷ ts) (x ∷ xs) h (suc n) r e = are_in d ts xs h.1 n r e

in_lies : (o : Option Range) (ty : LaneType) → lies o ty ≡ true → (r : Range) × (o ≡ Some r) × (lies_in r (lane_range ty) ≡ true)
in_lies None ty h = absurd (cc)
in_lies (Some r) ty h = (r, refl, h)

pub row_in : (target : Target) (op : LaneName) (ty : LaneType) (k : ℕ) (types : List LaneType) (cost : ℕ) (xs : List ℤ) → IsRow target op ty k types cost → AreOf types xs → IsIn ty (row_value op ty k xs)
row_in target op ty k types cost xs row inside =
    let v : ℕ → ℤ = λ n. get_or xs n (get_or xs 0 (pos 0)) in
    let whole = in_lies (G (map lane_range types) (row_form op ty k)) ty (row_fits target op ty k types cost row) in
    let there = value_in (map lane_range types) v (are_in (get_or xs 0 (pos 0)) types xs inside) (row_form op ty k) whole.0 whole.1 in
    let held = inside_holds whole.0 (lane_range ty) (FVal v (row_form op ty k)) whole.2 there in
    record { low = held.low; high = held.high }
