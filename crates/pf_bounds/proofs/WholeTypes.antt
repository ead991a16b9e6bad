-- At operands that lie in their types, an operator's interval exists and lies in the result's type: computed at whole types, and narrowed.
use Rattle.std.proofs.Common.{◌≡◌, refl, ap, ◌∙◌, subst, ℕ, zero, suc, ◌<◌, Bool, true, false, List, [], ◌∷◌, length, map, Option, Some, None, arith, ⊎_elim}
use Rattle.std.proofs.lemmas.Bool.{and_parts, cases_eq}
use Rattle.std.specs.Prelude.{◌&&◌, if◌then◌else◌}
use Rattle.pf_ints.specs.declared.lane.LaneType.{LaneType}
use Rattle.pf_ints.specs.declared.lane.Bits.{Bits}
use Rattle.pf_ints.specs.declared.lane.Bits.TheVariants.{Eight, Sixteen, ThirtyTwo}
use Rattle.pf_ints.specs.Meaning.Lanes.{clamped}
use Rattle.pf_ints.specs.Meaning.Ranges.{Range, within, lies_in, lane_range}
use Rattle.pf_values.specs.declared.op.Op.{Op}
use Rattle.pf_values.specs.declared.op.Op.TheVariants.{Cast}
use Rattle.pf_values.specs.declared.row.Operands.{Operands}
use Rattle.pf_values.specs.declared.row.Operands.TheVariants.{One, OneSigned, Alike, Narrow, WideFirst, Choice}
use Rattle.pf_values.specs.Meaning.Operators.{row_of}
use Rattle.pf_values.specs.Meaning.Terms.{same_type, typed_as, halved, wanted, first_difference, result_type, is_amount, first_width, operand_count, at_most_sixteen, at_least_sixteen}
use Rattle.pf_values.proofs.OperandLists.{by_one, by_two, by_four}
use Rattle.pf_values.proofs.Typing.{same_self}
use Rattle.pf_values.proofs.NodeRanges.{same_type_is, IsJudged}
use Rattle.pf_templates.specs.Meaning.Templates.{at}
use Rattle.pf_laneops.specs.Meaning.Formulas.{formula, vars}
use Rattle.pf_bounds.specs.Meaning.TermBounds.{row_range, lies_in_type}
use Rattle.pf_bounds.proofs.Narrowing.{AreUnder, Found, narrowed, found_in, lies_low, lies_high}

-- ---- tests over types, amounts and operands
abbrev u8 : LaneType
u8 = typed_as false Eight

abbrev i8 : LaneType
i8 = typed_as true Eight

abbrev u16 : LaneType
u16 = typed_as false Sixteen

abbrev i16 : LaneType
i16 = typed_as true Sixteen

abbrev u32 : LaneType
u32 = typed_as false ThirtyTwo

abbrev i32 : LaneType
i32 = typed_as true ThirtyTwo

abbrev every_type : (LaneType → Bool) → Bool
every_type f = (f u8 && (f i8 && f u16)) && (f i16 && (f u32 && f i32))

abbrev every_below : (ℕ → Bool) → ℕ → Bool
every_below f zero = true
every_below f (suc n) = f n && every_below f n

-- all operand types that there can be
abbrev every_list : Operands → (List LaneType → Bool) → Bool
every_list One f = every_type (λ t. f (t ∷ []))
every_list OneSigned f = every_type (λ t. f (t ∷ []))
every_list Alike f = every_type (λ t. f (t ∷ t ∷ []))
every_list Narrow f = every_type (λ t. f (t ∷ t ∷ []))
every_list WideFirst f = every_type (λ t. f (t ∷ typed_as t.signed (halved t.bits) ∷ []))
every_list Choice f = every_type (λ t. every_type (λ u. f (t ∷ t ∷ u ∷ u ∷ [])))

abbrev is_none : {A : Type 0} → Option A → Bool
is_none None = true
is_none (Some x) = false

abbrev fits : Op → LaneType → ℕ → List LaneType → Bool
fits op ty k ts = lies_in_type (row_range op ty k (map lane_range ts)) ty

abbrev fits_amounts : Op → List LaneType → LaneType → Bool
fits_amounts op ts ty =
    if same_type (result_type (row_of op).gives ty ts) ty then every_below (λ k. if is_amount (row_of op).amounts (first_width ts) k then fits op ty k ts else true) 64 else true

abbrev fits_types : Op → List LaneType → Bool
fits_types op ts = if is_none (first_difference (wanted (row_of op).operands ts) ts) then every_type (fits_amounts op ts) else true

all_fit : (op : Op) → every_list (row_of op).operands (fits_types op) ≡ true
unfolding within clamped
all_fit Cast = refl
all_fit _ = refl

-- ---- what is true of all is true of each
module _ (f : LaneType → Bool) (h : every_type f ≡ true) where
  left : (f u8 && (f i8 && f u16)) ≡ true
  left = (and_parts (f u8 && (f i8 && f u16)) (f i16 && (f u32 && f i32)) h).0

  right : (f i16 && (f u32 && f i32)) ≡ true
  right = (and_parts (f u8 && (f i8 && f u16)) (f i16 && (f u32 && f i32)) h).1

  by_parts : (signed : Bool) (bits : Bits) → f (typed_as signed bits) ≡ true
  by_parts false Eight = (and_parts (f u8) (f i8 && f u16) left).0
  by_parts true Eight = (and_parts (f i8) (f u16) (and_parts (f u8) (f i8 && f u16) left).1).0
  by_parts false Sixteen = (and_parts (f i8) (f u16) (and_parts (f u8) (f i8 && f u16) left).1).1
  by_parts true Sixteen = (and_parts (f i16) (f u32 && f i32) right).0
  by_parts false ThirtyTwo = (and_parts (f u32) (f i32) (and_parts (f i16) (f u32 && f i32) right).1).0
  by_parts true ThirtyTwo = (and_parts (f u32) (f i32) (and_parts (f i16) (f u32 && f i32) right).1).1

  type_at : (t : LaneType) → f t ≡ true
  type_at t = by_parts t.signed t.bits

below_at : (f : ℕ → Bool) (n k : ℕ) → every_below f n ≡ true → k < n → f k ≡ true
below_at f zero k h less = absurd (omega arith)
below_at f (suc n) k h less =
    let p = and_parts (f n) (every_below f n) h in
    ⊎_elim (λ (same : k ≡ n). rw same p.0) (λ (other : k ≡ n → ⊥). below_at f n k p.1 (omega arith)) (cases_eq k n)

granted : (b c : Bool) → (if b then c else true) ≡ true → b ≡ true → c ≡ true
granted true c h e = h
granted false c h e = absurd (cc)

if_none : {A : Type 0} (c : Bool) (o : Option A) (x : A) → (if c then o else Some x) ≡ None → (c ≡ true) × (o ≡ None)
if_none true o x h = (refl, h)
if_none false o x h = absurd (cc)

-- no difference at the first place, and none behind it
no_difference : (w g : LaneType) (ws gs : List LaneType) → first_difference (w ∷ ws) (g ∷ gs) ≡ None → (w ≡ g) × (first_difference ws gs ≡ None)
no_difference w g ws gs h = let both = if_none (same_type w g) (first_difference ws gs) (w, g) h in (same_type_is w g both.0, both.1)

-- operands with no fault are among those that were tried
module _ (f : List LaneType → Bool) where
  abbrev Tried : Operands → List LaneType → Type 0
  Tried o ts = first_difference (wanted o ts) ts ≡ None → f ts ≡ true

  list_at : (o : Operands) → every_list o f ≡ true → (ts : List LaneType) → length ts ≡ operand_count o → Tried o ts
  list_at One h = by_one (Tried One) (λ t e. type_at (λ u. f (u ∷ [])) h t)
  list_at OneSigned h = by_one (Tried OneSigned) (λ t e. type_at (λ u. f (u ∷ [])) h t)
  list_at Alike h = by_two (Tried Alike) (λ t u e.
      let second = no_difference t t (t ∷ []) (u ∷ []) e in
      let same = (no_difference t u [] [] second.1).0 in
      subst (λ v. f (t ∷ v ∷ []) ≡ true) same (type_at (λ v. f (v ∷ v ∷ [])) h t))
  list_at Narrow h = by_two (Tried Narrow) (λ t u e.
      let second = no_difference (typed_as t.signed (at_most_sixteen t.bits)) t (t ∷ []) (u ∷ []) e in
      let same = (no_difference t u [] [] second.1).0 in
      subst (λ v. f (t ∷ v ∷ []) ≡ true) same (type_at (λ v. f (v ∷ v ∷ [])) h t))
  list_at WideFirst h = by_two (Tried WideFirst) (λ t u e.
      let half = typed_as t.signed (halved t.bits) in
      let second = no_difference (typed_as t.signed (at_least_sixteen t.bits)) t (half ∷ []) (u ∷ []) e in
      let same = (no_difference half u [] [] second.1).0 in
      subst (λ v. f (t ∷ v ∷ []) ≡ true) same (type_at (λ v. f (v ∷ typed_as v.signed (halved v.bits) ∷ [])) h t))
  list_at Choice h = by_four (Tried Choice) (λ a b x y e.
      let width = typed_as x.signed a.bits in
      let second = no_difference a a (a ∷ width ∷ x ∷ []) (b ∷ x ∷ y ∷ []) e in
      let third = no_difference a b (width ∷ x ∷ []) (x ∷ y ∷ []) second.1 in
      let fourth = no_difference width x (x ∷ []) (y ∷ []) third.1 in
      let same = (no_difference x y [] [] fourth.1).0 in
      let whole = type_at (λ u. f (a ∷ a ∷ u ∷ u ∷ [])) (type_at (λ t. every_type (λ u. f (t ∷ t ∷ u ∷ u ∷ []))) h a) x in
      subst (λ v. f (a ∷ b ∷ x ∷ v ∷ []) ≡ true) same (subst (λ v. f (a ∷ v ∷ x ∷ x ∷ []) ≡ true) third.0 whole))

fits_judged : (op : Op) (ty : LaneType) (k : ℕ) (ts : List LaneType) → length ts ≡ operand_count (row_of op).operands → k < 64 → IsJudged (row_of op) ty k ts → fits op ty k ts ≡ true
fits_judged op ty k ts count small j =
    let types = list_at (fits_types op) (row_of op).operands (all_fit op) ts count j.operands in
    let stated = granted (is_none (first_difference (wanted (row_of op).operands ts) ts)) _ types (ap is_none j.operands) in
    let amounts = granted (same_type (result_type (row_of op).gives ty ts) ty) _ (type_at (fits_amounts op ts) stated ty) (ap (λ u. same_type u ty) j.result ∙ same_self ty) in
    let amount = below_at (λ i. if is_amount (row_of op).amounts (first_width ts) i then fits op ty i ts else true) 64 k amounts small in
    granted (is_amount (row_of op).amounts (first_width ts) k) _ amount j.amount

in_type : (o : Option Range) (ty : LaneType) → lies_in_type o ty ≡ true → (s : Range) × (o ≡ Some s) × (lies_in s (lane_range ty) ≡ true)
in_type None ty h = absurd (cc)
in_type (Some s) ty h = (s, refl, h)

-- at operands that lie in their types
pub row_found : (op : Op) (ty : LaneType) (k : ℕ) (ts : List LaneType) (rs : List Range) → length ts ≡ operand_count (row_of op).operands → k < 64 → IsJudged (row_of op) ty k ts →
    AreUnder rs (map lane_range ts) → Found (row_range op ty k rs) (lane_range ty)
row_found op ty k ts rs count small j under =
    let whole = in_type (row_range op ty k (map lane_range ts)) ty (fits_judged op ty k ts count small j) in
    found_in _ whole.0 (lane_range ty) (narrowed rs (map lane_range ts) under (at (vars ty k) (formula op)) whole.0 whole.1) (lies_low whole.0 (lane_range ty) whole.2) (lies_high whole.0 (lane_range ty) whole.2)
