-- A well-typed node's value lies in its type where its operands' values lie in theirs.
use Rattle.std.proofs.Common.{◌≡◌, refl, sym, ap, ◌∙◌, subst, ℕ, ◌-◌, ◌^◌, ◌<◌, ℤ, pos, ◌+ℤ◌, ◌-ℤ◌, ◌*ℤ◌, arith, Bool, true, false, List, [], ◌∷◌, length, lit<}
use Rattle.std.specs.Prelude.{int_lt, Option, Some, None, Ok, nat_le, if◌then◌else◌}
use Rattle.std.specs.Option.{option_or}
use Rattle.std.proofs.lemmas.Int.{ints}
use Rattle.std.proofs.lemmas.Nat.{pow_below, pow_pos}
use borrow.Author.Tests.{leb-true}
use Rattle.pf_ints.specs.declared.lane.LaneType.{LaneType}
use Rattle.pf_ints.specs.declared.lane.Bits.{Bits}
use Rattle.pf_ints.specs.declared.lane.Bits.TheVariants.{Eight, Sixteen, ThirtyTwo}
use Rattle.pf_ints.specs.Meaning.Lanes.{lane_width, IsIn}
use Rattle.pf_ints.specs.Meaning.Whole.{floor_div}
use Rattle.pf_values.specs.declared.op.Op.{Op}
use Rattle.pf_values.specs.declared.op.Op.TheVariants.{Cast, Add, Sub, Mul, ShiftLeft, ShiftRight, Min, Max, SelectGreater, SelectEqual, Abs, WideningAdd, WideningSub, WideningMul, ExtendingAdd, HalvingAdd, RoundingHalvingAdd, HalvingSub, SaturatingAdd, SaturatingSub, SaturatingCast, Absd, RoundingShr, MulShr, RoundingMulShr}
use Rattle.pf_values.specs.declared.row.Operands.TheVariants.{OneSigned, Alike, Narrow, Choice}
use Rattle.pf_values.specs.declared.row.Amounts.TheVariants.{RoundingShift}
use Rattle.pf_values.specs.Meaning.Operators.{Row, row_of, shifted, half_step, int_same}
use Rattle.pf_values.specs.Meaning.Terms.{same_bool, same_bits, same_type, typed_as, at_most_sixteen, doubled, wanted, first_difference, result_type, is_amount, first_width, type_fault, unless_differs, node_type, operand_count}
use Rattle.pf_values.proofs.Typing.{and_left, and_right}
use Rattle.pf_values.proofs.Ranges.{wrapped_in, clamped_in, shifted_in, halved_in, lesser_in, greater_in, one_of_in, abs_in, absd_in, IsNarrow, sum_in, difference_in, product_in}

-- tests that mean what they say
same_bool_is : (a b : Bool) → same_bool a b ≡ true → a ≡ b
same_bool_is true b h = sym h
same_bool_is false true h = absurd (cc)
same_bool_is false false h = refl

same_bits_is : (a b : Bits) → same_bits a b ≡ true → a ≡ b
same_bits_is Eight Eight h = refl
same_bits_is Sixteen Sixteen h = refl
same_bits_is ThirtyTwo ThirtyTwo h = refl
same_bits_is Eight Sixteen h = absurd (cc)
same_bits_is Eight ThirtyTwo h = absurd (cc)
same_bits_is Sixteen Eight h = absurd (cc)
same_bits_is Sixteen ThirtyTwo h = absurd (cc)
same_bits_is ThirtyTwo Eight h = absurd (cc)
same_bits_is ThirtyTwo Sixteen h = absurd (cc)

pub same_type_is : (t u : LaneType) → same_type t u ≡ true → t ≡ u
same_type_is t u h =
    let signs = same_bool_is t.signed u.signed (and_left _ (same_bits t.bits u.bits) h) in
    let widths = same_bits_is t.bits u.bits (and_right (same_bool t.signed u.signed) _ h) in
    ap (λ b. typed_as b t.bits) signs ∙ ap (λ b. typed_as u.signed b) widths

if_none : {A : Type 0} (c : Bool) (o : Option A) (x : A) → (if c then o else Some x) ≡ None → (c ≡ true) × (o ≡ None)
if_none true o x h = (refl, h)
if_none false o x h = absurd (cc)

-- no difference at the first place, and none behind it
no_difference : (w g : LaneType) (ws gs : List LaneType) → first_difference (w ∷ ws) (g ∷ gs) ≡ None → (w ≡ g) × (first_difference ws gs ≡ None)
no_difference w g ws gs h =
    let both = if_none (same_type w g) (first_difference ws gs) (w, g) h in
    (same_type_is w g both.0, both.1)

or_none : {A : Type 0} (o p : Option A) → option_or o p ≡ None → (o ≡ None) × (p ≡ None)
or_none None p h = (refl, h)
or_none (Some x) p h = absurd (cc)

-- what the table asks of a node
pub record IsJudged (r : Row) (ty : LaneType) (k : ℕ) (ts : List LaneType) : Type 0 where
  pub operands : first_difference (wanted r.operands ts) ts ≡ None
  pub result : result_type r.gives ty ts ≡ ty
  pub amount : is_amount r.amounts (first_width ts) k ≡ true

no_fault : (o : Option (LaneType × LaneType)) (fits : Bool) (ty u : LaneType) (k : ℕ) → unless_differs o fits ty k ≡ Ok u → (o ≡ None) × (fits ≡ true) × (ty ≡ u)
no_fault (Some p) fits ty u k h = absurd (cc)
no_fault None true ty u k h = (refl, refl, cc)
no_fault None false ty u k h = absurd (cc)

pub judged : (r : Row) (ty u : LaneType) (k : ℕ) (ts : List LaneType) → node_type r ty k ts ≡ Ok u → IsJudged r ty k ts × (ty ≡ u)
judged r ty u k ts h =
    let found = no_fault (type_fault r ty ts) (is_amount r.amounts (first_width ts) k) ty u k h in
    let none = or_none (first_difference (wanted r.operands ts) ts) (first_difference (result_type r.gives ty ts ∷ []) (ty ∷ [])) found.0 in
    (record { operands = none.0; result = (no_difference (result_type r.gives ty ts) ty [] [] none.1).0; amount = found.1 }, found.2)

-- the numbers lie in the types, place by place
abbrev pub AreIn : List LaneType → List ℤ → Type 0
AreIn [] [] = Unit {0}
AreIn (t ∷ ts) (x ∷ xs) = IsIn t x × AreIn ts xs
AreIn [] (x ∷ xs) = ⊥
AreIn (t ∷ ts) [] = ⊥

by_one_in : (P : List LaneType → List ℤ → Type 0) → ((t : LaneType) (x : ℤ) → IsIn t x → P (t ∷ []) (x ∷ [])) → (ts : List LaneType) (xs : List ℤ) → length ts ≡ 1 → AreIn ts xs → P ts xs
by_one_in P f [] xs n h = absurd (omega arith)
by_one_in P f (t ∷ []) [] n h = absurd h
by_one_in P f (t ∷ []) (x ∷ []) n h = f t x h.0
by_one_in P f (t ∷ []) (x ∷ y ∷ xs) n h = absurd h.1
by_one_in P f (t ∷ u ∷ ts) xs n h = absurd (omega arith)

by_two_in : (P : List LaneType → List ℤ → Type 0) → ((t u : LaneType) (x y : ℤ) → IsIn t x → IsIn u y → P (t ∷ u ∷ []) (x ∷ y ∷ [])) → (ts : List LaneType) (xs : List ℤ) → length ts ≡ 2 → AreIn ts xs → P ts xs
by_two_in P f [] xs n h = absurd (omega arith)
by_two_in P f (t ∷ []) xs n h = absurd (omega arith)
by_two_in P f (t ∷ u ∷ []) [] n h = absurd h
by_two_in P f (t ∷ u ∷ []) (x ∷ []) n h = absurd h.1
by_two_in P f (t ∷ u ∷ []) (x ∷ y ∷ []) n h = f t u x y h.0 h.1.0
by_two_in P f (t ∷ u ∷ []) (x ∷ y ∷ z ∷ xs) n h = absurd h.1.1
by_two_in P f (t ∷ u ∷ v ∷ ts) xs n h = absurd (omega arith)

by_four_in : (P : List LaneType → List ℤ → Type 0) → ((s t u v : LaneType) (a b x y : ℤ) → IsIn u x → IsIn v y → P (s ∷ t ∷ u ∷ v ∷ []) (a ∷ b ∷ x ∷ y ∷ [])) → (ts : List LaneType) (xs : List ℤ) → length ts ≡ 4 → AreIn ts xs → P ts xs
by_four_in P f [] xs n h = absurd (omega arith)
by_four_in P f (s ∷ []) xs n h = absurd (omega arith)
by_four_in P f (s ∷ t ∷ []) xs n h = absurd (omega arith)
by_four_in P f (s ∷ t ∷ u ∷ []) xs n h = absurd (omega arith)
by_four_in P f (s ∷ t ∷ u ∷ v ∷ []) [] n h = absurd h
by_four_in P f (s ∷ t ∷ u ∷ v ∷ []) (a ∷ []) n h = absurd h.1
by_four_in P f (s ∷ t ∷ u ∷ v ∷ []) (a ∷ b ∷ []) n h = absurd h.1.1
by_four_in P f (s ∷ t ∷ u ∷ v ∷ []) (a ∷ b ∷ x ∷ []) n h = absurd h.1.1.1
by_four_in P f (s ∷ t ∷ u ∷ v ∷ []) (a ∷ b ∷ x ∷ y ∷ []) n h = f s t u v a b x y h.1.1.0 h.1.1.1.0
by_four_in P f (s ∷ t ∷ u ∷ v ∷ []) (a ∷ b ∷ x ∷ y ∷ z ∷ xs) n h = absurd h.1.1.1.1
by_four_in P f (s ∷ t ∷ u ∷ v ∷ w ∷ ts) xs n h = absurd (omega arith)

-- the operands' types, by what the table asks
alike : (t u : LaneType) → first_difference (wanted Alike (t ∷ u ∷ [])) (t ∷ u ∷ []) ≡ None → t ≡ u
alike t u h = (no_difference t u [] [] (no_difference t t (t ∷ []) (u ∷ []) h).1).0

narrow_by : (b : Bits) → at_most_sixteen b ≡ b → IsNarrow b
narrow_by Eight h = tt
narrow_by Sixteen h = tt
narrow_by ThirtyTwo h = absurd (cc)

narrow : (t u : LaneType) → first_difference (wanted Narrow (t ∷ u ∷ [])) (t ∷ u ∷ []) ≡ None → IsNarrow t.bits × (t ≡ u)
narrow t u h =
    let first = no_difference (typed_as t.signed (at_most_sixteen t.bits)) t (t ∷ []) (u ∷ []) h in
    (narrow_by t.bits (ap (λ v. v.bits) first.0), (no_difference t u [] [] first.1).0)

signed_one : (t : LaneType) → first_difference (wanted OneSigned (t ∷ [])) (t ∷ []) ≡ None → typed_as true t.bits ≡ t
signed_one t h = (no_difference (typed_as true t.bits) t [] [] h).0

choice_types : (s t u v : LaneType) → first_difference (wanted Choice (s ∷ t ∷ u ∷ v ∷ [])) (s ∷ t ∷ u ∷ v ∷ []) ≡ None → u ≡ v
choice_types s t u v h =
    let second = no_difference s s (s ∷ typed_as u.signed s.bits ∷ u ∷ []) (t ∷ u ∷ v ∷ []) h in
    let third = no_difference s t (typed_as u.signed s.bits ∷ u ∷ []) (u ∷ v ∷ []) second.1 in
    let fourth = no_difference (typed_as u.signed s.bits) u (u ∷ []) (v ∷ []) third.1 in
    (no_difference u v [] [] fourth.1).0

-- a rounding shift's amount is at least 1
some_amount : (k w : ℕ) → is_amount RoundingShift w k ≡ true → 0 < k
some_amount k w h = omega (arith, leb-true 1 k (and_left _ (nat_le k (w - 1)) h))

half_below : (k : ℕ) → 0 < k → 2 ^ (k - 1) < 2 ^ k
half_below k some = pow_below (k - 1) k (omega arith)

plain : (x : ℤ) → x +ℤ pos 0 ≡ x
plain x = omega (arith, ints)

none_below : (k : ℕ) → 0 < 2 ^ k
none_below k = pow_pos k

-- said of each operator over operands of these types and values
abbrev Keeps : Op → LaneType → ℕ → List LaneType → List ℤ → Type 0
Keeps op ty k ts xs = IsJudged (row_of op) ty k ts → IsIn ty ((row_of op).value ty k xs)

into : (t u : LaneType) (n : ℤ) → t ≡ u → IsIn t n → IsIn u n
into t u n e h = subst (λ v. IsIn v n) e h

pub value_in : (op : Op) (ty : LaneType) (k : ℕ) (ts : List LaneType) (xs : List ℤ) → length ts ≡ operand_count (row_of op).operands → AreIn ts xs →
    IsJudged (row_of op) ty k ts → IsIn ty ((row_of op).value ty k xs)
value_in Cast ty k ts xs n h = by_one_in (Keeps Cast ty k) (λ t x h j. wrapped_in ty x) ts xs n h
value_in Add ty k ts xs n h = by_two_in (Keeps Add ty k) (λ t u x y a b j. wrapped_in ty (x +ℤ y)) ts xs n h
value_in Sub ty k ts xs n h = by_two_in (Keeps Sub ty k) (λ t u x y a b j. wrapped_in ty (x -ℤ y)) ts xs n h
value_in Mul ty k ts xs n h = by_two_in (Keeps Mul ty k) (λ t u x y a b j. wrapped_in ty (x *ℤ y)) ts xs n h
value_in ShiftLeft ty k ts xs n h = by_one_in (Keeps ShiftLeft ty k) (λ t x h j. wrapped_in ty (x *ℤ pos (2 ^ k))) ts xs n h
value_in ShiftRight ty k ts xs n h = by_one_in (Keeps ShiftRight ty k) (λ t x h j. into t ty _ j.result (subst (λ z. IsIn t (floor_div z (2 ^ k))) (plain x) (shifted_in t x 0 k (none_below k) h))) ts xs n h
value_in Min ty k ts xs n h = by_two_in (Keeps Min ty k) (λ t u x y a b j. into t ty _ j.result (lesser_in t x y a (into u t y (sym (alike t u j.operands)) b))) ts xs n h
value_in Max ty k ts xs n h = by_two_in (Keeps Max ty k) (λ t u x y a b j. into t ty _ j.result (greater_in t x y a (into u t y (sym (alike t u j.operands)) b))) ts xs n h
value_in SelectGreater ty k ts xs n h = by_four_in (Keeps SelectGreater ty k) (λ s t u v a b x y h l j. into u ty _ j.result (one_of_in u (int_lt b a) x y h (into v u y (sym (choice_types s t u v j.operands)) l))) ts xs n h
value_in SelectEqual ty k ts xs n h = by_four_in (Keeps SelectEqual ty k) (λ s t u v a b x y h l j. into u ty _ j.result (one_of_in u (int_same a b) x y h (into v u y (sym (choice_types s t u v j.operands)) l))) ts xs n h
value_in Abs ty k ts xs n h = by_one_in (Keeps Abs ty k) (λ t x h j. into (typed_as false t.bits) ty _ j.result (abs_in t.bits x (into t (typed_as true t.bits) x (sym (signed_one t j.operands)) h))) ts xs n h
value_in WideningAdd ty k ts xs n h = by_two_in (Keeps WideningAdd ty k) (λ t u x y a b j. let n = narrow t u j.operands in into (typed_as t.signed (doubled t.bits)) ty _ j.result (sum_in t x y n.0 a (into u t y (sym n.1) b))) ts xs n h
value_in WideningSub ty k ts xs n h = by_two_in (Keeps WideningSub ty k) (λ t u x y a b j. let n = narrow t u j.operands in into (typed_as true (doubled t.bits)) ty _ j.result (difference_in t x y n.0 a (into u t y (sym n.1) b))) ts xs n h
value_in WideningMul ty k ts xs n h = by_two_in (Keeps WideningMul ty k) (λ t u x y a b j. let n = narrow t u j.operands in into (typed_as t.signed (doubled t.bits)) ty _ j.result (product_in t x y n.0 a (into u t y (sym n.1) b))) ts xs n h
value_in ExtendingAdd ty k ts xs n h = by_two_in (Keeps ExtendingAdd ty k) (λ t u x y a b j. wrapped_in ty (x +ℤ y)) ts xs n h
value_in HalvingAdd ty k ts xs n h = by_two_in (Keeps HalvingAdd ty k) (λ t u x y a b j. into t ty _ j.result (subst (λ z. IsIn t (floor_div z 2)) (plain (x +ℤ y)) (halved_in t x y 0 (lit< tt) a (into u t y (sym (alike t u j.operands)) b)))) ts xs n h
value_in RoundingHalvingAdd ty k ts xs n h = by_two_in (Keeps RoundingHalvingAdd ty k) (λ t u x y a b j. into t ty _ j.result (halved_in t x y 1 (lit< tt) a (into u t y (sym (alike t u j.operands)) b))) ts xs n h
value_in HalvingSub ty k ts xs n h = by_two_in (Keeps HalvingSub ty k) (λ t u x y a b j. wrapped_in ty (shifted (x -ℤ y) 1)) ts xs n h
value_in SaturatingAdd ty k ts xs n h = by_two_in (Keeps SaturatingAdd ty k) (λ t u x y a b j. clamped_in ty (x +ℤ y)) ts xs n h
value_in SaturatingSub ty k ts xs n h = by_two_in (Keeps SaturatingSub ty k) (λ t u x y a b j. clamped_in ty (x -ℤ y)) ts xs n h
value_in SaturatingCast ty k ts xs n h = by_one_in (Keeps SaturatingCast ty k) (λ t x h j. clamped_in ty x) ts xs n h
value_in Absd ty k ts xs n h = by_two_in (Keeps Absd ty k) (λ t u x y a b j. into (typed_as false t.bits) ty _ j.result (absd_in t x y a (into u t y (sym (alike t u j.operands)) b))) ts xs n h
value_in RoundingShr ty k ts xs n h = by_one_in (Keeps RoundingShr ty k) (λ t x h j. into t ty _ j.result (shifted_in t x (2 ^ (k - 1)) k (half_below k (some_amount k (lane_width t) j.amount)) h)) ts xs n h
value_in MulShr ty k ts xs n h = by_two_in (Keeps MulShr ty k) (λ t u x y a b j. clamped_in ty (shifted (x *ℤ y) k)) ts xs n h
value_in RoundingMulShr ty k ts xs n h = by_two_in (Keeps RoundingMulShr ty k) (λ t u x y a b j. clamped_in ty (shifted (x *ℤ y +ℤ half_step k) k)) ts xs n h
