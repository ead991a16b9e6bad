-- Each row of the table: what is looked up in its left form, and that both its forms have one value.
use Rattle.std.proofs.Common.{◌≡◌, refl, sym, ap, ◌∙◌, ℕ, ◌^◌, ◌≤◌, ℤ, pos, negsuc, ◌-ℤ◌, ◌*ℤ◌, ◌≤ℤ◌, Bool, true, false, cond, arith}
use Rattle.std.specs.Prelude.{nat_le, nat_lt, int_lt, unsigned_abs, neg_ℤ}
use Rattle.std.specs.Int.{int_min, int_max}
use Rattle.std.specs.Int.Signed.{le_z}
use Rattle.std.proofs.lemmas.Int.{ints, clamps}
use Rattle.std.proofs.lemmas.Nat.{pow_pos, pow-add, pow_below}
use Rattle.std.proofs.lemmas.Bool.Decides.{nat_tests}
use Rattle.pf_ints.specs.declared.lane.LaneType.{LaneType}
use Rattle.pf_ints.specs.Meaning.Lanes.{least, greatest, clamped}
use Rattle.pf_ints.specs.Meaning.Ranges.{Includes, range, furthest}
use Rattle.pf_ints.proofs.Ring.{distribute, mul_assoc, mul_comm}
use Rattle.pf_ints.proofs.LaneLaws.{spans, nearest, wrapped_same}
use Rattle.pf_ints.proofs.RangeLaws.{distance_is}
use Rattle.pf_forms.specs.Meaning.Values.{FVal, IsFormOver}
use Rattle.pf_forms.specs.Meaning.Shapes.{Num, Pow}
use Rattle.pf_forms.proofs.EqualityLaws.{both}
use Rattle.pf_templates.specs.Meaning.Letters.{Letters}
use Rattle.pf_templates.specs.Meaning.Templates.{at}
use Rattle.pf_templates.proofs.ExponentLaws.{exponent_back, is_below, is_not_below}
use Rattle.pf_forms.specs.declared.axioms.Axiom.{Axiom}
use Rattle.pf_forms.specs.declared.axioms.Axiom.TheVariants.{AddComm, AddAssoc, AddBack, AddZero, SubAdd, Cancel, MulComm, MulAssoc, MulBack, MulOne, Distribute, Fold, DropWrap, WrapWrap, WrapAdd, WrapMul, MulZero, Factor, PowNum, NumPow, PowAdd, DivOne, DivDiv, DivScale, DivOut, DivIn, DivInner, NegDiv, DivZero, DivNeg, DropSat, SatClamp, SatSat, SatHigh, SatLow, MinComm, MaxComm, MinLeft, MaxLeft, MinAdd, MaxAdd, MinDiv, MaxDiv, SelMax, SelMin, SelSame, MaxMinAbs, AbsPos, AbsNeg}
use Rattle.pf_axioms.specs.Meaning.Needs.{covers}
use Rattle.pf_axioms.specs.Meaning.Rows.{AxiomRow, Law, Folding, axiom_row}
use Rattle.pf_axioms.proofs.Divs.{div_one, div_twice, div_scale, div_out, div_inner, neg_div, div_zero, div_neg, min_div, max_div}
use Rattle.pf_axioms.proofs.WrapLaws.{wrapped-wrapped, wrapped-add-wrapped, wrapped-mul-wrapped}
use Rattle.pf_axioms.proofs.Sound.{Agrees, SameValue, IsSound}

abbrev AgreesRow : AxiomRow → Type 0
AgreesRow Folding = Unit {0}
AgreesRow (Law left right needs) = (count : ℕ) (l : Letters) → IsFormOver count (at l left) → Agrees left right needs l

abbrev SameValueRow : AxiomRow → Type 0
SameValueRow Folding = Unit {0}
SameValueRow (Law left right needs) = SameValue left right needs

abbrev pub IsSoundRow : AxiomRow → Type 0
IsSoundRow Folding = Unit {0}
IsSoundRow (Law left right needs) = IsSound left right needs

is_wider : (t u : ℕ) → nat_le t u ≡ true → t ≤ u
is_wider t u e = grind (arith, nat_tests)

power_near : (a : ℕ) → Includes (range (neg_ℤ furthest) furthest) (pos (2 ^ a)) → a ≤ 120
power_near a h = by_order (nat_lt 120 a) refl
  where
    by_order : (b : Bool) → nat_lt 120 a ≡ b → a ≤ 120
    by_order true p = let less = pow_below 120 a (is_below 120 a p) in absurd (omega (arith, ints, h.high, less))
    by_order false p = is_not_below 120 a p

chosen : (c : Bool) (z : ℤ) → z ≡ cond c z z
chosen true z = refl
chosen false z = refl

-- what is looked up
agrees : (law : Axiom) → AgreesRow (axiom_row law)
agrees Fold = tt
agrees NumPow = λ count l h.
    (let back = exponent_back l.a (power_near l.a h) in
    record { is_left = ap (λ (e : ℕ). Num (pos (2 ^ e))) back; is_right = ap Pow back; suited = refl; asked = λ rs. refl })
agrees _ = λ count l h. record { is_left = refl; is_right = refl; suited = refl; asked = λ rs. refl }

module _ (t : LaneType) (x : ℤ) where
  clamp_is : int_min (int_max x (least t)) (greatest t) ≡ clamped t x
  unfolding clamped
  clamp_is = let s = spans t in omega (arith, ints, clamps, s.low, s.high)

  high_is : least t ≤ℤ x → int_min x (greatest t) ≡ clamped t x
  unfolding clamped
  high_is h = let s = spans t in omega (arith, ints, clamps, s.low, s.high, h)

  low_is : x ≤ℤ greatest t → int_max x (least t) ≡ clamped t x
  unfolding clamped
  low_is h = let s = spans t in omega (arith, ints, clamps, s.low, s.high, h)

twice_clamped : (t u : LaneType) (x : ℤ) → covers u t ≡ true → clamped t x ≡ clamped t (clamped u x)
unfolding clamped
twice_clamped t u x e =
    let s = spans t in
    let p = both (le_z (least u) (least t)) (le_z (greatest t) (greatest u)) e in
    omega (arith, ints, clamps, s.low, s.high, p.0, p.1)

abs_between : (x y : ℤ) → pos (unsigned_abs (x -ℤ y)) ≡ int_max x y -ℤ int_min x y
abs_between x y = distance_is (x -ℤ y) ∙ omega (arith, ints, clamps)

abs_up : (x : ℤ) → pos 0 ≤ℤ x → x ≡ pos (unsigned_abs x)
abs_up x h = sym (distance_is x ∙ omega (arith, ints, clamps, h))

abs_down : (x : ℤ) → x ≤ℤ pos 0 → negsuc 0 *ℤ x ≡ pos (unsigned_abs x)
abs_down x h = sym (distance_is x ∙ omega (arith, ints, clamps, h))

-- both forms have one value
same_value : (law : Axiom) → SameValueRow (axiom_row law)
same_value AddComm = λ v l s h. omega (arith, ints)
same_value AddAssoc = λ v l s h. omega (arith, ints)
same_value AddBack = λ v l s h. omega (arith, ints)
same_value AddZero = λ v l s h. omega (arith, ints)
same_value SubAdd = λ v l s h. omega (arith, ints)
same_value Cancel = λ v l s h. omega (arith, ints)
same_value MulComm = λ v l s h. mul_comm (FVal v l.y) (FVal v l.x)
same_value MulAssoc = λ v l s h. sym (mul_assoc (FVal v l.x) (FVal v l.y) (FVal v l.z))
same_value MulBack = λ v l s h. mul_assoc (FVal v l.x) (FVal v l.y) (FVal v l.z)
same_value MulOne = λ v l s h. omega (arith, ints)
same_value Distribute = λ v l s h. sym (distribute (FVal v l.x) (FVal v l.y) (FVal v l.z))
same_value Fold = tt
same_value DropWrap = λ v l s h. (let k = h refl in sym (wrapped_same l.t _ (record { low = k.low; high = k.high })))
same_value WrapWrap = λ v l s h. wrapped-wrapped l.t l.u (is_wider _ _ s) _
same_value WrapAdd = λ v l s h. wrapped-add-wrapped l.t l.u (is_wider _ _ s) _ _
same_value WrapMul = λ v l s h. wrapped-mul-wrapped l.t l.u (is_wider _ _ s) _ _
same_value MulZero = λ v l s h. omega (arith, ints)
same_value Factor = λ v l s h. distribute (FVal v l.x) (FVal v l.y) (FVal v l.z)
same_value PowNum = λ v l s h. refl
same_value NumPow = λ v l s h. refl
same_value PowAdd = λ v l s h. ap pos (pow-add 2 l.a l.b)
same_value DivOne = λ v l s h. div_one _
same_value DivDiv = λ v l s h. div_twice (FVal v l.x) l.a l.b
same_value DivScale = λ v l s h. div_scale _ l.a l.b (is_wider _ _ s)
same_value DivOut = λ v l s h. sym (div_out _ _ (2 ^ l.a) (pow_pos l.a))
same_value DivIn = λ v l s h. div_out _ _ (2 ^ l.a) (pow_pos l.a)
same_value DivInner = λ v l s h. div_inner _ _ l.a l.b
same_value NegDiv = λ v l s h. sym (neg_div _ (2 ^ l.a) (pow_pos l.a))
same_value DivZero = λ v l s h. (let k = h refl in sym (div_zero _ (2 ^ l.a) k.low (omega (arith, ints, k.high))))
same_value DivNeg = λ v l s h. (let k = h refl in sym (div_neg _ (2 ^ l.a) k.low (omega (arith, ints, k.high))))
same_value DropSat = λ v l s h. (let k = h refl in sym ((nearest l.t _).same (record { low = k.low; high = k.high })))
same_value SatClamp = λ v l s h. clamp_is l.t _
same_value SatSat = λ v l s h. twice_clamped l.t l.u _ s
same_value SatHigh = λ v l s h. high_is l.t _ (h refl).low
same_value SatLow = λ v l s h. low_is l.t _ (h refl).high
same_value MinComm = λ v l s h. omega (arith, ints, clamps)
same_value MaxComm = λ v l s h. omega (arith, ints, clamps)
same_value MinLeft = λ v l s h. (let k = h refl in omega (arith, ints, clamps, k.inside.low, k.high))
same_value MaxLeft = λ v l s h. (let k = h refl in omega (arith, ints, clamps, k.inside.high, k.low))
same_value MinAdd = λ v l s h. omega (arith, ints, clamps)
same_value MaxAdd = λ v l s h. omega (arith, ints, clamps)
same_value MinDiv = λ v l s h. sym (min_div _ _ (2 ^ l.a) (pow_pos l.a))
same_value MaxDiv = λ v l s h. sym (max_div _ _ (2 ^ l.a) (pow_pos l.a))
same_value SelMax = λ v l s h. refl
same_value SelMin = λ v l s h. refl
same_value SelSame = λ v l s h. chosen (int_lt (FVal v l.y) (FVal v l.x)) (FVal v l.z)
same_value MaxMinAbs = λ v l s h. abs_between (FVal v l.x) (FVal v l.y)
same_value AbsPos = λ v l s h. (let k = h refl in abs_up _ k.low)
same_value AbsNeg = λ v l s h. (let k = h refl in abs_down _ k.high)

join : (row : AxiomRow) → AgreesRow row → SameValueRow row → IsSoundRow row
join Folding a s = tt
join (Law left right needs) a s = record { agrees = a; same_value = s }

pub sound : (law : Axiom) → IsSoundRow (axiom_row law)
sound law = join (axiom_row law) (agrees law) (same_value law)
