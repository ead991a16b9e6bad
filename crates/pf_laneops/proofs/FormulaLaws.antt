-- A formula's own numbers and exponents are within the limits of forms, so over forms it is a form.
use Rattle.std.proofs.Common.{◌≡◌, refl, sym, subst, ℕ, zero, suc, ◌-◌, ◌^◌, ◌<◌, ℤ, pos, Bool, true, false, List, [], ◌∷◌, length, Err, arith}
use Rattle.std.specs.Prelude.{neg_ℤ, nat_lt, slice_index_or}
use Rattle.std.proofs.lemmas.Int.{ints}
use Rattle.std.proofs.lemmas.Nat.{pow_below}
use Rattle.std.proofs.lemmas.Bool.Decides.{nat_tests}
use Rattle.pf_ints.specs.declared.lane.LaneType.{LaneType}
use Rattle.pf_ints.specs.Meaning.Ranges.{Includes, range, furthest}
use Rattle.pf_forms.specs.declared.form.Form.{Form}
use Rattle.pf_forms.specs.Meaning.Shapes.{Shape, shape}
use Rattle.pf_forms.specs.Meaning.Values.{IsFormOver}
use Rattle.pf_templates.specs.declared.fault.BuildFault.{BuildFault}
use Rattle.pf_templates.specs.declared.fault.BuildFault.TheVariants.{TooWide, Memory}
use Rattle.pf_templates.specs.Meaning.Building.{is_within_forms, has_room, Makes, AreForms}
use Rattle.pf_templates.specs.Meaning.Letters.{Letters}
use Rattle.pf_templates.specs.Meaning.Templates.{Tree, at}
use Rattle.pf_templates.proofs.TemplateLaws.{within_included, form_of_room}
use Rattle.pf_values.specs.declared.op.Op.{Op}
use Rattle.pf_values.specs.declared.op.Op.TheVariants as op
use Rattle.pf_laneops.specs.declared.lane_name.LaneName.{LaneName}
use Rattle.pf_laneops.specs.declared.lane_name.LaneName.TheVariants as lane
use Rattle.pf_laneops.specs.Meaning.Formulas.{formula, lane_formula, over, operand, AreFormsOver}

within_of : (n : ℤ) → Includes (range (neg_ℤ furthest) furthest) n → is_within_forms n ≡ true
within_of n h = by_test (is_within_forms n) refl
  where
    by_test : (b : Bool) → is_within_forms n ≡ b → is_within_forms n ≡ true
    by_test true e = e
    by_test false e = absurd (within_included n h e)

module _ (l : Letters) (small : l.a < 120) where
  power : nat_lt l.a 120 ≡ true
  power = grind (arith, nat_tests)

  half : is_within_forms (pos (2 ^ (l.a - 1))) ≡ true
  half =
      let less = pow_below (l.a - 1) 120 (omega (arith, small)) in
      within_of (pos (2 ^ (l.a - 1))) (record { low = omega (arith, ints); high = omega (arith, ints, less) })

  pub op_room : (o : Op) → has_room l (formula o) ≡ true
  op_room op.ShiftLeft = power
  op_room op.ShiftRight = power
  op_room op.RoundingShr = rw (half, power) refl
  op_room op.MulShr = power
  op_room op.RoundingMulShr = rw (half, power) refl
  op_room _ = refl

  pub lane_room : (o : LaneName) → has_room l (lane_formula o) ≡ true
  lane_room lane.Shl = power
  lane_room lane.Shr = power
  lane_room lane.RoundingShr = rw (half, power) refl
  lane_room lane.MulHigh = power
  lane_room lane.MulQ = power
  lane_room lane.MulQr = rw (half, power) refl
  lane_room lane.WidenShl = power
  lane_room lane.NarrowShr = power
  lane_room lane.NarrowRshr = rw (half, power) refl
  lane_room lane.SatNarrowShr = power
  lane_room lane.SatNarrowRshr = rw (half, power) refl
  lane_room _ = refl

module _ (count : ℕ) where
  nth_form : (fs : List Shape) (n : ℕ) (d : Shape) → AreFormsOver count fs → IsFormOver count d → IsFormOver count (slice_index_or fs n d)
  nth_form [] n d h k = k
  nth_form (f ∷ fs) zero d h k = h.0
  nth_form (f ∷ fs) (suc n) d h k = nth_form fs n d h.1 k

  operand_form : (fs : List Shape) (n : ℕ) → 0 < length fs → AreFormsOver count fs → IsFormOver count (operand fs n)
  operand_form [] n some h = absurd (omega (arith, some))
  operand_form (f ∷ fs) n some h = nth_form (f ∷ fs) n f h h.0

  over_forms : (ty : LaneType) (a : ℕ) (fs : List Shape) → a < 120 → 0 < length fs → AreFormsOver count fs → AreForms count (over ty a fs)
  over_forms ty a fs small some h = record {
    x = operand_form fs 0 some h;
    y = operand_form fs 1 some h;
    z = operand_form fs 2 some h;
    v = operand_form fs 3 some h;
    a = omega (arith, small);
    b = omega (arith, small);
  }

  pub form_over : (ty : LaneType) (a : ℕ) (fs : List Shape) (t : Tree) → a < 120 → 0 < length fs → has_room (over ty a fs) t ≡ true → AreFormsOver count fs → IsFormOver count (at (over ty a fs) t)
  form_over ty a fs t small some room h = form_of_room count (over ty a fs) (over_forms ty a fs small some h) t room

-- what is built of a formula isn't refused
pub not_wide : (fault : BuildFault) (room : Bool) (g : Shape) → fault ≡ TooWide → Makes {A = Form} shape (Err fault) room g → room ≡ true → ⊥
not_wide TooWide room g e made room_is = cc (made, room_is)
not_wide Memory room g e made room_is = absurd (cc e)

pub op_room_at : (o : Op) (l : Letters) (ty : LaneType) (a : ℕ) (fs : List Shape) → l ≡ over ty a fs → a < 120 → has_room l (formula o) ≡ true
op_room_at o l ty a fs e small = rw e (op_room (over ty a fs) small o)

pub lane_room_at : (o : LaneName) (l : Letters) (ty : LaneType) (a : ℕ) (fs : List Shape) → l ≡ over ty a fs → a < 120 → has_room l (lane_formula o) ≡ true
lane_room_at o l ty a fs e small = rw e (lane_room (over ty a fs) small o)

pub forms_at : (count : ℕ) (l : Letters) (t : Tree) (ty : LaneType) (a : ℕ) (fs : List Shape) → l ≡ over ty a fs → a < 120 → 0 < length fs → has_room l t ≡ true → AreFormsOver count fs → IsFormOver count (at l t)
forms_at count l t ty a fs e small some room h =
    subst (λ m. IsFormOver count (at m t)) (sym e) (form_over count ty a fs t small some (subst (λ m. has_room m t ≡ true) e room) h)
