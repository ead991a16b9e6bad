-- The value of a formula is that of the same formula over variables that have the operands' values, and an operator's formula has its value.
use Rattle.std.proofs.Common.{◌≡◌, refl, sym, ap, ◌∙◌, ℕ, ◌<◌, ℤ, Bool, true, false, cond, List, [], ◌∷◌, length, map, arith}
use Rattle.std.specs.Prelude.{int_lt, int_le, ◌&&◌}
use Rattle.std.proofs.lemmas.Int.{ints}
use Rattle.pf_ints.specs.declared.lane.LaneType.{LaneType}
use Rattle.pf_forms.specs.Meaning.Shapes.{Shape}
use Rattle.pf_forms.specs.Meaning.Values.{FVal}
use Rattle.pf_templates.specs.declared.template.Letter.TheVariants.{X, Y, Z, V}
use Rattle.pf_templates.specs.declared.template.Which.{Which}
use Rattle.pf_templates.specs.declared.template.Which.TheVariants.{T, U}
use Rattle.pf_templates.specs.declared.template.Exponent.{Exponent}
use Rattle.pf_templates.specs.declared.template.Exponent.TheVariants as exponent
use Rattle.pf_templates.specs.declared.template.Numeral.{Numeral}
use Rattle.pf_templates.specs.declared.template.Numeral.TheVariants as numeral
use Rattle.pf_templates.specs.Meaning.Letters.{type_at, exponent_at, numeral_at}
use Rattle.pf_templates.specs.Meaning.Templates.{Tree, Leaf, Num, Pow, Add, Sub, Mul, FloorDiv, Min, Max, Abs, Sel, Wrap, Sat, at}
use Rattle.pf_values.specs.declared.op.Op.{Op}
use Rattle.pf_values.specs.declared.op.Op.TheVariants as op
use Rattle.pf_values.specs.declared.row.Operands.{Operands}
use Rattle.pf_values.specs.declared.row.Operands.TheVariants.{One, OneSigned, Alike, Narrow, WideFirst, Choice}
use Rattle.pf_values.specs.Meaning.Operators.{row_of, int_same}
use Rattle.pf_values.specs.Meaning.Terms.{operand_count}
use Rattle.pf_laneops.specs.Meaning.Formulas.{formula, over, operand, vars}

module _ (v : ℕ → ℤ) (ty : LaneType) (a : ℕ) (fs : List Shape) where
  same_type : (w : Which) → type_at (over ty a fs) w ≡ type_at (vars ty a) w
  same_type T = refl
  same_type U = refl

  same_exponent : (e : Exponent) → exponent_at (over ty a fs) e ≡ exponent_at (vars ty a) e
  same_exponent (exponent.Fixed e) = refl
  same_exponent exponent.A = refl
  same_exponent exponent.B = refl
  same_exponent exponent.Sum = refl
  same_exponent exponent.Rest = refl

  same_numeral : (n : Numeral) → numeral_at (over ty a fs) n ≡ numeral_at (vars ty a) n
  same_numeral (numeral.Fixed n) = refl
  same_numeral numeral.TwoToA = refl
  same_numeral numeral.BelowTwoToA = refl
  same_numeral numeral.HalfOfTwoToA = refl
  same_numeral numeral.LeastT = refl
  same_numeral numeral.GreatestT = refl

  pub value_over : (s : Tree) → FVal v (at (over ty a fs) s) ≡ FVal (λ n. FVal v (operand fs n)) (at (vars ty a) s)
  value_over (Leaf X) = refl
  value_over (Leaf Y) = refl
  value_over (Leaf Z) = refl
  value_over (Leaf V) = refl
  value_over (Num n) = same_numeral n
  value_over (Pow e) = rw (same_exponent e) refl
  value_over (Add x y) = rw (value_over x, value_over y) refl
  value_over (Sub x y) = rw (value_over x, value_over y) refl
  value_over (Mul x y) = rw (value_over x, value_over y) refl
  value_over (FloorDiv x e) = rw (value_over x, same_exponent e) refl
  value_over (Min x y) = rw (value_over x, value_over y) refl
  value_over (Max x y) = rw (value_over x, value_over y) refl
  value_over (Abs x) = rw (value_over x) refl
  value_over (Sel c d x y) = rw (value_over c, value_over d, value_over x, value_over y) refl
  value_over (Wrap w x) = rw (value_over x, same_type w) refl
  value_over (Sat w x) = rw (value_over x, same_type w) refl

-- lists of one, two and four
module _ (P : List Shape → Type 0) where
  one : ((x : Shape) → P (x ∷ [])) → (fs : List Shape) → length fs ≡ 1 → P fs
  one h [] e = absurd (cc)
  one h (x ∷ []) e = h x
  one h (x ∷ y ∷ fs) e = absurd (omega (arith, e))

  two : ((x y : Shape) → P (x ∷ y ∷ [])) → (fs : List Shape) → length fs ≡ 2 → P fs
  two h [] e = absurd (cc)
  two h (x ∷ []) e = absurd (omega (arith, e))
  two h (x ∷ y ∷ []) e = h x y
  two h (x ∷ y ∷ z ∷ fs) e = absurd (omega (arith, e))

  four : ((a b x y : Shape) → P (a ∷ b ∷ x ∷ y ∷ [])) → (fs : List Shape) → length fs ≡ 4 → P fs
  four h [] e = absurd (cc)
  four h (a ∷ []) e = absurd (omega (arith, e))
  four h (a ∷ b ∷ []) e = absurd (omega (arith, e))
  four h (a ∷ b ∷ x ∷ []) e = absurd (omega (arith, e))
  four h (a ∷ b ∷ x ∷ y ∷ []) e = h a b x y
  four h (a ∷ b ∷ x ∷ y ∷ z ∷ fs) e = absurd (omega (arith, e))

-- greater one way or the other, or the same
chosen_same : (a b x y : ℤ) → cond (int_lt b a) y (cond (int_lt a b) y x) ≡ cond (int_same a b) x y
chosen_same a b x y = by_tests (int_lt b a) (int_lt a b) (int_le a b) (int_le b a) refl refl refl refl
  where
    by_tests : (c d e f : Bool) → int_lt b a ≡ c → int_lt a b ≡ d → int_le a b ≡ e → int_le b a ≡ f → cond c y (cond d y x) ≡ cond (e && f) x y
    by_tests true d false f p q r s = refl
    by_tests true d true f p q r s = absurd (omega (arith, ints, p, r))
    by_tests false true true false p q r s = refl
    by_tests false true false f p q r s = absurd (omega (arith, ints, q, r))
    by_tests false true true true p q r s = absurd (omega (arith, ints, q, s))
    by_tests false false true true p q r s = refl
    by_tests false false false f p q r s = absurd (omega (arith, ints, p, r))
    by_tests false false true false p q r s = absurd (omega (arith, ints, q, s))

module _ (v : ℕ → ℤ) (ty : LaneType) (k : ℕ) where
  abbrev IsValue : Op → List Shape → Type 0
  IsValue o fs = FVal (λ n. FVal v (operand fs n)) (at (vars ty k) (formula o)) ≡ (row_of o).value ty k (map (FVal v) fs)

  op_value : (o : Op) (fs : List Shape) → length fs ≡ operand_count (row_of o).operands → IsValue o fs
  op_value op.Cast = one (IsValue op.Cast) (λ x. refl)
  op_value op.Add = two (IsValue op.Add) (λ x y. refl)
  op_value op.Sub = two (IsValue op.Sub) (λ x y. refl)
  op_value op.Mul = two (IsValue op.Mul) (λ x y. refl)
  op_value op.ShiftLeft = one (IsValue op.ShiftLeft) (λ x. refl)
  op_value op.ShiftRight = one (IsValue op.ShiftRight) (λ x. refl)
  op_value op.Min = two (IsValue op.Min) (λ x y. refl)
  op_value op.Max = two (IsValue op.Max) (λ x y. refl)
  op_value op.SelectGreater = four (IsValue op.SelectGreater) (λ a b x y. refl)
  op_value op.SelectEqual = four (IsValue op.SelectEqual) (λ a b x y. chosen_same (FVal v a) (FVal v b) (FVal v x) (FVal v y))
  op_value op.Abs = one (IsValue op.Abs) (λ x. refl)
  op_value op.WideningAdd = two (IsValue op.WideningAdd) (λ x y. refl)
  op_value op.WideningSub = two (IsValue op.WideningSub) (λ x y. refl)
  op_value op.WideningMul = two (IsValue op.WideningMul) (λ x y. refl)
  op_value op.ExtendingAdd = two (IsValue op.ExtendingAdd) (λ x y. refl)
  op_value op.HalvingAdd = two (IsValue op.HalvingAdd) (λ x y. refl)
  op_value op.RoundingHalvingAdd = two (IsValue op.RoundingHalvingAdd) (λ x y. refl)
  op_value op.HalvingSub = two (IsValue op.HalvingSub) (λ x y. refl)
  op_value op.SaturatingAdd = two (IsValue op.SaturatingAdd) (λ x y. refl)
  op_value op.SaturatingSub = two (IsValue op.SaturatingSub) (λ x y. refl)
  op_value op.SaturatingCast = one (IsValue op.SaturatingCast) (λ x. refl)
  op_value op.Absd = two (IsValue op.Absd) (λ x y. refl)
  op_value op.RoundingShr = one (IsValue op.RoundingShr) (λ x. refl)
  op_value op.MulShr = two (IsValue op.MulShr) (λ x y. refl)
  op_value op.RoundingMulShr = two (IsValue op.RoundingMulShr) (λ x y. refl)

  pub formula_value : (o : Op) (fs : List Shape) → length fs ≡ operand_count (row_of o).operands → FVal v (at (over ty k fs) (formula o)) ≡ (row_of o).value ty k (map (FVal v) fs)
  formula_value o fs e = value_over v ty k fs (formula o) ∙ op_value o fs e

some_operands : (o : Operands) → 0 < operand_count o
some_operands One = omega arith
some_operands OneSigned = omega arith
some_operands Alike = omega arith
some_operands Narrow = omega arith
some_operands WideFirst = omega arith
some_operands Choice = omega arith

pub some_of : (o : Op) (n : ℕ) → n ≡ operand_count (row_of o).operands → 0 < n
some_of o n e = let some = some_operands (row_of o).operands in omega (arith, e, some)
