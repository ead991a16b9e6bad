-- The forms of the operators and of the lane operations, as templates: x, y, z and v stand for the operands, T for the result's type, A for the amount.
use Rattle.std.specs.Prelude.{ℕ, ◌-◌, pos, negsuc, List, [], ◌∷◌, slice_index_or}
use Rattle.pf_ints.specs.declared.lane.LaneType.{LaneType}
use Rattle.pf_ints.specs.Meaning.Lanes.{lane_width}
use Rattle.pf_values.specs.declared.op.Op.{Op}
use Rattle.pf_values.specs.declared.op.Op.TheVariants as op
use Rattle.pf_forms.specs.Meaning.Shapes.{Shape}
use Rattle.pf_forms.specs.Meaning.Shapes as form
use Rattle.pf_forms.specs.Meaning.Values.{IsFormOver}
use Rattle.pf_templates.specs.declared.template.Letter.TheVariants.{X, Y, Z, V}
use Rattle.pf_templates.specs.declared.template.Which.TheVariants.{T}
use Rattle.pf_templates.specs.declared.template.Exponent.TheVariants.{Fixed, A}
use Rattle.pf_templates.specs.declared.template.Numeral.TheVariants as numeral
use Rattle.pf_templates.specs.Meaning.Letters.{Letters}
use Rattle.pf_templates.specs.Meaning.Templates.{Tree, Leaf, Num, Pow, Add, Sub, Mul, FloorDiv, Min, Max, Abs, Sel, Wrap, Sat, at}
use Rattle.pf_laneops.specs.declared.lane_name.LaneName.{LaneName}
use Rattle.pf_laneops.specs.declared.lane_name.LaneName.TheVariants as lane

abbrev x : Tree
x = Leaf X

abbrev y : Tree
y = Leaf Y

abbrev z : Tree
z = Leaf Z

abbrev v : Tree
v = Leaf V

abbrev one : Tree
one = Num (numeral.Fixed (pos 1))

abbrev minus_one : Tree
minus_one = Num (numeral.Fixed (negsuc 0))

abbrev half_of_two_to_a : Tree
half_of_two_to_a = Num numeral.HalfOfTwoToA

abbrev pub formula : Op → Tree
formula op.Cast = Wrap T x
formula op.Add = Wrap T (Add x y)
formula op.Sub = Wrap T (Sub x y)
formula op.Mul = Wrap T (Mul x y)
formula op.ShiftLeft = Wrap T (Mul x (Pow A))
formula op.ShiftRight = FloorDiv x A
formula op.Min = Min x y
formula op.Max = Max x y
formula op.SelectGreater = Sel x y z v
formula op.SelectEqual = Sel x y v (Sel y x v z)
formula op.Abs = Abs x
formula op.WideningAdd = Add x y
formula op.WideningSub = Sub x y
formula op.WideningMul = Mul x y
formula op.ExtendingAdd = Wrap T (Add x y)
formula op.HalvingAdd = FloorDiv (Add x y) (Fixed 1)
formula op.RoundingHalvingAdd = FloorDiv (Add (Add x y) one) (Fixed 1)
formula op.HalvingSub = Wrap T (FloorDiv (Sub x y) (Fixed 1))
formula op.SaturatingAdd = Sat T (Add x y)
formula op.SaturatingSub = Sat T (Sub x y)
formula op.SaturatingCast = Sat T x
formula op.Absd = Abs (Sub x y)
formula op.RoundingShr = FloorDiv (Add x half_of_two_to_a) A
formula op.MulShr = Sat T (FloorDiv (Mul x y) A)
formula op.RoundingMulShr = Sat T (FloorDiv (Add (Mul x y) half_of_two_to_a) A)

abbrev pub lane_formula : LaneName → Tree
lane_formula lane.Add = formula op.Add
lane_formula lane.Sub = formula op.Sub
lane_formula lane.Mul = formula op.Mul
lane_formula lane.Mla = Wrap T (Add x (Mul y z))
lane_formula lane.HalvingAdd = formula op.HalvingAdd
lane_formula lane.RoundingHalvingAdd = formula op.RoundingHalvingAdd
lane_formula lane.HalvingSub = formula op.HalvingSub
lane_formula lane.SaturatingAdd = formula op.SaturatingAdd
lane_formula lane.SaturatingSub = formula op.SaturatingSub
lane_formula lane.Min = formula op.Min
lane_formula lane.Max = formula op.Max
lane_formula lane.Absd = formula op.Absd
lane_formula lane.Abs = formula op.Abs
lane_formula lane.Not = Wrap T (Sub minus_one x)
lane_formula lane.Shl = formula op.ShiftLeft
lane_formula lane.Shr = formula op.ShiftRight
lane_formula lane.RoundingShr = formula op.RoundingShr
lane_formula lane.MulHigh = FloorDiv (Mul x y) A
lane_formula lane.MulQ = Sat T (FloorDiv (Mul x y) A)
lane_formula lane.MulQr = Sat T (FloorDiv (Add (Mul x y) half_of_two_to_a) A)
lane_formula lane.MulHrs = Wrap T (FloorDiv (Add (FloorDiv (Mul x y) (Fixed 14)) one) (Fixed 1))
lane_formula lane.SelGt = formula op.SelectGreater
lane_formula lane.SelEq = formula op.SelectEqual
lane_formula lane.Bits = Wrap T x
lane_formula lane.Widen = x
lane_formula lane.WidenShl = Mul x (Pow A)
lane_formula lane.WideningAdd = formula op.WideningAdd
lane_formula lane.WideningSub = formula op.WideningSub
lane_formula lane.WideningMul = formula op.WideningMul
lane_formula lane.MulUs = Mul x y
lane_formula lane.ExtendingAdd = formula op.ExtendingAdd
lane_formula lane.WideningMla = Wrap T (Add x (Mul y z))
lane_formula lane.WideningAbsd = Abs (Sub x y)
lane_formula lane.Narrow = Wrap T x
lane_formula lane.SatNarrow = Sat T x
lane_formula lane.NarrowShr = Wrap T (FloorDiv x A)
lane_formula lane.NarrowRshr = Wrap T (FloorDiv (Add x half_of_two_to_a) A)
lane_formula lane.SatNarrowShr = Sat T (FloorDiv x A)
lane_formula lane.SatNarrowRshr = Sat T (FloorDiv (Add x half_of_two_to_a) A)

-- the exponent A of an operation: its amount, but a width or one below it for the high part of a product
abbrev pub amount_by : LaneName → LaneType → ℕ → ℕ
amount_by lane.MulHigh ty k = lane_width ty
amount_by lane.MulQ ty k = lane_width ty - 1
amount_by lane.MulQr ty k = lane_width ty - 1
amount_by _ ty k = k

-- operand n, or the first one where there are fewer
abbrev pub operand : List Shape → ℕ → Shape
operand fs n = slice_index_or fs n (slice_index_or fs 0 (form.Var 0))

-- each of these is a form whose variables are numbered below count
abbrev pub AreFormsOver : ℕ → List Shape → Type 0
AreFormsOver count [] = Unit {0}
AreFormsOver count (f ∷ fs) = IsFormOver count f × AreFormsOver count fs

-- the letters at which the operands stand for x, y, z and v
abbrev pub over : LaneType → ℕ → List Shape → Letters
over ty a fs = record { x = operand fs 0; y = operand fs 1; z = operand fs 2; v = operand fs 3; t = ty; u = ty; a = a; b = a }

-- the letters at which x, y, z and v stand for the variables 0 to 3
abbrev pub vars : LaneType → ℕ → Letters
vars ty a = record { x = form.Var 0; y = form.Var 1; z = form.Var 2; v = form.Var 3; t = ty; u = ty; a = a; b = a }

-- the row's formula over the variables 0 to 3
abbrev pub row_form : LaneName → LaneType → ℕ → Shape
row_form op ty k = at (vars ty (amount_by op ty k)) (lane_formula op)
