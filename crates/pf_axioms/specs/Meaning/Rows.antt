-- The table of the axioms.
use Rattle.std.specs.Prelude.{pos, negsuc}
use Rattle.pf_templates.specs.declared.template.Letter.TheVariants.{X, Y, Z}
use Rattle.pf_templates.specs.declared.template.Which.TheVariants.{T, U}
use Rattle.pf_templates.specs.declared.template.Exponent.TheVariants.{Fixed, A, B, Sum, Rest}
use Rattle.pf_templates.specs.declared.template.Numeral.TheVariants as numeral
use Rattle.pf_templates.specs.Meaning.Templates.{Tree, Leaf, Num, Pow, Add, Sub, Mul, FloorDiv, Min, Max, Abs, Sel, Wrap, Sat}
use Rattle.pf_forms.specs.declared.axioms.Axiom.{Axiom}
use Rattle.pf_forms.specs.declared.axioms.Axiom.TheVariants.{AddComm, AddAssoc, AddBack, AddZero, SubAdd, Cancel, MulComm, MulAssoc, MulBack, MulOne, Distribute, Fold, DropWrap, WrapWrap, WrapAdd, WrapMul, MulZero, Factor, PowNum, NumPow, PowAdd, DivOne, DivDiv, DivScale, DivOut, DivIn, DivInner, NegDiv, DivZero, DivNeg, DropSat, SatClamp, SatSat, SatHigh, SatLow, MinComm, MaxComm, MinLeft, MaxLeft, MinAdd, MaxAdd, MinDiv, MaxDiv, SelMax, SelMin, SelSame, MaxMinAbs, AbsPos, AbsNeg}
use Rattle.pf_axioms.specs.declared.needs.Needs.{Needs}
use Rattle.pf_axioms.specs.declared.needs.Needs.TheVariants.{Free, Wider, Covered, Ordered, InT, FromLeast, ToGreatest, BelowPower, AbovePower, Positive, Negative, UnderY, OverY}

-- the left form, the right form, and what is asked for; or the value of an operation on numbers alone
pub data AxiomRow : Type 0 where
  Law : Tree → Tree → Needs → AxiomRow
  Folding : AxiomRow

abbrev x : Tree
x = Leaf X

abbrev y : Tree
y = Leaf Y

abbrev z : Tree
z = Leaf Z

abbrev zero : Tree
zero = Num (numeral.Fixed (pos 0))

abbrev one : Tree
one = Num (numeral.Fixed (pos 1))

abbrev minus_one : Tree
minus_one = Num (numeral.Fixed (negsuc 0))

abbrev two_to_a : Tree
two_to_a = Num numeral.TwoToA

abbrev below_two_to_a : Tree
below_two_to_a = Num numeral.BelowTwoToA

abbrev least_t : Tree
least_t = Num numeral.LeastT

abbrev greatest_t : Tree
greatest_t = Num numeral.GreatestT

abbrev pub axiom_row : Axiom → AxiomRow
axiom_row AddComm = Law (Add x y) (Add y x) Free
axiom_row AddAssoc = Law (Add (Add x y) z) (Add x (Add y z)) Free
axiom_row AddBack = Law (Add x (Add y z)) (Add (Add x y) z) Free
axiom_row AddZero = Law (Add x zero) x Free
axiom_row SubAdd = Law (Sub x y) (Add x (Mul minus_one y)) Free
axiom_row Cancel = Law (Add x (Mul minus_one x)) zero Free
axiom_row MulComm = Law (Mul x y) (Mul y x) Free
axiom_row MulAssoc = Law (Mul (Mul x y) z) (Mul x (Mul y z)) Free
axiom_row MulBack = Law (Mul x (Mul y z)) (Mul (Mul x y) z) Free
axiom_row MulOne = Law (Mul one x) x Free
axiom_row Distribute = Law (Mul x (Add y z)) (Add (Mul x y) (Mul x z)) Free
axiom_row Fold = Folding
axiom_row DropWrap = Law (Wrap T x) x InT
axiom_row WrapWrap = Law (Wrap T (Wrap U x)) (Wrap T x) Wider
axiom_row WrapAdd = Law (Wrap T (Add (Wrap U x) y)) (Wrap T (Add x y)) Wider
axiom_row WrapMul = Law (Wrap T (Mul (Wrap U x) y)) (Wrap T (Mul x y)) Wider
axiom_row MulZero = Law (Mul zero x) zero Free
axiom_row Factor = Law (Add (Mul x y) (Mul x z)) (Mul x (Add y z)) Free
axiom_row PowNum = Law (Pow A) two_to_a Free
axiom_row NumPow = Law two_to_a (Pow A) Free
axiom_row PowAdd = Law (Mul (Pow A) (Pow B)) (Pow Sum) Free
axiom_row DivOne = Law (FloorDiv x (Fixed 0)) x Free
axiom_row DivDiv = Law (FloorDiv (FloorDiv x A) B) (FloorDiv x Sum) Free
axiom_row DivScale = Law (FloorDiv (Mul (Pow A) x) B) (FloorDiv x Rest) Ordered
axiom_row DivOut = Law (FloorDiv (Add x (Mul (Pow A) y)) A) (Add (FloorDiv x A) y) Free
axiom_row DivIn = Law (Add (FloorDiv x A) y) (FloorDiv (Add x (Mul (Pow A) y)) A) Free
axiom_row DivInner = Law (FloorDiv (Add (FloorDiv x A) y) B) (FloorDiv (Add x (Mul (Pow A) y)) Sum) Free
axiom_row NegDiv = Law (Mul minus_one (FloorDiv x A)) (FloorDiv (Add (Mul minus_one x) below_two_to_a) A) Free
axiom_row DivZero = Law (FloorDiv x A) zero BelowPower
axiom_row DivNeg = Law (FloorDiv x A) minus_one AbovePower
axiom_row DropSat = Law (Sat T x) x InT
axiom_row SatClamp = Law (Sat T x) (Min (Max x least_t) greatest_t) Free
axiom_row SatSat = Law (Sat T (Sat U x)) (Sat T x) Covered
axiom_row SatHigh = Law (Sat T x) (Min x greatest_t) FromLeast
axiom_row SatLow = Law (Sat T x) (Max x least_t) ToGreatest
axiom_row MinComm = Law (Min x y) (Min y x) Free
axiom_row MaxComm = Law (Max x y) (Max y x) Free
axiom_row MinLeft = Law (Min x y) x UnderY
axiom_row MaxLeft = Law (Max x y) x OverY
axiom_row MinAdd = Law (Add (Min x y) z) (Min (Add x z) (Add y z)) Free
axiom_row MaxAdd = Law (Add (Max x y) z) (Max (Add x z) (Add y z)) Free
axiom_row MinDiv = Law (FloorDiv (Min x y) A) (Min (FloorDiv x A) (FloorDiv y A)) Free
axiom_row MaxDiv = Law (FloorDiv (Max x y) A) (Max (FloorDiv x A) (FloorDiv y A)) Free
axiom_row SelMax = Law (Sel x y x y) (Max x y) Free
axiom_row SelMin = Law (Sel x y y x) (Min x y) Free
axiom_row SelSame = Law (Sel x y z z) z Free
axiom_row MaxMinAbs = Law (Sub (Max x y) (Min x y)) (Abs (Sub x y)) Free
axiom_row AbsPos = Law (Abs x) x Positive
axiom_row AbsNeg = Law (Abs x) (Mul minus_one x) Negative
