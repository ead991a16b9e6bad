-- Which function of the code has an axiom's law.
use Rattle.pf_forms.specs.declared.axioms.Axiom.{Axiom}
use Rattle.pf_forms.specs.declared.axioms.Axiom.TheVariants.{AddComm, AddAssoc, AddBack, AddZero, SubAdd, Cancel, MulComm, MulAssoc, MulBack, MulOne, Distribute, Fold, MulZero, Factor, PowNum, NumPow, PowAdd, DivOne, DivDiv, DivScale, DivOut, DivIn, DivInner, NegDiv, DivZero, DivNeg, MinComm, MaxComm, MinLeft, MaxLeft, MinAdd, MaxAdd, MinDiv, MaxDiv, SelMax, SelMin, SelSame, MaxMinAbs, AbsPos, AbsNeg}

pub data Group : Type 0 where
  Sums : Group
  Products : Group
  Types : Group
  Powers : Group
  Quotients : Group
  Orders : Group
  Choices : Group
  Numbers : Group

abbrev pub group_of : Axiom → Group
group_of AddComm = Sums
group_of AddAssoc = Sums
group_of AddBack = Sums
group_of AddZero = Sums
group_of SubAdd = Sums
group_of Cancel = Sums
group_of MulComm = Products
group_of MulAssoc = Products
group_of MulBack = Products
group_of MulOne = Products
group_of Distribute = Products
group_of Fold = Numbers
group_of MulZero = Products
group_of Factor = Products
group_of PowNum = Powers
group_of NumPow = Powers
group_of PowAdd = Powers
group_of DivOne = Powers
group_of DivDiv = Powers
group_of DivScale = Powers
group_of DivOut = Quotients
group_of DivIn = Quotients
group_of DivInner = Quotients
group_of NegDiv = Quotients
group_of DivZero = Quotients
group_of DivNeg = Quotients
group_of MinComm = Orders
group_of MaxComm = Orders
group_of MinLeft = Orders
group_of MaxLeft = Orders
group_of MinAdd = Orders
group_of MaxAdd = Orders
group_of MinDiv = Orders
group_of MaxDiv = Orders
group_of SelMax = Choices
group_of SelMin = Choices
group_of SelSame = Choices
group_of MaxMinAbs = Choices
group_of AbsPos = Choices
group_of AbsNeg = Choices
group_of _ = Types
