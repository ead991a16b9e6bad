-- How operators are written.
use Rattle.std.specs.Prelude.{ℕ, List, [], codes}
use Rattle.pf_values.specs.declared.op.Op.{Op}
use Rattle.pf_values.specs.declared.op.Op.TheVariants.{Cast, Add, Sub, Mul, ShiftLeft, ShiftRight, Min, Max, SelectGreater, SelectEqual, Abs, WideningAdd, WideningSub, WideningMul, ExtendingAdd, HalvingAdd, RoundingHalvingAdd, HalvingSub, SaturatingAdd, SaturatingSub, SaturatingCast, Absd, RoundingShr, MulShr, RoundingMulShr}
use Rattle.pf_values.specs.declared.row.Spelling.{Spelling}
use Rattle.pf_values.specs.declared.row.Spelling.TheVariants.{TypeCall, Infix, ShiftBy, Call, CallWithType, CallWithAmount, Select}

-- an operator's sign or word, as it is spelled
abbrev pub op_word : Op → List ℕ
op_word Cast = []
op_word Add = codes "+"
op_word Sub = codes "-"
op_word Mul = codes "*"
op_word ShiftLeft = codes "<<"
op_word ShiftRight = codes ">>"
op_word Min = codes "min"
op_word Max = codes "max"
op_word SelectGreater = codes ">"
op_word SelectEqual = codes "=="
op_word Abs = codes "abs"
op_word WideningAdd = codes "widening_add"
op_word WideningSub = codes "widening_sub"
op_word WideningMul = codes "widening_mul"
op_word ExtendingAdd = codes "extending_add"
op_word HalvingAdd = codes "halving_add"
op_word RoundingHalvingAdd = codes "rounding_halving_add"
op_word HalvingSub = codes "halving_sub"
op_word SaturatingAdd = codes "saturating_add"
op_word SaturatingSub = codes "saturating_sub"
op_word SaturatingCast = codes "saturating_cast"
op_word Absd = codes "absd"
op_word RoundingShr = codes "rounding_shr"
op_word MulShr = codes "mul_shr"
op_word RoundingMulShr = codes "rounding_mul_shr"

-- how each operator is written
abbrev pub spelling_of : Op → Spelling
spelling_of Cast = TypeCall
spelling_of Add = Infix
spelling_of Sub = Infix
spelling_of Mul = Infix
spelling_of ShiftLeft = ShiftBy
spelling_of ShiftRight = ShiftBy
spelling_of Min = Call
spelling_of Max = Call
spelling_of SelectGreater = Select
spelling_of SelectEqual = Select
spelling_of Abs = Call
spelling_of WideningAdd = Call
spelling_of WideningSub = Call
spelling_of WideningMul = Call
spelling_of ExtendingAdd = Call
spelling_of HalvingAdd = Call
spelling_of RoundingHalvingAdd = Call
spelling_of HalvingSub = Call
spelling_of SaturatingAdd = Call
spelling_of SaturatingSub = Call
spelling_of SaturatingCast = CallWithType
spelling_of Absd = Call
spelling_of RoundingShr = CallWithAmount
spelling_of MulShr = CallWithAmount
spelling_of RoundingMulShr = CallWithAmount
