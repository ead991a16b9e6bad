-- What a work of fewer operands makes of more numbers.
use Rattle.std.proofs.Common.{◌≡◌, ℕ, ℤ, List, [], ◌∷◌, refl}
use Rattle.pf_ints.specs.declared.lane.LaneType.{LaneType}
use Rattle.pf_values.specs.declared.op.Op.{Op}
use Rattle.pf_values.specs.declared.op.Op.TheVariants.{Cast}
use Rattle.pf_values.specs.Meaning.Operators.{row_of}

-- no operator reads the last of three
pub third_left : (op : Op) (t : LaneType) (k : ℕ) (x y z : ℤ) → (row_of op).value t k (x ∷ y ∷ z ∷ []) ≡ (row_of op).value t k (x ∷ y ∷ [])
third_left Cast t k x y z = refl
third_left _ t k x y z = refl
