-- The table of the lane operations: their operands, results and amounts, and on which target which types have a row, and what it costs.
use Rattle.std.specs.Prelude.{ℕ, ◌*◌, ◌/◌, Bool, true, false, not, ◌&&◌, ◌==◌, nat_le, nat_lt, ◌||◌, List, [], ◌∷◌, Option, Some, None, if◌then◌else◌, option_and_then}
use Rattle.pf_ints.specs.declared.lane.LaneType.{LaneType}
use Rattle.pf_ints.specs.declared.lane.Bits.{Bits}
use Rattle.pf_ints.specs.declared.lane.Bits.TheVariants.{Eight, Sixteen, ThirtyTwo}
use Rattle.pf_ints.specs.declared.target.Target.{Target}
use Rattle.pf_ints.specs.declared.target.Target.TheVariants.{Neon, Avx2, Hvx}
use Rattle.pf_ints.specs.Meaning.Lanes.{lane_width}
use Rattle.pf_values.specs.Meaning.Terms.{typed_as, doubled, halved, same_bits, same_type}
use Rattle.pf_laneops.specs.declared.lane_name.LaneName.{LaneName}
use Rattle.pf_laneops.specs.declared.lane_name.LaneName.TheVariants as lane
use Rattle.pf_laneops.specs.declared.lane_row.LaneRow.{LaneRow}
use Rattle.pf_laneops.specs.declared.lane_row.LaneOperands.{LaneOperands}
use Rattle.pf_laneops.specs.declared.lane_row.LaneOperands.TheVariants.{One, Two, Three, Four, UnsignedAndSigned, WideAndNarrow, WideAndTwo}
use Rattle.pf_laneops.specs.declared.lane_row.LaneGives.{LaneGives}
use Rattle.pf_laneops.specs.declared.lane_row.LaneGives.TheVariants.{First, Unsigned, Third, SameWidth, Twice, SignedTwice, UnsignedTwice, Half, HalfWidth}
use Rattle.pf_laneops.specs.declared.lane_row.LaneAmounts.{LaneAmounts}
use Rattle.pf_laneops.specs.declared.lane_row.LaneAmounts.TheVariants.{Without, Below, Inside, UpTo, UpToButHvx}
use Rattle.pf_laneops.specs.declared.lane_row.LaneSet.{LaneSet}
use Rattle.pf_laneops.specs.declared.lane_row.LaneSet.TheVariants as set
use Rattle.pf_laneops.specs.declared.lane_row.Cost.{Cost}
use Rattle.pf_laneops.specs.declared.lane_row.Cost.TheVariants.{Nowhere, Each, BySign}

abbrev pub row : LaneOperands → LaneGives → LaneAmounts → Cost → Cost → Cost → LaneRow
row operands gives amounts neon avx2 hvx = record { operands = operands; gives = gives; amounts = amounts; neon = neon; avx2 = avx2; hvx = hvx }

-- the cells are those of neon, avx2 and hvx
abbrev pub lane_row : LaneName → LaneRow
lane_row lane.Add = row Two First Without (Each set.Six 1) (Each set.Six 1) (Each set.Six 1)
lane_row lane.Sub = row Two First Without (Each set.Six 1) (Each set.Six 1) (Each set.Six 1)
lane_row lane.Mul = row Two First Without (Each set.Six 2) (Each set.Wide 2) (Each set.Words 2)
lane_row lane.Mla = row Three First Without (Each set.Six 2) Nowhere Nowhere
lane_row lane.HalvingAdd = row Two First Without (Each set.Six 1) Nowhere (Each set.NarrowButI8 1)
lane_row lane.RoundingHalvingAdd = row Two First Without (Each set.Six 1) (Each set.NarrowUnsigned 1) (Each set.NarrowButI8 1)
lane_row lane.HalvingSub = row Two First Without (Each set.Six 1) Nowhere Nowhere
lane_row lane.SaturatingAdd = row Two First Without (Each set.Six 1) (Each set.Narrow 1) (Each set.ButI8AndU32 1)
lane_row lane.SaturatingSub = row Two First Without (Each set.Six 1) (Each set.Narrow 1) (Each set.ButI8AndU32 1)
lane_row lane.Min = row Two First Without (Each set.Six 1) (Each set.Six 1) (Each set.ButI8AndU32 1)
lane_row lane.Max = row Two First Without (Each set.Six 1) (Each set.Six 1) (Each set.ButI8AndU32 1)
lane_row lane.Absd = row Two Unsigned Without (Each set.Six 1) Nowhere (Each set.ButI8AndU32 1)
lane_row lane.Abs = row One Unsigned Without (Each set.Signed 1) (Each set.Signed 1) (Each set.WideSigned 1)
lane_row lane.Not = row One First Without (Each set.Six 1) Nowhere (Each set.Six 1)
lane_row lane.Shl = row One First Below (Each set.Six 1) (Each set.Wide 1) (Each set.Wide 1)
lane_row lane.Shr = row One First Inside (Each set.Six 1) (Each set.Wide 1) (Each set.Wide 1)
lane_row lane.RoundingShr = row One First Inside (Each set.Six 1) Nowhere Nowhere
lane_row lane.MulHigh = row Two First Without Nowhere (Each set.Words 2) Nowhere
lane_row lane.MulQ = row Two First Without (Each set.WideSigned 2) Nowhere Nowhere
lane_row lane.MulQr = row Two First Without (Each set.WideSigned 2) Nowhere (Each set.OnlyI16 2)
lane_row lane.MulHrs = row Two First Without Nowhere (Each set.OnlyI16 2) Nowhere
lane_row lane.SelGt = row Four Third Without (Each set.Six 2) (BySign 2 3) (Each set.Six 2)
lane_row lane.SelEq = row Four Third Without (Each set.Six 2) (Each set.Six 2) (Each set.Six 2)
lane_row lane.Bits = row One SameWidth Without (Each set.Six 0) (Each set.Six 0) (Each set.Six 0)
lane_row lane.Widen = row One Twice Without (Each set.Narrow 2) (Each set.Narrow 2) (Each set.Narrow 1)
lane_row lane.WidenShl = row One Twice Below (Each set.Narrow 2) Nowhere Nowhere
lane_row lane.WideningAdd = row Two Twice Without (Each set.Narrow 2) Nowhere (Each set.NarrowButI8 1)
lane_row lane.WideningSub = row Two SignedTwice Without (Each set.Narrow 2) Nowhere (Each set.NarrowButI8 1)
lane_row lane.WideningMul = row Two Twice Without (Each set.Narrow 4) Nowhere (Each set.Narrow 2)
lane_row lane.MulUs = row UnsignedAndSigned SignedTwice Without Nowhere Nowhere (Each set.OnlyU8 2)
lane_row lane.ExtendingAdd = row WideAndNarrow Twice Without (Each set.Narrow 2) Nowhere Nowhere
lane_row lane.WideningMla = row WideAndTwo Twice Without (Each set.Narrow 4) Nowhere Nowhere
lane_row lane.WideningAbsd = row Two UnsignedTwice Without (Each set.Narrow 2) Nowhere Nowhere
lane_row lane.Narrow = row One Half Without (Each set.Wide 2) (Each set.Wide 5) (Each set.Wide 1)
lane_row lane.SatNarrow = row One HalfWidth Without (Each set.WideKeeping 2) (Each set.WideSigned 1) (Each set.WideSigned 1)
lane_row lane.NarrowShr = row One Half UpTo (Each set.Wide 2) Nowhere Nowhere
lane_row lane.NarrowRshr = row One Half UpTo (Each set.Wide 2) Nowhere Nowhere
lane_row lane.SatNarrowShr = row One HalfWidth UpTo (Each set.WideToUnsigned 2) Nowhere Nowhere
lane_row lane.SatNarrowRshr = row One HalfWidth UpToButHvx (Each set.WideToUnsigned 2) Nowhere (Each set.OnlyI16ToUnsigned 1)

-- ---- the types

abbrev pub when : {A : Type 0} → Bool → A → Option A
when test x = if test then Some x else None

-- a is the type of the sign of t and twice its width
abbrev is_twice : LaneType → LaneType → Bool
is_twice a t = same_type a (typed_as t.signed (doubled t.bits))

-- the type T of the operands that its row is named by, where the operands have the types that the row wants
abbrev pub row_key : LaneOperands → List LaneType → Option LaneType
row_key One (x ∷ []) = Some x
row_key Two (x ∷ y ∷ []) = when (same_type x y) x
row_key Three (x ∷ y ∷ z ∷ []) = when (same_type x y && same_type x z) x
row_key Four (a ∷ b ∷ x ∷ y ∷ []) = when (same_type a b && (same_type x y && same_bits a.bits x.bits)) a
row_key UnsignedAndSigned (x ∷ y ∷ []) = when (not x.signed && (y.signed && same_bits x.bits y.bits)) x
row_key WideAndNarrow (a ∷ x ∷ []) = when (is_twice a x) x
row_key WideAndTwo (a ∷ x ∷ y ∷ []) = when (is_twice a x && same_type x y) x
row_key _ _ = None

-- the type of the result, where the stated type is such as the row wants, or none is stated where it has none
abbrev pub lane_result : LaneGives → Option LaneType → LaneType → List LaneType → Option LaneType
lane_result First None t types = Some t
lane_result Unsigned None t types = Some (typed_as false t.bits)
lane_result Third None t (a ∷ b ∷ x ∷ _) = Some x
lane_result SameWidth (Some u) t types = when (same_bits u.bits t.bits) u
lane_result Twice None t types = Some (typed_as t.signed (doubled t.bits))
lane_result SignedTwice None t types = Some (typed_as true (doubled t.bits))
lane_result UnsignedTwice None t types = Some (typed_as false (doubled t.bits))
lane_result Half None t types = Some (typed_as t.signed (halved t.bits))
lane_result HalfWidth (Some u) t types = when (same_bits u.bits (halved t.bits)) u
lane_result _ _ _ _ = None

-- ---- the cells

abbrev pub by_bits : {A : Type 0} → Bits → A → A → A → A
by_bits Eight a b c = a
by_bits Sixteen a b c = b
by_bits ThirtyTwo a b c = c

-- whether a set has the type t, where u is the result's
abbrev pub is_in_set : LaneSet → LaneType → LaneType → Bool
is_in_set set.Six t u = true
is_in_set set.Wide t u = by_bits t.bits false true true
is_in_set set.Words t u = by_bits t.bits false true false
is_in_set set.Narrow t u = by_bits t.bits true true false
is_in_set set.NarrowUnsigned t u = by_bits t.bits (not t.signed) (not t.signed) false
is_in_set set.NarrowButI8 t u = by_bits t.bits (not t.signed) true false
is_in_set set.ButI8AndU32 t u = by_bits t.bits (not t.signed) true t.signed
is_in_set set.Signed t u = t.signed
is_in_set set.WideSigned t u = by_bits t.bits false t.signed t.signed
is_in_set set.OnlyI16 t u = by_bits t.bits false t.signed false
is_in_set set.OnlyU8 t u = by_bits t.bits (not t.signed) false false
is_in_set set.WideKeeping t u = by_bits t.bits false true true && (t.signed || not u.signed)
is_in_set set.WideToUnsigned t u = by_bits t.bits false true true && not u.signed
is_in_set set.OnlyI16ToUnsigned t u = by_bits t.bits false t.signed false && not u.signed

abbrev pub cost_on : LaneRow → Target → Cost
cost_on r Neon = r.neon
cost_on r Avx2 = r.avx2
cost_on r Hvx = r.hvx

-- how many times the bytes of a lane a row costs, where the target has it
abbrev pub factor : Cost → LaneType → LaneType → Option ℕ
factor Nowhere t u = None
factor (Each types n) t u = when (is_in_set types t u) n
factor (BySign signed unsigned) t u = Some (if t.signed then signed else unsigned)

-- ---- the amounts

-- whether a row has the amount k, where w is the width of the counted type
abbrev pub is_lane_amount : LaneAmounts → Target → ℕ → ℕ → Bool
is_lane_amount Without target w k = k == 0
is_lane_amount Below target w k = nat_lt k w
is_lane_amount Inside target w k = nat_le 1 k && nat_lt k w
is_lane_amount UpTo target w k = nat_le 1 k && nat_le k w
is_lane_amount UpToButHvx Hvx w k = nat_le 1 k && nat_lt k w
is_lane_amount UpToButHvx target w k = nat_le 1 k && nat_le k w

-- the type whose lanes are counted: of a row that narrows the result's, else T
abbrev pub counted : LaneGives → LaneType → LaneType → LaneType
counted Half t u = u
counted HalfWidth t u = u
counted _ t u = t

-- ---- the rows

-- the type of the result and the cost
abbrev pub priced : LaneType → ℕ → LaneType → Option (LaneType × ℕ)
priced u n c = Some (u, n * (lane_width c / 8))

abbrev pub allowed : LaneRow → Target → ℕ → LaneType → LaneType → Option (LaneType × ℕ)
allowed r target k t u =
    option_and_then (λ n. if is_lane_amount r.amounts target (lane_width (counted r.gives t u)) k then priced u n (counted r.gives t u) else None)
    (factor (cost_on r target) t u)

-- the result's type and the cost of an operation with a stated type, operands of these types, and the amount k; none where there is no such row
abbrev pub row_type : Target → LaneName → Option LaneType → List LaneType → ℕ → Option (LaneType × ℕ)
row_type target op to types k =
    option_and_then (λ t. option_and_then (λ u. allowed (lane_row op) target k t u) (lane_result (lane_row op).gives to t types))
    (row_key (lane_row op).operands types)
