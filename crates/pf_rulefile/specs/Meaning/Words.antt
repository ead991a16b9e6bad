-- The words of patterns.
use Rattle.std.specs.Prelude.{ℕ, List, [], ◌∷◌, Bool, true, false, not, ◌&&◌, ◌==◌, nat_le, length, if◌then◌else◌, Option, Some, None, codes}
use Rattle.std.specs.Str.{bytes_eq}
use Rattle.pf_text.specs.Meaning.Words.{is_letter, is_name}
use Rattle.pf_values.specs.declared.op.Op.{Op}
use Rattle.pf_values.specs.declared.op.Op.TheVariants as op
use Rattle.pf_values.specs.Meaning.Spellings.{op_word}
use Rattle.pf_laneops.specs.declared.lane_name.LaneName.{LaneName}
use Rattle.pf_laneops.specs.declared.lane_name.LaneName.TheVariants as lane
use Rattle.pf_laneops.specs.declared.lane_row.LaneOperands.{LaneOperands}
use Rattle.pf_laneops.specs.declared.lane_row.LaneOperands.TheVariants.{One, Two, Three, Four, UnsignedAndSigned, WideAndNarrow, WideAndTwo}
use Rattle.pf_laneops.specs.declared.lane_row.LaneGives.{LaneGives}
use Rattle.pf_laneops.specs.declared.lane_row.LaneGives.TheVariants.{SameWidth, HalfWidth}
use Rattle.pf_laneops.specs.declared.lane_row.LaneAmounts.{LaneAmounts}
use Rattle.pf_laneops.specs.declared.lane_row.LaneAmounts.TheVariants.{Without}
use Rattle.pf_laneops.specs.Meaning.LaneRows.{lane_row}
use Rattle.pf_rules.specs.declared.pattern.PatType.{PatType}
use Rattle.pf_rules.specs.declared.rule.Kind.{Kind}
use Rattle.pf_rules.specs.declared.rule.Kind.TheVariants.{Lift, Lower}
use Rattle.pf_rulefile.specs.declared.word.Shape.{Shape}
use Rattle.pf_rulefile.specs.declared.word.Language.{Language}
use Rattle.pf_rulefile.specs.declared.word.Language.TheVariants.{Operators, Lanes}

abbrev pub ptype : Bool → ℕ → PatType
ptype signed times = record { signed = signed; times = times }

-- a sign and a multiple of the width
abbrev pub ptype_of : List ℕ → Option PatType
ptype_of w =
    if bytes_eq w (codes "u1") then Some (ptype false 1) else (if bytes_eq w (codes "u2") then Some (ptype false 2) else (if bytes_eq w (codes "u4") then Some (ptype false 4)
    else (if bytes_eq w (codes "i1") then Some (ptype true 1) else (if bytes_eq w (codes "i2") then Some (ptype true 2) else (if bytes_eq w (codes "i4") then Some (ptype true 4) else None)))))

-- the type behind the `}` of a typed number, without a space between them
abbrev pub closing_type : List ℕ → Option PatType
closing_type [] = None
closing_type (c ∷ w) = if c == 125 then ptype_of w else None

-- the sign of a comparison: its operator, and whether its operands change places
abbrev pub comparison : List ℕ → Option (Op × Bool)
comparison w =
    if bytes_eq w (codes ">") then Some (op.SelectGreater, false) else (if bytes_eq w (codes "<") then Some (op.SelectGreater, true) else (if bytes_eq w (codes "==") then Some (op.SelectEqual, false) else None))

abbrev pub is_some : {A : Type 0} → Option A → Bool
is_some None = false
is_some (Some _) = true

-- the names of rules are those of kernels, and no types
abbrev pub is_rule_name : List ℕ → Bool
is_rule_name w = is_name w && not (is_some (ptype_of w))

-- those of variables aren't `w` or `k` either
abbrev pub is_variable : List ℕ → Bool
is_variable w = is_rule_name w && not (bytes_eq w (codes "w")) && not (bytes_eq w (codes "k"))

-- the first operator of a list that has the word
abbrev pub op_in : List Op → List ℕ → Option Op
op_in [] w = None
op_in (o ∷ os) w = if bytes_eq (op_word o) w then Some o else op_in os w

-- the operators that are written as a word before round brackets
abbrev pub call_ops : List Op
call_ops = op.Min ∷ op.Max ∷ op.Abs ∷ op.WideningAdd ∷ op.WideningSub ∷ op.WideningMul ∷ op.ExtendingAdd ∷ op.HalvingAdd ∷ op.RoundingHalvingAdd ∷ op.HalvingSub ∷ op.SaturatingAdd ∷ op.SaturatingSub ∷ op.SaturatingCast ∷ op.Absd ∷ op.RoundingShr ∷ op.MulShr ∷ op.RoundingMulShr ∷ []

abbrev pub lane_word : LaneName → List ℕ
lane_word lane.Add = codes "add"
lane_word lane.Sub = codes "sub"
lane_word lane.Mul = codes "mul"
lane_word lane.Mla = codes "mla"
lane_word lane.HalvingAdd = codes "halving_add"
lane_word lane.RoundingHalvingAdd = codes "rounding_halving_add"
lane_word lane.HalvingSub = codes "halving_sub"
lane_word lane.SaturatingAdd = codes "saturating_add"
lane_word lane.SaturatingSub = codes "saturating_sub"
lane_word lane.Min = codes "min"
lane_word lane.Max = codes "max"
lane_word lane.Absd = codes "absd"
lane_word lane.Abs = codes "abs"
lane_word lane.Not = codes "not"
lane_word lane.Shl = codes "shl"
lane_word lane.Shr = codes "shr"
lane_word lane.RoundingShr = codes "rounding_shr"
lane_word lane.MulHigh = codes "mul_high"
lane_word lane.MulQ = codes "mul_q"
lane_word lane.MulQr = codes "mul_qr"
lane_word lane.MulHrs = codes "mul_hrs"
lane_word lane.SelGt = codes "sel_gt"
lane_word lane.SelEq = codes "sel_eq"
lane_word lane.Bits = codes "bits"
lane_word lane.Widen = codes "widen"
lane_word lane.WidenShl = codes "widen_shl"
lane_word lane.WideningAdd = codes "widening_add"
lane_word lane.WideningSub = codes "widening_sub"
lane_word lane.WideningMul = codes "widening_mul"
lane_word lane.MulUs = codes "mul_us"
lane_word lane.ExtendingAdd = codes "extending_add"
lane_word lane.WideningMla = codes "widening_mla"
lane_word lane.WideningAbsd = codes "widening_absd"
lane_word lane.Narrow = codes "narrow"
lane_word lane.SatNarrow = codes "sat_narrow"
lane_word lane.NarrowShr = codes "narrow_shr"
lane_word lane.NarrowRshr = codes "narrow_rshr"
lane_word lane.SatNarrowShr = codes "sat_narrow_shr"
lane_word lane.SatNarrowRshr = codes "sat_narrow_rshr"

abbrev pub lane_in : List LaneName → List ℕ → Option LaneName
lane_in [] w = None
lane_in (o ∷ os) w = if bytes_eq (lane_word o) w then Some o else lane_in os w

abbrev pub lane_ops : List LaneName
lane_ops = lane.Add ∷ lane.Sub ∷ lane.Mul ∷ lane.Mla ∷ lane.HalvingAdd ∷ lane.RoundingHalvingAdd ∷ lane.HalvingSub ∷ lane.SaturatingAdd ∷ lane.SaturatingSub ∷ lane.Min ∷ lane.Max ∷ lane.Absd ∷ lane.Abs ∷ lane.Not ∷ lane.Shl ∷ lane.Shr ∷ lane.RoundingShr ∷ lane.MulHigh ∷ lane.MulQ ∷ lane.MulQr ∷ lane.MulHrs ∷ lane.SelGt ∷ lane.SelEq ∷ lane.Bits ∷ lane.Widen ∷ lane.WidenShl ∷ lane.WideningAdd ∷ lane.WideningSub ∷ lane.WideningMul ∷ lane.MulUs ∷ lane.ExtendingAdd ∷ lane.WideningMla ∷ lane.WideningAbsd ∷ lane.Narrow ∷ lane.SatNarrow ∷ lane.NarrowShr ∷ lane.NarrowRshr ∷ lane.SatNarrowShr ∷ lane.SatNarrowRshr ∷ []

-- a type first or none, one operand and so many more, an amount last or none
abbrev pub shaped : Bool → ℕ → Bool → Shape
shaped states more amount = record { states = states; more = more; amount = amount }

-- what stands in the round brackets behind an operator's word
abbrev pub shape_of : Op → Shape
shape_of op.Abs = shaped false 0 false
shape_of op.SaturatingCast = shaped true 0 false
shape_of op.RoundingShr = shaped false 0 true
shape_of op.MulShr = shaped false 1 true
shape_of op.RoundingMulShr = shaped false 1 true
shape_of _ = shaped false 1 false

abbrev pub operands_behind : LaneOperands → ℕ
operands_behind One = 0
operands_behind Two = 1
operands_behind UnsignedAndSigned = 1
operands_behind WideAndNarrow = 1
operands_behind Three = 2
operands_behind WideAndTwo = 2
operands_behind Four = 3

abbrev pub is_stated : LaneGives → Bool
is_stated SameWidth = true
is_stated HalfWidth = true
is_stated _ = false

abbrev pub has_amount : LaneAmounts → Bool
has_amount Without = false
has_amount _ = true

-- what stands in the round brackets behind a lane operation's word
abbrev pub lane_shape : LaneName → Shape
lane_shape o = shaped (is_stated (lane_row o).gives) (operands_behind (lane_row o).operands) (has_amount (lane_row o).amounts)

-- a token that begins with a letter, of at most 32 bytes
abbrev pub is_word : List ℕ → Bool
is_word [] = false
is_word (c ∷ w) = is_letter c && nat_le (length (c ∷ w)) 32

-- what the right sides of such a file are made of
abbrev pub language_of : Kind → Language
language_of Lift = Operators
language_of (Lower target) = Lanes
