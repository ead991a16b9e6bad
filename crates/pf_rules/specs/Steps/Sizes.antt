-- How many nodes a pattern's form has, without the form.
use Rattle.std.specs.Prelude.{ℕ, ◌+◌, ◌==◌, Bool, false, not, if◌then◌else◌, List, [], ◌∷◌}
use Rattle.pf_values.specs.declared.op.Op.{Op}
use Rattle.pf_values.specs.declared.op.Op.TheVariants as op
use Rattle.pf_laneops.specs.declared.lane_name.LaneName.{LaneName}
use Rattle.pf_laneops.specs.declared.lane_name.LaneName.TheVariants as lane
use Rattle.pf_rules.specs.declared.pattern.Pattern.{Pattern}
use Rattle.pf_rules.specs.declared.pattern.Pattern.TheOpen.{Pattern-F}
use Rattle.pf_rules.specs.declared.pattern.Pattern.TheOpen.Pattern-F.{Var, Const, Node, Lane}
use Rattle.pf_rules.specs.declared.pattern.Pattern.TheFolds.{fold-Pattern}
use Rattle.pf_rules.specs.Meaning.Sorts.{args_of}

-- the nodes of an operator's formula, but for its operands'
abbrev pub op_nodes : Op → ℕ
op_nodes op.Cast = 1
op_nodes op.Min = 1
op_nodes op.Max = 1
op_nodes op.SelectGreater = 1
op_nodes op.Abs = 1
op_nodes op.WideningAdd = 1
op_nodes op.WideningSub = 1
op_nodes op.WideningMul = 1
op_nodes op.SaturatingCast = 1
op_nodes op.ShiftLeft = 3
op_nodes op.HalvingAdd = 3
op_nodes op.HalvingSub = 4
op_nodes op.RoundingShr = 4
op_nodes op.MulShr = 4
op_nodes op.RoundingHalvingAdd = 5
op_nodes op.RoundingMulShr = 6
op_nodes _ = 2

abbrev pub lane_nodes : LaneName → ℕ
lane_nodes lane.Widen = 0
lane_nodes lane.Min = 1
lane_nodes lane.Max = 1
lane_nodes lane.Abs = 1
lane_nodes lane.SelGt = 1
lane_nodes lane.Bits = 1
lane_nodes lane.WideningAdd = 1
lane_nodes lane.WideningSub = 1
lane_nodes lane.WideningMul = 1
lane_nodes lane.MulUs = 1
lane_nodes lane.Narrow = 1
lane_nodes lane.SatNarrow = 1
lane_nodes lane.Mla = 3
lane_nodes lane.HalvingAdd = 3
lane_nodes lane.Not = 3
lane_nodes lane.Shl = 3
lane_nodes lane.MulHigh = 3
lane_nodes lane.WideningMla = 3
lane_nodes lane.NarrowShr = 3
lane_nodes lane.SatNarrowShr = 3
lane_nodes lane.HalvingSub = 4
lane_nodes lane.RoundingShr = 4
lane_nodes lane.MulQ = 4
lane_nodes lane.RoundingHalvingAdd = 5
lane_nodes lane.NarrowRshr = 5
lane_nodes lane.SatNarrowRshr = 5
lane_nodes lane.MulQr = 6
lane_nodes lane.MulHrs = 8
lane_nodes _ = 2

-- whether operand n stands twice in the formula
abbrev pub op_twice : Op → ℕ → Bool
op_twice op.SelectEqual n = not (n == 2)
op_twice _ n = false

abbrev pub lane_twice : LaneName → ℕ → Bool
lane_twice lane.SelEq n = not (n == 2)
lane_twice _ n = false

abbrev pub counted : Bool → ℕ → ℕ
counted twice n = if twice then n + n else n

-- the nodes of the operands, the first of them being operand n
abbrev pub counted_from : (ℕ → Bool) → ℕ → List ℕ → ℕ
counted_from twice n [] = 0
counted_from twice n (x ∷ xs) = counted (twice n) x + counted_from twice (n + 1) xs

abbrev pub own_nodes_of : {A : Type 0} → Pattern-F A → ℕ
own_nodes_of (Var n) = 1
own_nodes_of (Const n ty) = 1
own_nodes_of (Node op to k args) = op_nodes op
own_nodes_of (Lane op to k args) = lane_nodes op

abbrev pub is_twice_in : {A : Type 0} → ℕ → Pattern-F A → Bool
is_twice_in i (Var n) = false
is_twice_in i (Const n ty) = false
is_twice_in i (Node op to k args) = op_twice op i
is_twice_in i (Lane op to k args) = lane_twice op i

abbrev pub form_nodes_step : Pattern-F ℕ → ℕ
form_nodes_step layer = own_nodes_of layer + counted_from (λ n. is_twice_in n layer) 0 (args_of layer)

abbrev pub form_nodes : Pattern → ℕ
form_nodes = fold-Pattern ℕ form_nodes_step

abbrev pub own_nodes : Pattern → ℕ
own_nodes = fold-Pattern ℕ (λ layer. own_nodes_of layer)

abbrev pub is_twice : Pattern → ℕ → Bool
is_twice p n = fold-Pattern Bool (λ layer. is_twice_in n layer) p
