-- What is counted in patterns, and which are formed.
use Rattle.std.specs.Prelude.{ℕ, pos, ◌+◌, ◌==◌, nat_lt, nat_le, sum, Bool, true, false, ◌&&◌, ◌||◌, if◌then◌else◌, length, Option, zero, suc}
use Rattle.std.specs.Ordering.{int_eq}
use Rattle.pf_values.specs.Meaning.Operators.{Row, row_of}
use Rattle.pf_values.specs.Meaning.Terms.{all_true, operand_count, has_amount}
use Rattle.pf_laneops.specs.declared.lane_row.LaneRow.{LaneRow}
use Rattle.pf_laneops.specs.declared.lane_row.LaneOperands.{LaneOperands}
use Rattle.pf_laneops.specs.declared.lane_row.LaneOperands.TheVariants.{One, Two, Three, Four, UnsignedAndSigned, WideAndNarrow, WideAndTwo}
use Rattle.pf_laneops.specs.declared.lane_row.LaneGives.{LaneGives}
use Rattle.pf_laneops.specs.declared.lane_row.LaneGives.TheVariants.{SameWidth, HalfWidth}
use Rattle.pf_laneops.specs.declared.lane_row.LaneAmounts.{LaneAmounts}
use Rattle.pf_laneops.specs.declared.lane_row.LaneAmounts.TheVariants.{Without}
use Rattle.pf_laneops.specs.Meaning.LaneRows.{lane_row}
use Rattle.pf_rules.specs.declared.number.Amount.{Amount}
use Rattle.pf_rules.specs.declared.number.Amount.TheVariants.{Int}
use Rattle.pf_rules.specs.declared.pattern.PatType.{PatType}
use Rattle.pf_rules.specs.declared.pattern.Pattern.{Pattern}
use Rattle.pf_rules.specs.declared.pattern.Pattern.TheOpen.{Pattern-F}
use Rattle.pf_rules.specs.declared.pattern.Pattern.TheOpen.Pattern-F.{Var, Const, Node, Lane}
use Rattle.pf_rules.specs.declared.pattern.Pattern.TheFolds.{fold-Pattern}
use Rattle.pf_rules.specs.Meaning.Sorts.{states, is_stated}

abbrev pub nodes_step : Pattern-F ℕ → ℕ
nodes_step (Var n) = 1
nodes_step (Const n ty) = 1
nodes_step (Node op to k args) = 1 + sum args
nodes_step (Lane op to k args) = 1 + sum args

-- how many nodes a pattern has, leaves included
abbrev pub pattern_nodes : Pattern → ℕ
pattern_nodes = fold-Pattern ℕ nodes_step

abbrev pub weight_step : Pattern-F ℕ → ℕ
weight_step (Var n) = 1
weight_step (Const n ty) = 1
weight_step (Node op to k args) = (row_of op).weight + sum args
weight_step (Lane op to k args) = 1 + sum args

-- the sum of the weights of the nodes: of an operator its own, of all else 1
abbrev pub pattern_weight : Pattern → ℕ
pattern_weight = fold-Pattern ℕ weight_step

abbrev pub occurrences_step : ℕ → Pattern-F ℕ → ℕ
occurrences_step v (Var n) = if n == v then 1 else 0
occurrences_step v (Const n ty) = 0
occurrences_step v (Node op to k args) = sum args
occurrences_step v (Lane op to k args) = sum args

-- how often a variable stands in a pattern
abbrev pub occurrences : ℕ → Pattern → ℕ
occurrences v = fold-Pattern ℕ (occurrences_step v)

-- ---- which patterns are formed

abbrev pub lane_operand_count : LaneOperands → ℕ
lane_operand_count One = 1
lane_operand_count Two = 2
lane_operand_count Three = 3
lane_operand_count Four = 4
lane_operand_count UnsignedAndSigned = 2
lane_operand_count WideAndNarrow = 2
lane_operand_count WideAndTwo = 3

-- whether a lane operation is written with a type
abbrev pub lane_states : LaneGives → Bool
lane_states SameWidth = true
lane_states HalfWidth = true
lane_states _ = false

abbrev pub has_lane_amounts : LaneAmounts → Bool
has_lane_amounts Without = false
has_lane_amounts _ = true

abbrev pub is_zero : Amount → Bool
is_zero (Int n) = int_eq n (pos 0)
is_zero _ = false

-- as many operands as the row has, a type exactly where the row has one, and the amount 0 where it has none
abbrev pub is_formed_op : Row → Option PatType → Amount → ℕ → Bool
is_formed_op r to k count = (count == operand_count r.operands) && (is_stated (states r.gives) to && (has_amount r.amounts || is_zero k))

abbrev pub is_formed_lane : LaneRow → Option PatType → Amount → ℕ → Bool
is_formed_lane r to k count =
    (count == lane_operand_count r.operands) && (is_stated (lane_states r.gives) to && (has_lane_amounts r.amounts || is_zero k))

abbrev pub formed_step : ℕ → Pattern-F Bool → Bool
formed_step vars (Var n) = nat_lt n vars
formed_step vars (Const n ty) = true
formed_step vars (Node op to k args) = is_formed_op (row_of op) to k (length args) && all_true args
formed_step vars (Lane op to k args) = is_formed_lane (lane_row op) to k (length args) && all_true args

-- each node is so formed, and the variables are numbered below vars
abbrev pub is_formed : ℕ → Pattern → Bool
is_formed vars = fold-Pattern Bool (formed_step vars)

-- ---- operators and lane operations

abbrev pub lane_free_step : Pattern-F Bool → Bool
lane_free_step (Var n) = true
lane_free_step (Const n ty) = true
lane_free_step (Node op to k args) = all_true args
lane_free_step (Lane op to k args) = false

-- no lane operation stands in the pattern
abbrev pub is_lane_free : Pattern → Bool
is_lane_free = fold-Pattern Bool lane_free_step

abbrev pub op_free_step : Pattern-F Bool → Bool
op_free_step (Var n) = true
op_free_step (Const n ty) = true
op_free_step (Node op to k args) = false
op_free_step (Lane op to k args) = all_true args

-- no operator stands in the pattern
abbrev pub is_op_free : Pattern → Bool
is_op_free = fold-Pattern Bool op_free_step

abbrev pub bare_step : Pattern-F Bool → Bool
bare_step (Var n) = true
bare_step (Const n ty) = true
bare_step (Node op to k args) = false
bare_step (Lane op to k args) = false

-- a variable or a number
abbrev pub is_bare : Pattern → Bool
is_bare = fold-Pattern Bool bare_step

-- each of the first n variables stands in the pattern
abbrev pub all_stand : ℕ → Pattern → Bool
all_stand zero p = true
all_stand (suc n) p = nat_le 1 (occurrences n p) && all_stand n p
