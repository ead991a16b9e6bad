-- The value and the form of a pattern at a width and a shift.
use Rattle.std.specs.Prelude.{◌≡◌, ℕ, ℤ, pos, true, unsigned_abs, List, map, slice_index_or, Option, Some, None, option_and_then, Ok}
use Rattle.pf_ints.specs.declared.lane.LaneType.{LaneType}
use Rattle.pf_values.specs.declared.op.Op.{Op}
use Rattle.pf_values.specs.Meaning.Operators.{row_of}
use Rattle.pf_forms.specs.Meaning.Shapes.{Shape}
use Rattle.pf_forms.specs.Meaning.Shapes as form
use Rattle.pf_forms.specs.Meaning.Values.{FVal}
use Rattle.pf_templates.specs.Meaning.Templates.{at as at_letters}
use Rattle.pf_laneops.specs.declared.lane_name.LaneName.{LaneName}
use Rattle.pf_laneops.specs.Meaning.LaneRows.{lane_row, row_key, lane_result}
use Rattle.pf_laneops.specs.Meaning.Formulas.{formula, lane_formula, amount_by, over, row_form}
use Rattle.pf_rules.specs.declared.number.Amount.{Amount}
use Rattle.pf_rules.specs.declared.pattern.PatType.{PatType}
use Rattle.pf_rules.specs.declared.pattern.Pattern.{Pattern}
use Rattle.pf_rules.specs.declared.pattern.Pattern.TheOpen.{Pattern-F}
use Rattle.pf_rules.specs.declared.pattern.Pattern.TheOpen.Pattern-F.{Var, Const, Node, Lane}
use Rattle.pf_rules.specs.declared.pattern.Pattern.TheFolds.{fold-Pattern}
use Rattle.pf_rules.specs.declared.rule.Kind.{Kind}
use Rattle.pf_rules.specs.Meaning.Numbers.{number_at, amount_at}
use Rattle.pf_rules.specs.Meaning.Sorts.{At, lane_at, type_of_var, type_or, op_gives, args_of, sorting}

-- 0 where there is no value
abbrev pub value_or : Option ℤ → ℤ
value_or None = pos 0
value_or (Some n) = n

abbrev pub amount_or : At → Amount → ℕ
amount_or at k = unsigned_abs (value_or (amount_at at.w at.k k))

abbrev pub stated_or : At → Option PatType → Option LaneType
stated_or at to = option_and_then (lane_at at.w) to

-- the type of what a lane operation makes, by the table's row
abbrev pub lane_gives : LaneName → Option LaneType → List LaneType → LaneType
lane_gives op to types = type_or (option_and_then (λ t. lane_result (lane_row op).gives to t types) (row_key (lane_row op).operands types))

-- what a lane operation makes of its operands' values: the value of its row's formula
abbrev pub lane_value : LaneName → LaneType → ℕ → List ℤ → ℤ
lane_value op t k xs = FVal (λ n. slice_index_or xs n (slice_index_or xs 0 (pos 0))) (row_form op t k)

abbrev pub firsts : {A : Type 0} → List (LaneType × A) → List LaneType
firsts xs = map (λ x. x.0) xs

abbrev pub seconds : {A : Type 0} → List (LaneType × A) → List A
seconds xs = map (λ x. x.1) xs

-- ---- the value

abbrev op_valued : Op → LaneType → ℕ → List ℤ → LaneType × ℤ
op_valued op t k xs = (t, (row_of op).value t k xs)

abbrev lane_valued : LaneName → LaneType → ℕ → List ℤ → LaneType × ℤ
lane_valued op t k xs = (t, lane_value op t k xs)

-- the type and the value of a node, by those of its operands
abbrev pub own_value : {A : Type 0} → At → (ℕ → ℤ) → List LaneType → List ℤ → Pattern-F A → LaneType × ℤ
own_value at v types xs (Var n) = (type_or (type_of_var at n), v n)
own_value at v types xs (Const n ty) = (type_or (lane_at at.w ty), value_or (number_at at.w at.k n))
own_value at v types xs (Node op to k args) = op_valued op (op_gives op (stated_or at to) types) (amount_or at k) xs
own_value at v types xs (Lane op to k args) = lane_valued op (lane_gives op (stated_or at to) types) (amount_or at k) xs

abbrev pub value_step : At → (ℕ → ℤ) → Pattern-F (LaneType × ℤ) → LaneType × ℤ
value_step at v layer = own_value at v (firsts (args_of layer)) (seconds (args_of layer)) layer

abbrev pub typed_value : At → (ℕ → ℤ) → Pattern → LaneType × ℤ
typed_value at v = fold-Pattern (LaneType × ℤ) (value_step at v)

-- the value of a pattern, where v gives the variables theirs; it means something where the pattern has a type
abbrev pub PVal : At → (ℕ → ℤ) → Pattern → ℤ
PVal at v p = (typed_value at v p).1

-- ---- the form

abbrev op_formed : Op → LaneType → ℕ → List Shape → LaneType × Shape
op_formed op t k fs = (t, at_letters (over t k fs) (formula op))

abbrev lane_formed : LaneName → LaneType → ℕ → List Shape → LaneType × Shape
lane_formed op t k fs = (t, at_letters (over t (amount_by op t k) fs) (lane_formula op))

-- the type and the form of a node, by those of its operands
abbrev pub own_form : {A : Type 0} → At → List LaneType → List Shape → Pattern-F A → LaneType × Shape
own_form at types fs (Var n) = (type_or (type_of_var at n), form.Var n)
own_form at types fs (Const n ty) = (type_or (lane_at at.w ty), form.Num (value_or (number_at at.w at.k n)))
own_form at types fs (Node op to k args) = op_formed op (op_gives op (stated_or at to) types) (amount_or at k) fs
own_form at types fs (Lane op to k args) = lane_formed op (lane_gives op (stated_or at to) types) (amount_or at k) fs

abbrev pub form_step : At → Pattern-F (LaneType × Shape) → LaneType × Shape
form_step at layer = own_form at (firsts (args_of layer)) (seconds (args_of layer)) layer

abbrev pub typed_form : At → Pattern → LaneType × Shape
typed_form at = fold-Pattern (LaneType × Shape) (form_step at)

-- the form of a pattern, with its operators' and lane operations' formulas
abbrev pub form_at : At → Pattern → Shape
form_at at p = (typed_form at p).1

-- the pattern has a type by the tables, with its amounts in their ranges
pub record HasSort (at : At) (p : Pattern) : Type 0 where
  pub kind : Kind
  pub ty : LaneType
  pub sorted : sorting true kind at p ≡ Ok ty
