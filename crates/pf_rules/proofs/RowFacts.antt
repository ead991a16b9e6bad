-- What is known of a node that has a type: its operands' count, its type as the meanings of sides have it, and its amount.
use Rattle.std.proofs.Common.{◌≡◌, refl, sym, ap, ◌∙◌, ℕ, ◌<◌, ◌≤◌, ◌==◌, eqb-true, ℤ, pos, negsuc, Bool, true, false, cond, Some, None, List, [], ◌∷◌, length, arith, Ok}
use Rattle.std.specs.Prelude.{Option, nat_lt, ◌&&◌, option_and_then, option_map, is_some}
use Rattle.std.proofs.lemmas.Bool.Decides.{nat_tests}
use Rattle.pf_ints.specs.declared.lane.LaneType.{LaneType}
use Rattle.pf_ints.specs.declared.target.Target.{Target}
use Rattle.pf_ints.specs.Meaning.Lanes.{lane_width}
use Rattle.pf_values.specs.declared.op.Op.{Op}
use Rattle.pf_values.specs.declared.row.Amounts.{Amounts}
use Rattle.pf_values.specs.declared.row.Amounts.TheVariants as amounts
use Rattle.pf_values.specs.Meaning.Operators.{row_of}
use Rattle.pf_values.specs.Meaning.Terms.{operand_count, type_fault, first_width, is_amount, node_type, unless_differs}
use Rattle.pf_laneops.specs.declared.lane_name.LaneName.{LaneName}
use Rattle.pf_laneops.specs.declared.lane_row.LaneRow.{LaneRow}
use Rattle.pf_laneops.specs.declared.lane_row.LaneOperands.{LaneOperands}
use Rattle.pf_laneops.specs.declared.lane_row.LaneOperands.TheVariants as operands
use Rattle.pf_laneops.specs.Meaning.LaneRows.{lane_row, row_type, row_key, lane_result, allowed, factor, cost_on, counted, priced, is_lane_amount}
use Rattle.pf_rules.specs.declared.number.Amount.{Amount as AmountOf}
use Rattle.pf_rules.specs.declared.pattern.PatType.{PatType}
use Rattle.pf_rules.specs.declared.rule.Kind.{Kind}
use Rattle.pf_rules.specs.declared.rule.Kind.TheVariants.{Lift, Lower}
use Rattle.pf_rules.specs.Meaning.Numbers.{amount_at}
use Rattle.pf_rules.specs.Meaning.Sorts.{At, lane_at, states, is_stated, op_gives, unless_fault, op_type, has_op_amount, some_amount, lane_op_type, has_lane_amount, if_fits, judged, stated_at, judged_op, judged_lane, type_or}
use Rattle.pf_rules.specs.Meaning.Sides.{amount_or, stated_or, lane_gives}
use Rattle.pf_rules.proofs.AmountLaws.{bits_small, no_row}

-- what is known of an amount that was found to fit
pub record IsFitting (at : At) (k : AmountOf) (has : ℕ → Bool) : Type 0 where
  pub is : amount_at at.w at.k k ≡ Some (pos (amount_or at k))
  pub has_it : has (amount_or at k) ≡ true

fitting : (at : At) (k : AmountOf) (has : ℕ → Bool) (t : LaneType) (o : Option ℤ) (u : LaneType) → amount_at at.w at.k k ≡ o → judged true (Some t) has o ≡ Ok u → (t ≡ u) × IsFitting at k has
fitting at k has t None u e h = absurd (cc)
fitting at k has t (Some (negsuc j)) u e h = absurd (cc)
fitting at k has t (Some (pos j)) u e h = by (has j) refl h
  where
    same : amount_or at k ≡ j
    same = rw e refl

    by : (b : Bool) → has j ≡ b → if_fits true b t (pos j) ≡ Ok u → (t ≡ u) × IsFitting at k has
    by true f g = (cc, record { is = e ∙ ap (λ n. Some (pos n)) (sym same); has_it = ap has same ∙ f })
    by false f g = absurd (cc)

judged_some : (at : At) (k : AmountOf) (has : ℕ → Bool) (o : Option LaneType) (u : LaneType) → judged true o has (amount_at at.w at.k k) ≡ Ok u → (o ≡ Some u) × IsFitting at k has
judged_some at k has None u h = absurd (cc)
judged_some at k has (Some t) u h = let f = fitting at k has t (amount_at at.w at.k k) u refl h in (ap (λ x. Some x) f.0, f.1)

-- what was stated
pub stated_same : (at : At) (to : Option PatType) (s : Option LaneType) → stated_at at.w to ≡ Some s → stated_or at to ≡ s
stated_same at None s h = cc h
stated_same at (Some t) s h = by (lane_at at.w t) refl h
  where
    by : (o : Option LaneType) → lane_at at.w t ≡ o → option_map Some o ≡ Some s → stated_or at (Some t) ≡ s
    by None e g = absurd (cc)
    by (Some u) e g = e ∙ (let same : Some u ≡ s = cc g in same)

-- ---- operators

pub amount_small : (a : Amounts) (w k : ℕ) → w ≤ 32 → is_amount a w k ≡ true → k < 64
amount_small amounts.Without w k small h = grind (arith, nat_tests)
amount_small amounts.Shift w k small h = grind (arith, nat_tests)
amount_small amounts.RoundingShift w k small h = grind (arith, nat_tests)
amount_small amounts.Product w k small h = grind (arith, nat_tests)
amount_small amounts.RoundingProduct w k small h = grind (arith, nat_tests)

pub width_small : (types : List LaneType) → first_width types ≤ 32
width_small [] = omega arith
width_small (t ∷ ts) = bits_small t.bits

pub record OpFacts (at : At) (op : Op) (to : Option PatType) (k : AmountOf) (types : List LaneType) (t : LaneType) : Type 0 where
  pub count : length types ≡ operand_count (row_of op).operands
  pub gives : op_gives op (stated_or at to) types ≡ t
  pub amount : amount_at at.w at.k k ≡ Some (pos (amount_or at k))
  pub small : amount_or at k < 64
  pub stated : stated_at at.w to ≡ Some (stated_or at to)
  pub judged : node_type (row_of op) t (amount_or at k) types ≡ Ok t

pub op_type_facts : (op : Op) (s : Option LaneType) (types : List LaneType) (t : LaneType) → op_type op s types ≡ Some t →
    (length types ≡ operand_count (row_of op).operands) × (op_gives op s types ≡ t) × (type_fault (row_of op) (op_gives op s types) types ≡ None)
op_type_facts op s types t h = by (length types == operand_count (row_of op).operands) (is_stated (states (row_of op).gives) s) (type_fault (row_of op) (op_gives op s types) types) refl refl h
  where
    by : (c d : Bool) (f : Option (LaneType × LaneType)) → (length types == operand_count (row_of op).operands) ≡ c → type_fault (row_of op) (op_gives op s types) types ≡ f →
        cond (c && d) (unless_fault f (op_gives op s types)) None ≡ Some t →
        (length types ≡ operand_count (row_of op).operands) × (op_gives op s types ≡ t) × (type_fault (row_of op) (op_gives op s types) types ≡ None)
    by true true None e none g = (eqb-true _ _ e, cc g, none)
    by true true (Some x) e none g = absurd (cc g)
    by true false f e none g = absurd (cc g)
    by false d f e none g = absurd (cc g)

pub op_facts : (at : At) (op : Op) (to : Option PatType) (k : AmountOf) (types : List LaneType) (t : LaneType) → judged_op true at op k types (stated_at at.w to) ≡ Ok t → OpFacts at op to k types t
op_facts at op to k types t h = by (stated_at at.w to) refl h
  where
    by : (s : Option (Option LaneType)) → stated_at at.w to ≡ s → judged_op true at op k types s ≡ Ok t → OpFacts at op to k types t
    by None e g = absurd (cc)
    by (Some s) e g =
        let found = judged_some at k (has_op_amount op types) (op_type op s types) t g in
        let facts = op_type_facts op s types t found.0 in
        let none : type_fault (row_of op) t types ≡ None = ap (λ u. type_fault (row_of op) u types) (sym facts.1) ∙ facts.2 in
        record {
          count = facts.0;
          gives = ap (λ x. op_gives op x types) (stated_same at to s e) ∙ facts.1;
          amount = found.1.is;
          stated = e ∙ ap Some (sym (stated_same at to s e));
          judged = ap (λ o. unless_differs o (has_op_amount op types (amount_or at k)) t (amount_or at k)) none ∙ ap (λ b. unless_differs None b t (amount_or at k)) found.1.has_it;
          small = amount_small (row_of op).amounts (first_width types) (amount_or at k) (width_small types) found.1.has_it;
        }

-- ---- lane operations

allowed_type : (r : LaneRow) (target : Target) (k : ℕ) (t u : LaneType) (p : LaneType × ℕ) → allowed r target k t u ≡ Some p → u ≡ p.0
allowed_type r target k t u p h = by (factor (cost_on r target) t u) (is_lane_amount r.amounts target (lane_width (counted r.gives t u)) k) h
  where
    by : (f : Option ℕ) (b : Bool) → option_and_then (λ n. cond b (priced u n (counted r.gives t u)) None) f ≡ Some p → u ≡ p.0
    by None b g = absurd (cc)
    by (Some n) true g = cc
    by (Some n) false g = absurd (cc)

-- the result's type of a row is what the operation gives
pub row_gives : (target : Target) (op : LaneName) (to : Option LaneType) (types : List LaneType) (k : ℕ) (p : LaneType × ℕ) → row_type target op to types k ≡ Some p → lane_gives op to types ≡ p.0
row_gives target op to types k p h = by (row_key (lane_row op).operands types) refl h
  where
    by_result : (t : LaneType) (o : Option LaneType) → row_key (lane_row op).operands types ≡ Some t → lane_result (lane_row op).gives to t types ≡ o →
        option_and_then (λ u. allowed (lane_row op) target k t u) o ≡ Some p → lane_gives op to types ≡ p.0
    by_result t None e f g = absurd (cc)
    by_result t (Some u) e f g =
        ap (λ o. type_or (option_and_then (λ x. lane_result (lane_row op).gives to x types) o)) e ∙ ap type_or f ∙ allowed_type (lane_row op) target k t u p g

    by : (o : Option LaneType) → row_key (lane_row op).operands types ≡ o →
        option_and_then (λ t. option_and_then (λ u. allowed (lane_row op) target k t u) (lane_result (lane_row op).gives to t types)) o ≡ Some p → lane_gives op to types ≡ p.0
    by None e g = absurd (cc)
    by (Some t) e g = by_result t (lane_result (lane_row op).gives to t types) e refl g

no_key : (o : LaneOperands) → row_key o [] ≡ None
no_key operands.One = refl
no_key operands.Two = refl
no_key operands.Three = refl
no_key operands.Four = refl
no_key operands.UnsignedAndSigned = refl
no_key operands.WideAndNarrow = refl
no_key operands.WideAndTwo = refl

-- no row is without operands
pub row_some : (target : Target) (op : LaneName) (to : Option LaneType) (types : List LaneType) (k : ℕ) (p : LaneType × ℕ) → row_type target op to types k ≡ Some p → 0 < length types
row_some target op to (t ∷ ts) k p h = omega arith
row_some target op to [] k p h = absurd (by (row_key (lane_row op).operands []) (no_key (lane_row op).operands) h)
  where
    by : (o : Option LaneType) → o ≡ None →
        option_and_then (λ t. option_and_then (λ u. allowed (lane_row op) target k t u) (lane_result (lane_row op).gives to t [])) o ≡ Some p → ⊥
    by None e g = cc
    by (Some t) e g = cc

pub record LaneFacts (at : At) (op : LaneName) (to : Option PatType) (k : AmountOf) (types : List LaneType) (t : LaneType) : Type 0 where
  pub some : 0 < length types
  pub gives : lane_gives op (stated_or at to) types ≡ t
  pub amount : amount_at at.w at.k k ≡ Some (pos (amount_or at k))
  pub small : amount_or at k < 64
  pub target : Target
  pub cost : ℕ
  pub row : row_type target op (stated_or at to) types (amount_or at k) ≡ Some (t, cost)

row_small : (target : Target) (op : LaneName) (to : Option LaneType) (types : List LaneType) (k : ℕ) (p : LaneType × ℕ) → row_type target op to types k ≡ Some p → k < 64
row_small target op to types k p h = by (nat_lt k 64) refl
  where
    by : (b : Bool) → nat_lt k 64 ≡ b → k < 64
    by true e = grind (arith, nat_tests)
    by false e = absurd (let none = no_row target op to types k (grind (arith, nat_tests)) in cc (none, h))

pub lane_facts : (kind : Kind) (at : At) (op : LaneName) (to : Option PatType) (k : AmountOf) (types : List LaneType) (t : LaneType) →
    judged_lane true kind at op k types (stated_at at.w to) ≡ Ok t → LaneFacts at op to k types t
lane_facts kind at op to k types t h = by kind (stated_at at.w to) refl h
  where
    facts : (target : Target) (s : Option LaneType) (first here : Option (LaneType × ℕ)) → stated_or at to ≡ s → row_type target op s types (some_amount (lane_row op).amounts) ≡ first →
        row_type target op s types (amount_or at k) ≡ here → option_map (λ r. r.0) first ≡ Some t → is_some here ≡ true → amount_at at.w at.k k ≡ Some (pos (amount_or at k)) → LaneFacts at op to k types t
    facts target s None here st e f g i am = absurd (cc)
    facts target s (Some p) None st e f g i am = absurd (cc)
    facts target s (Some p) (Some q) st e f g i am =
        let first : p.0 ≡ t = cc g in
        let type : lane_gives op s types ≡ t = row_gives target op s types (some_amount (lane_row op).amounts) p e ∙ first in
        let same : q.0 ≡ t = sym (row_gives target op s types (amount_or at k) q f) ∙ type in
        record {
          some = row_some target op s types (some_amount (lane_row op).amounts) p e;
          gives = ap (λ x. lane_gives op x types) st ∙ type;
          amount = am;
          small = row_small target op s types (amount_or at k) q f;
          target = target;
          cost = q.1;
          row = ap (λ x. row_type target op x types (amount_or at k)) st ∙ f ∙ ap (λ x. Some (x, q.1)) same;
        }

    by : (kind : Kind) (s : Option (Option LaneType)) → stated_at at.w to ≡ s → judged_lane true kind at op k types s ≡ Ok t → LaneFacts at op to k types t
    by kind None e g = absurd (cc)
    by Lift (Some s) e g = absurd (cc)
    by (Lower target) (Some s) e g =
        let found = judged_some at k (has_lane_amount (Lower target) op s types) (lane_op_type (Lower target) op s types) t g in
        facts target s (row_type target op s types (some_amount (lane_row op).amounts)) (row_type target op s types (amount_or at k)) (stated_same at to s e) refl refl found.0 found.1.has_it found.1.is
