-- Lane code: the types, the costs and the values of its items, and what it keeps.
use Rattle.std.specs.Prelude.{◌≡◌, ℕ, ℤ, pos, ◌≤◌, ◌<◌, ◌^◌, ◌++◌, ◌==◌, nat_lt, sum, Bool, true, false, not, ◌&&◌, ◌||◌, List, [], ◌∷◌, length, map, slice_get, slice_index_or, Option, Some, None, is_some, option_and_then}
use Rattle.pf_ints.specs.declared.lane.LaneType.{LaneType}
use Rattle.pf_ints.specs.declared.lane.Bits.TheVariants.{Eight}
use Rattle.pf_ints.specs.declared.target.Target.{Target}
use Rattle.pf_ints.specs.declared.target.Target.TheVariants.{Neon, Avx2, Hvx}
use Rattle.pf_ints.specs.Meaning.Images.{is_pixel}
use Rattle.pf_ints.specs.Meaning.Lanes.{is_in}
use Rattle.pf_values.specs.Meaning.Terms.{typed_as, same_type, all_true}
use Rattle.pf_forms.specs.Meaning.Values.{FVal}
use Rattle.pf_laneops.specs.declared.lane_name.LaneName.{LaneName}
use Rattle.pf_laneops.specs.declared.lane_row.LaneGives.{LaneGives}
use Rattle.pf_laneops.specs.declared.lane_row.LaneGives.TheVariants.{SameWidth, HalfWidth}
use Rattle.pf_laneops.specs.declared.lane_item.LaneItem.{LaneItem}
use Rattle.pf_laneops.specs.declared.lane_item.LaneItem.TheVariants.{Tap, Splat, Work}
use Rattle.pf_laneops.specs.Meaning.Formulas.{row_form}
use Rattle.pf_laneops.specs.Meaning.LaneRows.{lane_row, row_type, when}

-- ---- values

-- what an operation makes of its operands' values: the value of its row's formula, by the result's type and the amount
abbrev pub row_value : LaneName → LaneType → ℕ → List ℤ → ℤ
row_value op ty k xs = FVal (λ n. slice_index_or xs n (slice_index_or xs 0 (pos 0))) (row_form op ty k)

-- the values at these places
abbrev pub values_at : List ℤ → List ℕ → List ℤ
values_at xs args = map (λ a. slice_index_or xs a (pos 0)) args

-- the value of an item at a pixel, where `taps` has the taps' numbers and `before` the values of the items before it
abbrev pub item_value : (ℕ → ℤ) → List ℤ → LaneItem → ℤ
item_value taps before (Tap tap ty) = taps tap
item_value taps before (Splat n ty) = n
item_value taps before (Work op ty k args) = row_value op ty k (values_at before args)

-- the values of items behind those that have the values `before`, all together
abbrev pub values_from : (ℕ → ℤ) → List ℤ → List LaneItem → List ℤ
values_from taps before [] = before
values_from taps before (item ∷ more) = values_from taps (before ++ item_value taps before item ∷ []) more

-- the value of item n at a pixel, where `taps` has the taps' numbers
unfoldable pub LVal : List LaneItem → ℕ → (ℕ → ℤ) → ℤ
LVal items n taps = slice_index_or (values_from taps [] items) n (pos 0)

-- ---- types and costs

-- the type of an item's lanes
abbrev pub item_type : LaneItem → LaneType
item_type (Tap tap ty) = ty
item_type (Splat n ty) = ty
item_type (Work op ty k args) = ty

-- the types of the items at these places
abbrev pub types_at : List LaneItem → List ℕ → List LaneType
types_at items args = map (λ a. slice_index_or (map item_type items) a (typed_as false Eight)) args

abbrev pub stated_by : LaneGives → LaneType → Option LaneType
stated_by SameWidth ty = Some ty
stated_by HalfWidth ty = Some ty
stated_by _ ty = None

-- the type that an operation is written with, where that of its result is ty
abbrev pub stated : LaneName → LaneType → Option LaneType
stated op ty = stated_by (lane_row op).gives ty

-- the target's table has a row for this operation, these types and this amount, with this cost
abbrev pub IsRow : Target → LaneName → LaneType → ℕ → List LaneType → ℕ → Type 0
IsRow target op ty k types cost = row_type target op (stated op ty) types k ≡ Some (ty, cost)

abbrev pub cost_at : LaneType → Option (LaneType × ℕ) → Option ℕ
cost_at ty None = None
cost_at ty (Some row) = when (same_type row.0 ty) row.1

-- what an item costs, among these items; none where the target has no such row. A tap and a splat cost nothing on every target
abbrev pub item_cost : Target → List LaneItem → LaneItem → Option ℕ
item_cost target items (Tap tap ty) = Some 0
item_cost target items (Splat n ty) = Some 0
item_cost target items (Work op ty k args) = cost_at ty (row_type target op (stated op ty) (types_at items args) k)

-- the item has a row on some target
abbrev pub has_row : List LaneItem → LaneItem → Bool
has_row items item = is_some (item_cost Neon items item) || (is_some (item_cost Avx2 items item) || is_some (item_cost Hvx items item))

abbrev pub cost_or : Option ℕ → ℕ
cost_or None = 0
cost_or (Some c) = c

-- the costs of all items together
abbrev pub code_cost : Target → List LaneItem → ℕ
code_cost target items = sum (map (λ item. cost_or (item_cost target items item)) items)

-- ---- what lane code keeps

-- the numbers of a tap and of a splat are of their types, and an operation's arguments are items before item n
abbrev pub is_own : ℕ → LaneItem → Bool
is_own n (Tap tap ty) = is_pixel ty
is_own n (Splat m ty) = is_in ty m
is_own n (Work op ty k args) = all_true (map (λ a. nat_lt a n) args)

-- a tap has one type
abbrev pub tap_agrees : LaneItem → LaneItem → Bool
tap_agrees (Tap s t) (Tap r u) = not (s == r) || same_type t u
tap_agrees _ _ = true

abbrev pub is_item : List LaneItem → ℕ → LaneItem → Bool
is_item items n item = is_own n item && has_row items item

pub record IsCode (items : List LaneItem) : Type 0 where
  pub few : length items ≤ 2 ^ 24
  -- each once
  pub once : (m n : ℕ) (item : LaneItem) → m < n → slice_get items m ≡ Some item → slice_get items n ≡ Some item → ⊥
  pub each : (n : ℕ) (item : LaneItem) → slice_get items n ≡ Some item → is_item items n item ≡ true
  pub taps : (m n : ℕ) (a b : LaneItem) → m < n → slice_get items m ≡ Some a → slice_get items n ≡ Some b → tap_agrees a b ≡ true

-- an item that may be added to these
pub record CanAdd (items : List LaneItem) (item : LaneItem) : Type 0 where
  pub room : length items < 2 ^ 24
  pub own : is_item items (length items) item ≡ true
  pub taps : (n : ℕ) (a : LaneItem) → slice_get items n ≡ Some a → tap_agrees a item ≡ true

-- the list of items and the number of the output
pub record Code : Type 0 where
  pub items : List LaneItem
  pub output : ℕ
