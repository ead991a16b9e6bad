-- Items that are marked since others need them.
use Rattle.std.specs.Prelude.{◌≡◌, ℕ, ◌≤◌, Bool, true, false, List, [], Contains, Some, slice_get, slice_index_or}
use Rattle.pf_laneops.specs.declared.lane_item.LaneItem.{LaneItem}
use Rattle.pf_laneops.specs.declared.lane_item.LaneItem.TheVariants.{Work}

-- the numbers of the items that an item is made of
abbrev pub arguments : LaneItem → List ℕ
arguments (Work op ty k args) = args
arguments _ = []

-- with each marked item from one on, its arguments are marked
pub record AreClosed (items : List LaneItem) (first : ℕ) (marks : List Bool) : Type 0 where
  pub each : (n a : ℕ) (item : LaneItem) → first ≤ n → slice_get items n ≡ Some item → slice_index_or marks n false ≡ true → Contains (arguments item) a → slice_index_or marks a false ≡ true
