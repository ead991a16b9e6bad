-- Lane code whose first items are expanded.
use Rattle.std.specs.Prelude.{◌≡◌, ℕ, ◌*◌, Bool, List, [], length, map, sum, take, Option, Some, None}
use Rattle.pf_ints.specs.declared.target.Target.{Target}
use Rattle.pf_machine.specs.declared.block.Item.{Item}
use Rattle.pf_machine.specs.Meaning.Tables.{Table}
use Rattle.pf_laneops.specs.declared.lane_item.LaneItem.{LaneItem}
use Rattle.pf_laneops.specs.Meaning.LaneCodes.{item_cost}
use Rattle.pf_blocks.specs.declared.kept.Kept.{Kept}
use Rattle.pf_blocks.specs.Meaning.Growth.{Continues, IsOperationOrLoad}
use Rattle.pf_blocks.specs.Steps.KeptItems.{AreKept}

abbrev pub price_of : Option ℕ → ℕ
price_of None = 0
price_of (Some c) = c

-- what an item costs
abbrev pub price : Target → List LaneItem → LaneItem → ℕ
price target items item = price_of (item_cost target items item)

-- the block keeps the first n items that are needed, with at most 64 names each, and costs at most what they cost
pub record IsState {O : Type 0} (t : Table O) (is_op : O → Type 0) (ours : List ℕ → Type 0) (items : List LaneItem) (marks : List Bool) (block : List (Item O)) (names : ℕ) (kept : List (Option Kept)) (n : ℕ) : Type 0 where
  pub block_is : Continues t (IsOperationOrLoad is_op items) [] t.vectors block names (64 * n) (sum (map (price t.target items) (take n items)))
  pub kept_are : AreKept t ours items block names marks kept
  pub count : length kept ≡ n
