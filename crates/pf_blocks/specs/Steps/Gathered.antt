-- Operands in one order, as they are gathered.
use Rattle.std.specs.Prelude.{◌≡◌, ℕ, List, length, map, Option, Some, slice_get, slice_index}
use Rattle.pf_ints.specs.declared.lane.LaneType.{LaneType}
use Rattle.pf_machine.specs.declared.block.Item.{Item}
use Rattle.pf_machine.specs.Meaning.Tables.{Table}
use Rattle.pf_laneops.specs.declared.lane_item.LaneItem.{LaneItem}
use Rattle.pf_blocks.specs.declared.kept.Kept.{Kept}
use Rattle.pf_blocks.specs.Meaning.Values.{Holds, value_at}
use Rattle.pf_blocks.specs.Meaning.Expansions.{HasTaps}
use Rattle.pf_blocks.specs.Steps.KeptItems.{type_at}

-- item a is kept somewhere
abbrev pub IsThere : List (Option Kept) → ℕ → Type 0
IsThere kept a = (k : Kept) × (slice_get kept a ≡ Some (Some k))

-- the items of these numbers have these types, and are kept so, all in one order
pub record AreGathered {O : Type 0} (t : Table O) (items : List LaneItem) (block : List (Item O)) (names : ℕ) (order args : List ℕ) (types : List LaneType) (values : List Kept) : Type 0 where
  pub types_are : types ≡ map (type_at items) args
  pub count : length values ≡ length args
  pub orders : (j : ℕ) (k : Kept) (ds : List ℕ) → slice_get values j ≡ Some k → k.order ≡ Some ds → ds ≡ order
  pub holds : (widths : List ℕ) → HasTaps items widths → (j : ℕ) (k : Kept) → slice_get values j ≡ Some k
      → Holds t widths block names (type_at items (slice_index args j)) k (value_at items widths (slice_index args j))
