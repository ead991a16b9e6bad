-- The items of lane code that are kept so far.
use Rattle.std.specs.Prelude.{◌≡◌, ℕ, ◌<◌, Bool, true, false, List, length, map, Option, Some, slice_get, slice_index_or}
use Rattle.pf_ints.specs.declared.lane.LaneType.{LaneType}
use Rattle.pf_ints.specs.declared.lane.Bits.TheVariants.{Eight}
use Rattle.pf_values.specs.Meaning.Terms.{typed_as}
use Rattle.pf_machine.specs.declared.block.Item.{Item}
use Rattle.pf_machine.specs.Meaning.Tables.{Table}
use Rattle.pf_laneops.specs.declared.lane_item.LaneItem.{LaneItem}
use Rattle.pf_laneops.specs.Meaning.LaneCodes.{item_type}
use Rattle.pf_blocks.specs.declared.kept.Kept.{Kept}
use Rattle.pf_blocks.specs.Meaning.Values.{Holds, value_at}
use Rattle.pf_blocks.specs.Meaning.Expansions.{HasTaps}

-- the type of item n
abbrev pub type_at : List LaneItem → ℕ → LaneType
type_at items n = slice_index_or (map item_type items) n (typed_as false Eight)

-- item n is kept so
pub record IsKept {O : Type 0} (t : Table O) (ours : List ℕ → Type 0) (items : List LaneItem) (block : List (Item O)) (names n : ℕ) (k : Kept) : Type 0 where
  pub order : (ds : List ℕ) → k.order ≡ Some ds → ours ds
  pub holds : (widths : List ℕ) → HasTaps items widths → Holds t widths block names (type_at items n) k (value_at items widths n)

-- each of the first items that is needed is kept, and each that is kept is kept so
pub record AreKept {O : Type 0} (t : Table O) (ours : List ℕ → Type 0) (items : List LaneItem) (block : List (Item O)) (names : ℕ) (marks : List Bool) (kept : List (Option Kept)) : Type 0 where
  pub each : (n : ℕ) (k : Kept) → slice_get kept n ≡ Some (Some k) → IsKept t ours items block names n k
  pub there : (n : ℕ) → n < length kept → slice_index_or marks n false ≡ true → (k : Kept) × (slice_get kept n ≡ Some (Some k))
