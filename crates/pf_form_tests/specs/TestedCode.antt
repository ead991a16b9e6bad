-- Lane code of tap 0 alone.
use Rattle.std.specs.Prelude.{◌≡◌, ◌⊎◌, List, [], ◌∷◌, false}
use Rattle.pf_ints.specs.declared.lane.Bits.TheVariants.{Eight}
use Rattle.pf_laneops.specs.declared.lane_item.LaneItem.{LaneItem}
use Rattle.pf_laneops.specs.declared.lane_item.LaneItem.TheVariants.{Tap}

abbrev pub byte_tap : LaneItem
byte_tap = Tap 0 (record { signed = false; bits = Eight })

abbrev pub HasAtMostTap : List LaneItem → Type 0
HasAtMostTap items = (items ≡ []) ⊎ (items ≡ byte_tap ∷ [])
