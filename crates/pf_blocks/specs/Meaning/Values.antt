-- Blocks as they grow: what their names hold, and values that are kept in names, in an order.
use Rattle.std.specs.Prelude.{◌≡◌, ℕ, ℤ, pos, ◌/◌, ◌%◌, ◌<◌, ◌≤◌, List, [], length, Option, Some, None, slice_index, slice_index_or}
use Rattle.pf_ints.specs.declared.lane.LaneType.{LaneType}
use Rattle.pf_machine.specs.declared.block.Item.{Item}
use Rattle.pf_machine.specs.declared.registers.Reg.TheVariants.{V}
use Rattle.pf_machine.specs.Meaning.Bytes.{number}
use Rattle.pf_machine.specs.Meaning.RegisterFiles.{read}
use Rattle.pf_machine.specs.Meaning.Tables.{Table, IsFile}
use Rattle.pf_machine.specs.Meaning.Blocks.{Bench, items_run, AreTaps, AreSlots, pixel_part}
use Rattle.pf_lanes.specs.Meaning.Lanes.{lane, bytes_of}
use Rattle.pf_layout.specs.Meaning.Orders.{place_of}
use Rattle.pf_laneops.specs.declared.lane_item.LaneItem.{LaneItem}
use Rattle.pf_laneops.specs.Meaning.LaneCodes.{LVal}
use Rattle.pf_blocks.specs.declared.kept.Kept.{Kept}

-- how a block is begun: the taps' pixels, and what it works on
pub record Start : Type 0 where
  pub taps : List (List ℕ)
  pub bench : Bench

-- the taps have so many bytes a pixel, the registers hold bytes, at least so many vectors, and there are no slots
pub record IsStart {O : Type 0} (t : Table O) (widths : List ℕ) (names : ℕ) (s : Start) : Type 0 where
  pub taps : AreTaps t.vector widths s.taps
  pub room : names ≤ length s.bench.file.vectors
  pub file : IsFile t (length s.bench.file.vectors) s.bench.file
  pub slots : AreSlots t.vector 0 s.bench.slots

-- what a name holds after a block
unfoldable pub held : {O : Type 0} → Table O → List (Item O) → Start → ℕ → List ℕ
held t block s name = read (items_run t s.taps block s.bench).file (V name)

-- from every start the registers hold bytes after the block
pub record LeavesFile {O : Type 0} (t : Table O) (widths : List ℕ) (block : List (Item O)) (names : ℕ) : Type 0 where
  pub file : (s : Start) → IsStart t widths names s → IsFile t (length s.bench.file.vectors) (items_run t s.taps block s.bench).file

-- how many lanes a vector has
abbrev pub per : {O : Type 0} → Table O → LaneType → ℕ
per t ty = t.vector / bytes_of ty

-- the number at place q of a value that is kept in these names: places run through the vectors in order
abbrev pub at_place : {O : Type 0} → Table O → List (Item O) → Start → LaneType → List ℕ → ℕ → ℤ
at_place t block s ty names q = lane ty (held t block s (slice_index names (q / per t ty))) (q % per t ty)

-- pixel p stands at place q; where there is no order, each pixel has one number, and stands at all places
abbrev pub Stands : Option (List ℕ) → ℕ → ℕ → Type 0
Stands None p q = Unit {0}
Stands (Some ds) p q = q ≡ place_of ds p

-- after the block the names hold the value's lanes, in its order; none of the names is one of the machine's
pub record Holds {O : Type 0} (t : Table O) (widths : List ℕ) (block : List (Item O)) (names : ℕ) (ty : LaneType) (k : Kept) (value : Start → ℕ → ℤ) : Type 0 where
  pub own : (j : ℕ) → j < 4 → t.vectors ≤ slice_index k.names j
  pub old : (j : ℕ) → j < 4 → slice_index k.names j < names
  pub each : (s : Start) (p q : ℕ) → IsStart t widths names s → p < t.vector → q < t.vector → Stands k.order p q → at_place t block s ty k.names q ≡ value s p

-- the number of tap k at pixel p
abbrev pub tap_number : List ℕ → Start → ℕ → ℕ → ℤ
tap_number widths s p k = pos (number (pixel_part (slice_index widths k) p (slice_index_or s.taps k [])))

-- the value of item n of lane code at pixel p
unfoldable pub value_at : List LaneItem → List ℕ → ℕ → Start → ℕ → ℤ
value_at items widths n s p = LVal items n (tap_number widths s p)
