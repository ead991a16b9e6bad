-- Blocks: straight-line code over vectors by any names.
use Rattle.std.specs.Prelude.{◌≡◌, ℕ, ◌*◌, ◌<◌, List, [], ◌∷◌, length, take, drop, All, None, slice_set, slice_index, slice_index_or, replicate}
use Rattle.std.specs.List.{concat}
use Rattle.pf_machine.specs.declared.registers.Reg.TheVariants.{V}
use Rattle.pf_machine.specs.declared.registers.RegFile.{RegFile}
use Rattle.pf_machine.specs.declared.block.Item.{Item}
use Rattle.pf_machine.specs.declared.block.Item.TheVariants.{Vector, TapLoad, OutStore, SlotLoad, SlotStore}
use Rattle.pf_machine.specs.Meaning.Bytes.{AreBytes, bytes}
use Rattle.pf_machine.specs.Meaning.RegisterFiles.{read, write, IsRegisterOf}
use Rattle.pf_machine.specs.Meaning.Tables.{Table, after, IsFile}

-- what a block works on: registers, the slots of the scratch, and the vectors of the output so far
pub record Bench : Type 0 where
  pub file : RegFile
  pub slots : List (List ℕ)
  pub output : List (List ℕ)

-- one step, where each tap has the bytes of as many pixels as a vector has bytes
abbrev pub item_step : {O : Type 0} → Table O → List (List ℕ) → Item O → Bench → Bench
item_step t taps (Vector op) b = record b { file = after t op b.file }
item_step t taps (TapLoad to tap part) b = record b { file = write b.file (V to) (take t.vector (drop (t.vector * part) (slice_index_or taps tap []))) }
item_step t taps (OutStore from part) b = record b { output = slice_set b.output part (read b.file (V from)) }
item_step t taps (SlotLoad to slot) b = record b { file = write b.file (V to) (slice_index_or b.slots slot []) }
item_step t taps (SlotStore from slot) b = record b { slots = slice_set b.slots slot (read b.file (V from)) }

abbrev pub items_run : {O : Type 0} → Table O → List (List ℕ) → List (Item O) → Bench → Bench
items_run t taps [] b = b
items_run t taps (item ∷ more) b = items_run t taps more (item_step t taps item b)

-- the output of a block that stores so many vectors, from registers and slots of any content
abbrev pub BVal : {O : Type 0} → Table O → ℕ → List (Item O) → List (List ℕ) → RegFile → List (List ℕ) → List (List ℕ)
BVal t parts block taps file slots = (items_run t taps block (record { file = file; slots = slots; output = replicate parts [] })).output

-- a step is no load or store, and names vectors below a bound and slots below another
abbrev pub IsWithin : {O : Type 0} → Table O → ℕ → ℕ → Item O → Type 0
IsWithin t names slots (Vector op) = (t.access op ≡ None) × All (λ r. IsRegisterOf names r) (t.uses op) × All (λ r. IsRegisterOf names r) (t.defs op)
IsWithin t names slots (TapLoad to tap part) = to < names
IsWithin t names slots (OutStore from part) = from < names
IsWithin t names slots (SlotLoad to slot) = (to < names) × (slot < slots)
IsWithin t names slots (SlotStore from slot) = (from < names) × (slot < slots)

-- taps, each of so many bytes a pixel and of as many pixels as a vector has bytes
pub record AreTaps (vector : ℕ) (widths : List ℕ) (taps : List (List ℕ)) : Type 0 where
  pub each : (k : ℕ) → k < length widths → AreBytes (slice_index widths k * vector) (slice_index_or taps k [])

-- so many slots, each with a vector's bytes
pub record AreSlots (vector slots : ℕ) (kept : List (List ℕ)) : Type 0 where
  pub count : length kept ≡ slots
  pub each : All (λ v. AreBytes vector v) kept

-- such a block's output depends on the taps alone, and not on what registers and slots hold at its start
pub record IsClean {O : Type 0} (t : Table O) (widths : List ℕ) (names slots parts : ℕ) (block : List (Item O)) : Type 0 where
  pub within : All (IsWithin t names slots) block
  pub same : (taps : List (List ℕ)) (f g : RegFile) (kept other : List (List ℕ)) → AreTaps t.vector widths taps → IsFile t names f → IsFile t names g
      → AreSlots t.vector slots kept → AreSlots t.vector slots other → BVal t parts block taps f kept ≡ BVal t parts block taps g other

-- the bytes of pixel k
abbrev pub pixel_part : (width k : ℕ) → List ℕ → List ℕ
pixel_part width k held = take width (drop (width * k) held)

-- each pixel that a block gives is a function of the taps' numbers at that pixel alone
pub record IsLanewise {O : Type 0} (t : Table O) (widths : List ℕ) (names slots width : ℕ) (block : List (Item O)) (value : List ℕ → ℕ) : Type 0 where
  pub each : (taps : List (List ℕ)) (numbers : List ℕ) (file : RegFile) (kept : List (List ℕ)) (j : ℕ) → AreTaps t.vector widths taps → IsFile t names file
      → AreSlots t.vector slots kept
      → j < t.vector → length numbers ≡ length widths
      → ((k : ℕ) → k < length widths → pixel_part (slice_index widths k) j (slice_index_or taps k []) ≡ bytes (slice_index widths k) (slice_index numbers k))
      → pixel_part width j (concat (BVal t width block taps file kept)) ≡ bytes width (value numbers)
