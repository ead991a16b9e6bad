-- The code of a row: one copy of a block's instructions, and around it what gives it each part of the row.
-- A row of at least as many pixels as a vector has bytes is gone through in place. The block runs at x = 0, and after each run the next x is chosen:
-- one block further while a whole block is left, at the row's last whole block where fewer pixels are left, and no more where none is.
-- A narrower row is copied into buffers in the scratch, each tap pixel by pixel, and the scratch begins with a table of their addresses.
-- Then t becomes the scratch, the same block runs once at x = 0, and its pixels are copied from the last buffer to the row.
-- What follows the block tells the two apart by the row's count alone.
use Rattle.std.specs.Prelude.{ℕ, zero, suc, ◌+◌, ◌*◌, ◌/◌, ◌%◌, ◌≤◌, List, [], ◌∷◌, ◌++◌, length, true, false, replicate, codes, slice_index}
use Rattle.std.specs.List.{flat_map}
use Rattle.pf_machine.specs.Meaning.Roles.{table_role, count_role, scratch_role, pixel_role, kept_role, pointer_role, value_role, end_role}
use Rattle.pf_machine.specs.declared.control.Control.TheVariants.{LoadPtr, StorePtr, Imm, AddImm, AddReg, LoadByte, LoadHalf, StoreByte, StoreHalf, Compare, Below, Jump, Return}
use Rattle.pf_machine.specs.declared.code.Line.{Line}
use Rattle.pf_machine.specs.declared.code.Line.TheVariants.{Vector, Control as Controls}
use Rattle.pf_machine.specs.declared.code.Label.{Label}
use Rattle.pf_machine.specs.declared.block.Item.{Item}
use Rattle.pf_machine.specs.declared.block.Item.TheVariants.{Vector as Operation, TapLoad, OutStore, SlotLoad, SlotStore}
use Rattle.pf_machine.specs.declared.program.Head.{Head}
use Rattle.pf_machine.specs.Meaning.Programs.{ProgramOf}
use Rattle.pf_machine.specs.Meaning.Runs.{pixel_bytes}
use Rattle.pf_machine.specs.Meaning.Tables.{Table}
use Rattle.pf_rows.specs.Meaning.Scratch.{buffer_at, slot_at}
use Rattle.pf_rows.specs.Meaning.BlockRows.{tap_widths}

-- In these comments the general registers have the letters of Roles.

-- Addresses

-- the register goes on by x pixels of so many bytes
abbrev pub pixel_lines : {I O : Type 0} → ℕ → ℕ → List (Line I O)
pixel_lines r zero = []
pixel_lines r (suc width) = Controls (AddReg r r pixel_role) ∷ pixel_lines r width

-- the register goes on by so many times 4096, fewer than 4096 times
abbrev pub last_pages : {I O : Type 0} → ℕ → ℕ → List (Line I O)
last_pages r zero = []
last_pages r (suc pages) = Controls (AddImm r r false (4096 * suc pages)) ∷ []

-- the register goes on by so many times 4096
abbrev pub page_lines : {I O : Type 0} → ℕ → ℕ → List (Line I O)
page_lines r pages = replicate (pages / 4095) (Controls (AddImm r r false 16773120)) ++ last_pages r (pages % 4095)

-- the register is the address of a byte of the scratch
abbrev pub scratch_lines : {I O : Type 0} → ℕ → ℕ → List (Line I O)
scratch_lines r offset = Controls (AddImm r scratch_role false (offset % 4096)) ∷ page_lines r (offset / 4096)

-- The block

abbrev pub item_lines : {I O : Type 0} → Table O → List ℕ → ℕ → Item O → List (Line I O)
item_lines table widths width (Operation op) = Vector op ∷ []
item_lines table widths width (TapLoad to tap part) = Controls (LoadPtr pointer_role table_role tap) ∷ (pixel_lines pointer_role (slice_index widths tap) ++ Vector (table.load to part) ∷ [])
item_lines table widths width (OutStore from part) = Controls (LoadPtr pointer_role table_role (length widths)) ∷ (pixel_lines pointer_role width ++ Vector (table.store from part) ∷ [])
item_lines table widths width (SlotLoad to slot) = scratch_lines pointer_role (slot_at table.vector (length widths) slot) ++ Vector (table.load to 0) ∷ []
item_lines table widths width (SlotStore from slot) = scratch_lines pointer_role (slot_at table.vector (length widths) slot) ++ Vector (table.store from 0) ∷ []

abbrev pub block_lines : {I O : Type 0} → Table O → List ℕ → ℕ → List (Item O) → List (Line I O)
block_lines table widths width block = flat_map (λ item. item_lines table widths width item) block

-- Copies

abbrev pub load_value : {I O : Type 0} → ℕ → Line I O
load_value (suc zero) = Controls (LoadByte value_role pointer_role)
load_value _ = Controls (LoadHalf value_role pointer_role)

abbrev pub store_value : {I O : Type 0} → ℕ → Line I O
store_value (suc zero) = Controls (StoreByte end_role value_role)
store_value _ = Controls (StoreHalf end_role value_role)

-- e goes on by x pixels, the pixel is stored, and the next one follows while there is one
abbrev pub copy_end : {I O : Type 0} → ℕ → List ℕ → List (Line I O)
copy_end width name = pixel_lines end_role width ++ (store_value width ∷ Controls (AddImm pixel_role pixel_role false 1) ∷ Controls (Compare pixel_role count_role) ∷ Controls (Below name) ∷ [])

-- a pixel of so many bytes is copied from p to e, once both are set, and the next one follows while there is one
abbrev pub copy_turn : {I O : Type 0} → (from to : List (Line I O)) → ℕ → List ℕ → List (Line I O)
copy_turn from to width name = from ++ (pixel_lines pointer_role width ++ (load_value width ∷ (to ++ copy_end width name)))

abbrev pub copy_label : ℕ → List ℕ
copy_label k = 99 ∷ (48 + k / 10) ∷ (48 + k % 10) ∷ []

-- tap k is copied into its buffer, and the buffer's address is put into the scratch's table
abbrev pub tap_copy : {I O : Type 0} → (vector taps k width : ℕ) → List (Line I O)
tap_copy vector taps k width =
    Controls (Imm pixel_role 0)
    ∷ (copy_turn (Controls (LoadPtr pointer_role kept_role k) ∷ []) (scratch_lines end_role (buffer_at vector taps k)) width (copy_label k)
    ++ (scratch_lines end_role (buffer_at vector taps k) ++ Controls (StorePtr scratch_role k end_role) ∷ []))

-- so for each tap from tap k on
abbrev pub tap_copies : {I O : Type 0} → (vector taps k : ℕ) → List ℕ → List (Line I O)
tap_copies vector taps k [] = []
tap_copies vector taps k (width ∷ widths) = tap_copy vector taps k width ++ tap_copies vector taps (k + 1) widths

-- The parts of the code

-- u keeps the table; a row of fewer pixels than a vector has bytes is narrow
abbrev pub begin_lines : {I O : Type 0} → (vector taps : ℕ) → List (Line I O)
begin_lines vector taps =
    Controls (AddImm kept_role table_role false 0) ∷ Controls (LoadPtr count_role kept_role (taps + 2)) ∷ Controls (LoadPtr scratch_role kept_role (taps + 1))
    ∷ Controls (Imm end_role vector) ∷ Controls (Compare count_role end_role) ∷ Controls (Below (codes "narrow")) ∷ Controls (Imm pixel_role 0) ∷ []

-- behind the block: a narrow row is copied out; else the next block is chosen
abbrev pub next_lines : {I O : Type 0} → ℕ → List (Line I O)
next_lines vector =
    Controls (Imm end_role vector) ∷ Controls (Compare count_role end_role) ∷ Controls (Below (codes "back"))
    ∷ Controls (AddImm pixel_role pixel_role false vector) ∷ Controls (AddImm end_role pixel_role false vector) ∷ Controls (Compare count_role end_role) ∷ Controls (Below (codes "tail")) ∷ Controls (Jump (codes "block")) ∷ []

-- less than a block is left
abbrev pub tail_lines : {I O : Type 0} → List (Line I O)
tail_lines = Controls (Compare pixel_role count_role) ∷ Controls (Below (codes "last")) ∷ Controls Return ∷ []

abbrev pub last_lines : {I O : Type 0} → ℕ → List (Line I O)
last_lines vector = Controls (AddImm pixel_role count_role true vector) ∷ Controls (Jump (codes "block")) ∷ []

-- a narrow row: its taps are copied, the output's buffer is the last one, and the block runs over the buffers
abbrev pub narrow_lines : {I O : Type 0} → ℕ → List ℕ → List (Line I O)
narrow_lines vector widths =
    tap_copies vector (length widths) 0 widths
    ++ (scratch_lines end_role (buffer_at vector (length widths) (length widths))
    ++ Controls (StorePtr scratch_role (length widths) end_role) ∷ Controls (AddImm table_role scratch_role false 0) ∷ Controls (Imm pixel_role 0) ∷ Controls (Jump (codes "block")) ∷ [])

abbrev pub back_lines : {I O : Type 0} → (vector taps width : ℕ) → List (Line I O)
back_lines vector taps width =
    Controls (Imm pixel_role 0)
    ∷ (copy_turn (scratch_lines pointer_role (buffer_at vector taps taps)) (Controls (LoadPtr end_role kept_role taps) ∷ []) width (codes "loop") ++ Controls Return ∷ [])

-- the code, for taps and an output whose pixels have so many bytes
abbrev pub row_code : {I O : Type 0} → Table O → List ℕ → ℕ → List (Item O) → List (Line I O)
row_code table widths width block =
    begin_lines table.vector (length widths)
    ++ (block_lines table widths width block
    ++ (next_lines table.vector
    ++ (tail_lines
    ++ (last_lines table.vector
    ++ (narrow_lines table.vector widths
    ++ back_lines table.vector (length widths) width)))))

-- The labels, behind so many instructions

abbrev pub label : List ℕ → ℕ → Label
label name before = record { name = name; before = before }

-- the copies' labels, where the copy of tap k begins at this place
abbrev pub copy_labels : (I O : Type 0) (vector taps k before : ℕ) → List ℕ → List Label
copy_labels I O vector taps k before [] = []
copy_labels I O vector taps k before (width ∷ widths) = label (copy_label k) (before + 1) ∷ copy_labels I O vector taps (k + 1) (before + length (tap_copy {I = I} {O = O} vector taps k width)) widths

-- where the parts begin
abbrev pub next_at : (I : Type 0) {O : Type 0} → Table O → List ℕ → ℕ → List (Item O) → ℕ
next_at I {O} table widths width block = 7 + length (block_lines {I = I} table widths width block)

abbrev pub narrow_at : (I : Type 0) {O : Type 0} → Table O → List ℕ → ℕ → List (Item O) → ℕ
narrow_at I table widths width block = next_at I table widths width block + 13

abbrev pub back_at : (I : Type 0) {O : Type 0} → Table O → List ℕ → ℕ → List (Item O) → ℕ
back_at I {O} table widths width block = narrow_at I table widths width block + length (narrow_lines {I = I} {O = O} table.vector widths)

abbrev pub row_labels : (I : Type 0) {O : Type 0} → Table O → List ℕ → ℕ → List (Item O) → List Label
row_labels I {O} table widths width block =
    label (codes "block") 7
    ∷ label (codes "tail") (next_at I table widths width block + 8)
    ∷ label (codes "last") (next_at I table widths width block + 11)
    ∷ label (codes "narrow") (narrow_at I table widths width block)
    ∷ (copy_labels I O table.vector (length widths) 0 (narrow_at I table widths width block) widths
    ++ label (codes "back") (back_at I table widths width block) ∷ label (codes "loop") (back_at I table widths width block + 1) ∷ [])

-- The program

-- the program that runs a block over each row
abbrev pub row_text : (I : Type 0) {O : Type 0} → Table O → Head → List (Item O) → ProgramOf I O
row_text I table h block = record {
  head = h;
  code = row_code {I = I} table (tap_widths h) (pixel_bytes h.out_ty) block;
  labels = row_labels I table (tap_widths h) (pixel_bytes h.out_ty) block;
}

-- What its parts ask of a block

-- a tap's or an output's pixel has one byte or two
abbrev pub IsPixel : ℕ → Type 0
IsPixel width = (1 ≤ width) × (width ≤ 2)

-- the slot of an item lies below a place of the scratch
abbrev pub SlotEndsBelow : (vector taps end : ℕ) → {O : Type 0} → Item O → Type 0
SlotEndsBelow vector taps end (SlotLoad to slot) = slot_at vector taps slot ≤ end
SlotEndsBelow vector taps end (SlotStore from slot) = slot_at vector taps slot ≤ end
SlotEndsBelow vector taps end _ = Unit {0}

-- an item that is an operation is one of these
abbrev pub IsOne : {O : Type 0} → (O → Type 0) → Item O → Type 0
IsOne is_op (Operation op) = is_op op
IsOne is_op (TapLoad to tap part) = Unit {0}
IsOne is_op (OutStore from part) = Unit {0}
IsOne is_op (SlotLoad to slot) = Unit {0}
IsOne is_op (SlotStore from slot) = Unit {0}
