-- Running a program on images: where memory lies, and what the rows leave in it.
use Rattle.std.specs.Prelude.{◌≡◌, ℕ, zero, suc, ◌+◌, ◌*◌, ◌/◌, ◌%◌, ◌^◌, ◌<◌, List, [], ◌∷◌, ◌++◌, length, map, zip, Bool, true, false, All, slice_index, slice_index_or, unsigned_abs, replicate}
use Rattle.std.specs.List.{AllPairs}
use Rattle.pf_ints.specs.declared.lane.LaneType.{LaneType}
use Rattle.pf_ints.specs.Meaning.Lanes.{lane_width}
use Rattle.pf_ints.specs.Meaning.Images.{Picture}
use Rattle.pf_values.specs.declared.names.Tap.{Tap}
use Rattle.pf_values.specs.Meaning.Kernels.{out_width, out_height, tap_column, tap_row, no_picture}
use Rattle.pf_machine.specs.declared.memory.Region.{Region}
use Rattle.pf_machine.specs.declared.program.Head.{Head}
use Rattle.pf_machine.specs.Meaning.Bytes.{AreBytes, packed}
use Rattle.pf_machine.specs.Meaning.Memory.{Apart}
use Rattle.pf_machine.specs.Meaning.Tables.{Table}
use Rattle.pf_machine.specs.Meaning.Programs.{ProgramOf}
use Rattle.pf_machine.specs.Meaning.MachineSteps.{End, Ended, Stopped, OutOfSteps, run, started}

-- bytes of a pixel, and pixels as bytes
abbrev pub pixel_bytes : LaneType → ℕ
pixel_bytes ty = lane_width ty / 8

abbrev pub pixels_in_memory : LaneType → List ℕ → List ℕ
pixels_in_memory ty pixels = packed (pixel_bytes ty) pixels

-- the size of the output
abbrev pub columns : Head → List Picture → ℕ
columns h pictures = unsigned_abs (out_width h.taps pictures)

abbrev pub rows : Head → List Picture → ℕ
rows h pictures = unsigned_abs (out_height h.taps pictures)

-- where the regions of a run begin
pub record Places : Type 0 where
  pub table : ℕ
  pub scratch : ℕ
  pub images : List ℕ
  pub output : ℕ

abbrev pub region : ℕ → List ℕ → Bool → Region
region start bytes writes = record { start = start; bytes = bytes; reads = true; writes = writes }

abbrev pub image_regions : List ℕ → List Picture → List Region
image_regions [] pictures = []
image_regions (start ∷ starts) [] = []
image_regions (start ∷ starts) (p ∷ ps) = region start (pixels_in_memory p.ty p.pixels) false ∷ image_regions starts ps

-- the memory of a run: the table, the scratch, the images in order, the output. Scratch and output alone may be written.
abbrev pub memory : List Picture → Places → (table scratch output : List ℕ) → List Region
memory pictures at table scratch output =
    region at.table table false ∷ region at.scratch scratch true ∷ (image_regions at.images pictures ++ region at.output output true ∷ [])

-- the address of a tap at column 0 of row y
abbrev pub tap_address : List Tap → List Picture → List ℕ → ℕ → Tap → ℕ
tap_address taps pictures starts y t =
    let p = slice_index_or pictures t.image no_picture in
    slice_index starts t.image + pixel_bytes p.ty * (p.width * tap_row taps y t + tap_column taps 0 t)

-- the table of row y: the taps' addresses, the address of the row in the output, that of the scratch, and how many pixels the row has
abbrev pub row_entries : Head → List Picture → Places → ℕ → List ℕ
row_entries h pictures at y =
    map (tap_address h.taps pictures at.images y) h.taps ++ (at.output + pixel_bytes h.out_ty * (columns h pictures * y)) ∷ at.scratch ∷ columns h pictures ∷ []

abbrev pub table_size : Head → ℕ
table_size h = 8 * (length h.taps + 3)

abbrev pub output_size : Head → List Picture → ℕ
output_size h pictures = pixel_bytes h.out_ty * (columns h pictures * rows h pictures)

-- pixels of two bytes begin at an even address
abbrev pub IsAligned : LaneType → ℕ → Type 0
IsAligned ty start = start % pixel_bytes ty ≡ 0

-- a placement that a program may be run under: regions of bytes of the right sizes that are apart, end below 2^31 and are aligned
pub record IsPlaced (h : Head) (pictures : List Picture) (at : Places) (scratch output : List ℕ) : Type 0 where
  pub image_count : length at.images ≡ length pictures
  pub scratch_bytes : AreBytes h.scratch scratch
  pub output_bytes : AreBytes (output_size h pictures) output
  pub apart : AllPairs Apart (memory pictures at (replicate (table_size h) 0) scratch output)
  pub low : All (λ r. r.start + length r.bytes < 2 ^ 31) (memory pictures at (replicate (table_size h) 0) scratch output)
  pub aligned : All (λ p. IsAligned p.1.ty p.0) (zip at.images pictures)
  pub aligned_output : IsAligned h.out_ty at.output
  pub aligned_table : at.table % 8 ≡ 0

-- the steps that a row may take, of a program of so many instructions and taps, over so many pixels
abbrev pub row_budget : ℕ → ℕ → ℕ → ℕ
row_budget instructions taps pixels = (instructions + 1) * (pixels + 8) + 4096 * (taps + 2)

-- memory with other bytes in its first region, which is the table
abbrev pub with_table : List Region → List ℕ → List Region
with_table [] bytes = []
with_table (r ∷ rs) bytes = record r { bytes = bytes } ∷ rs

-- how a run ends: all rows return, or the row of this number ends otherwise
pub data RunEnd : Type 0 where
  Finished : List Region → RunEnd
  Failed : (row : ℕ) → End → RunEnd

abbrev pub then_rows : (List Region → RunEnd) → ℕ → End → RunEnd
then_rows next y (Ended s) = next s.regions
then_rows next y (Stopped at address length s) = Failed y (Stopped at address length s)
then_rows next y (OutOfSteps s) = Failed y (OutOfSteps s)

-- so many rows, from row y on: in each the table is written and the registers are cleared
abbrev pub rows_from : {I O : Type 0} → Table O → ProgramOf I O → ℕ → ℕ → (ℕ → List ℕ) → ℕ → ℕ → List Region → RunEnd
rows_from t p table budget entries zero y rs = Finished rs
rows_from t p table budget entries (suc left) y rs =
    then_rows (λ next. rows_from t p table budget entries left (suc y) next) y (run t p.code p.labels budget (started t table (with_table rs (packed 8 (entries y)))))

-- a run on images, from these contents of the scratch and the output
abbrev pub Runs : {I O : Type 0} → Table O → ProgramOf I O → List Picture → Places → (scratch output : List ℕ) → RunEnd
Runs t p pictures at scratch output =
    rows_from t p at.table (row_budget (length p.code) (length p.head.taps) (columns p.head pictures)) (λ y. row_entries p.head pictures at y) (rows p.head pictures) 0
    (memory pictures at (replicate (table_size p.head) 0) scratch output)

-- The run ends with all rows returned, and leaves these pixels in the output. The images are as before; table and scratch may hold something else.
pub record Leaves {I O : Type 0} (t : Table O) (p : ProgramOf I O) (pictures : List Picture) (at : Places) (scratch output : List ℕ) (o : Picture) : Type 0 where
  pub table : List ℕ
  pub kept : List ℕ
  pub kept_size : length kept ≡ length scratch
  pub ends : Runs t p pictures at scratch output ≡ Finished (memory pictures at table kept (pixels_in_memory o.ty o.pixels))
