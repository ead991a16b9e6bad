-- What one row does, and the image that all rows leave.
use Rattle.std.specs.Prelude.{◌≡◌, ℕ, ◌+◌, ◌*◌, ◌<◌, List, ◌++◌, length, map, take, drop}
use Rattle.std.specs.List.{range_with_len, flat_map}
use Rattle.pf_ints.specs.Meaning.Images.{Picture}
use Rattle.pf_machine.specs.declared.program.Head.{Head}
use Rattle.pf_machine.specs.Meaning.Bytes.{AreBytes, packed}
use Rattle.pf_machine.specs.Meaning.Tables.{Table}
use Rattle.pf_machine.specs.Meaning.Programs.{ProgramOf}
use Rattle.pf_machine.specs.Meaning.MachineSteps.{State, Ended, run, started}
use Rattle.pf_machine.specs.Meaning.Runs.{Places, pixel_bytes, pixels_in_memory, columns, rows, memory, row_entries, row_budget, output_size}

-- the bytes of a row of the output
abbrev pub row_size : Head → List Picture → ℕ
row_size h pictures = pixel_bytes h.out_ty * columns h pictures

-- the output with other bytes in a row of this size
abbrev pub with_row : List ℕ → ℕ → ℕ → List ℕ → List ℕ
with_row output size y row = take (size * y) output ++ (row ++ drop (size * y + size) output)

-- Row y ends by a return, and has then written these bytes in its place. What else is in the output is as before, and so are the images; the scratch may hold something else.
pub record RowDone {I O : Type 0} (t : Table O) (p : ProgramOf I O) (pictures : List Picture) (at : Places) (y : ℕ) (row scratch output : List ℕ) : Type 0 where
  pub last : State
  pub kept : List ℕ
  pub kept_bytes : AreBytes (length scratch) kept
  pub ends : run t p.code p.labels (row_budget (length p.code) (length p.head.taps) (columns p.head pictures)) (started t at.table (memory pictures at (packed 8 (row_entries p.head pictures at y)) scratch output)) ≡ Ended last
  pub regions : last.regions ≡ memory pictures at (packed 8 (row_entries p.head pictures at y)) kept (with_row output (row_size p.head pictures) y row)

-- so does each row, from whatever bytes of the scratch and the output
pub record RowsDone {I O : Type 0} (t : Table O) (p : ProgramOf I O) (pictures : List Picture) (at : Places) (row : ℕ → List ℕ) : Type 0 where
  pub bytes : (y : ℕ) → y < rows p.head pictures → AreBytes (row_size p.head pictures) (row y)
  pub each : (y : ℕ) → y < rows p.head pictures → (scratch output : List ℕ) → AreBytes p.head.scratch scratch → AreBytes (output_size p.head pictures) output
      → RowDone t p pictures at y (row y) scratch output

-- the numbers of a row and of all rows, each by its column and its row
abbrev pub row_values : (ℕ → ℕ → ℕ) → ℕ → ℕ → List ℕ
row_values value width y = map (λ x. value x y) (range_with_len 0 width)

abbrev pub image_values : (ℕ → ℕ → ℕ) → ℕ → ℕ → List ℕ
image_values value width height = flat_map (λ y. row_values value width y) (range_with_len 0 height)

-- the output of these numbers
abbrev pub output_picture : (ℕ → ℕ → ℕ) → Head → List Picture → Picture
output_picture value h pictures = record { width = columns h pictures; height = rows h pictures; ty = h.out_ty; pixels = image_values value (columns h pictures) (rows h pictures) }

-- the bytes of row y of the output of these numbers
abbrev pub row_in_memory : (ℕ → ℕ → ℕ) → Head → List Picture → ℕ → List ℕ
row_in_memory value h pictures y = pixels_in_memory h.out_ty (row_values value (columns h pictures) y)
