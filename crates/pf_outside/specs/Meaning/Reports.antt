-- Reports: a status and the lines that are put with it.
use Rattle.std.specs.Prelude.{◌≡◌, ℕ, ◌+◌, ◌<◌, List, [], ◌∷◌, ◌++◌, codes, take, length, slice_index_or, Option, ◌⊎◌}
use Rattle.std.specs.List.{concat}
use Rattle.pf_images.specs.Meaning.Counts.{raised_by, Rose}
use Rattle.pf_images.specs.Meaning.Outside.{Changes, Appends}
use Rattle.pf_outside.specs.Meaning.StoreCalls.{RaisedUpTo}

-- a status with its lines, and the status and the line where memory is wanting for one of them
pub record Report : Type 0 where
  pub lines : List (List ℕ)
  pub status : ℕ
  pub poor_status : ℕ
  pub poor_line : List ℕ

-- LF
abbrev pub line_end : List ℕ
line_end = 10 ∷ []

unfoldable pub memory_line : List ℕ
memory_line = codes "out of memory" ++ line_end

-- a status with its lines; or 13 and the line of want of memory, where memory is wanting for one of them
abbrev pub report : ℕ → List (List ℕ) → Report
report status lines = record { lines = lines; status = status; poor_status = 13; poor_line = memory_line }

-- a line of some texts
abbrev pub line_of : List (List ℕ) → List ℕ
line_of [] = line_end
line_of (text ∷ more) = text ++ line_of more

-- a status with one line
abbrev pub told : ℕ → List (List ℕ) → Report
told status texts = report status (line_of texts ∷ [])

-- the report where memory is wanting
unfoldable pub wanting : Report
wanting = record { lines = memory_line ∷ []; status = 13; poor_status = 13; poor_line = [] }

-- the report where the write of a file failed: 4, also where memory is wanting for its line
unfoldable pub write_failed : List ℕ → Report
write_failed name = record { lines = line_of (codes "write failed: " ∷ name ∷ []) ∷ []; status = 4; poor_status = 4; poor_line = [] }

-- what is seen of an output at a moment
pub record Output : Type 0 where
  pub written : Option (List ℕ)
  pub faults : ℕ
  pub calls : ℕ

-- so many first lines were appended, and a prefix of this text
abbrev pub AppendsLines : List (List ℕ) → ℕ → List ℕ → List ℕ → List ℕ → Type 0
AppendsLines lines n text old new = (count : ℕ) × (new ≡ old ++ (concat (take n lines) ++ take count text))

-- the status was answered, and its lines were put, one by each call
pub record Reported (d : Report) (before : Output) (answer : ℕ) (after : Output) : Type 0 where
  pub status : answer ≡ d.status
  pub written : Changes (Appends (concat d.lines)) before.written after.written
  pub faults : after.faults ≡ before.faults
  pub calls : after.calls ≡ raised_by (length d.lines) before.calls

-- the output failed behind so many lines, by a prefix of the next one, or, where memory was wanting for that, of the poor line
abbrev pub FailsBehind : Report → ℕ → Output → Output → Type 0
FailsBehind d n before after =
    (Changes (AppendsLines d.lines n (slice_index_or d.lines n [])) before.written after.written × (after.calls ≡ raised_by (n + 1) before.calls))
    ⊎ (Changes (AppendsLines d.lines n d.poor_line) before.written after.written × RaisedUpTo 2 (raised_by n before.calls) after.calls)

-- the output failed: 4 was answered
pub record OutputFailed (d : Report) (before : Output) (answer : ℕ) (after : Output) : Type 0 where
  pub lines : ℕ
  pub due : lines < length d.lines
  pub status : answer ≡ 4
  pub put : FailsBehind d lines before after
  pub faults : Rose before.faults after.faults

-- memory was wanting for a line: behind those before it the poor line was put, or nothing
pub record MemoryWanted (d : Report) (before : Output) (answer : ℕ) (after : Output) : Type 0 where
  pub lines : ℕ
  pub due : lines < length d.lines
  pub status : answer ≡ d.poor_status
  pub written : Changes (λ old new. Appends (concat (take lines d.lines)) old new ⊎ Appends (concat (take lines d.lines) ++ d.poor_line) old new) before.written after.written
  pub faults : after.faults ≡ before.faults
  pub calls : RaisedUpTo 2 (raised_by lines before.calls) after.calls

-- the report was made, or the output failed, or memory was wanting. Without a line the first alone can be
abbrev pub Reports : Report → Output → ℕ → Output → Type 0
Reports d before answer after = Reported d before answer after ⊎ OutputFailed d before answer after ⊎ MemoryWanted d before answer after

-- what is seen of an output whose trait tells this
abbrev pub seen_output : {T : Type 0} → (T → Option (List ℕ)) → (T → ℕ) → (T → ℕ) → T → Output
seen_output written faults calls output = record { written = written output; faults = faults output; calls = calls output }
