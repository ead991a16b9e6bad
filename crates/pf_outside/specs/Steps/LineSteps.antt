-- The pieces of lines, and what stands of a report's lines on the way.
use Rattle.std.specs.Prelude.{◌≡◌, ℕ, List, [], take, decimal}
use Rattle.std.specs.List.{concat}
use Rattle.std.specs.Fmt.{signed_decimal}
use Rattle.pf_images.specs.Meaning.Counts.{raised, raised_by, Rose}
use Rattle.pf_images.specs.Meaning.Outside.{Changes, Appends, AppendsPart}
use Rattle.pf_outside.specs.declared.report.Piece.{Piece}
use Rattle.pf_outside.specs.declared.report.Piece.TheVariants.{Word, Number, Whole}
use Rattle.pf_outside.specs.Meaning.Reports.{Output}
use Rattle.pf_outside.specs.Meaning.StoreCalls.{RaisedUpTo}

-- a piece of a line
abbrev pub piece_text : Piece → List ℕ
piece_text (Word word) = word.now
piece_text (Number n) = decimal n
piece_text (Whole n) = signed_decimal n

-- so many first lines were put
pub record Put (lines : List (List ℕ)) (n : ℕ) (before after : Output) : Type 0 where
  pub written : Changes (Appends (concat (take n lines))) before.written after.written
  pub faults : after.faults ≡ before.faults
  pub calls : after.calls ≡ raised_by n before.calls

-- memory was wanting for a line, and with this status another was put in its place, if any
pub data PutsPoor (status : ℕ) (line : List ℕ) (before : Output) (answer : ℕ) (after : Output) : Type 0 where
  NonePut : answer ≡ status → Changes (Appends []) before.written after.written → after.faults ≡ before.faults → RaisedUpTo 1 before.calls after.calls → PutsPoor status line before answer after
  AllPut : answer ≡ status → Changes (Appends line) before.written after.written → after.faults ≡ before.faults → after.calls ≡ raised before.calls → PutsPoor status line before answer after
  PartPut : answer ≡ 4 → Changes (AppendsPart line) before.written after.written → Rose before.faults after.faults → after.calls ≡ raised before.calls → PutsPoor status line before answer after
