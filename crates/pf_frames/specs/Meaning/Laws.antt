-- What a target owes of its table of lines. One theorem over it gives what the laws of every set of instructions ask of texts.
use Rattle.std.specs.Prelude.{◌≡◌, ℕ, ◌<◌, Bool, true, false, not, ◌&&◌, ◌||◌, nat_le, length, Some, MatchOption}
use Rattle.pf_machine.specs.declared.control.Control.{Control}
use Rattle.pf_machine.specs.declared.control.Control.TheVariants.{Below, Jump}
use Rattle.pf_machine.specs.Meaning.Control.{IsControl}
use Rattle.pf_machine.specs.Meaning.Tables.{Table, IsOver}
use Rattle.pf_frames.specs.declared.line.TableLine.{TableLine}
use Rattle.pf_frames.specs.declared.line.TableLine.TheVariants.{Vector, Control as Controls}
use Rattle.pf_frames.specs.declared.line.Spelling.{Spelling}
use Rattle.pf_frames.specs.Meaning.Frames.{marks, are_operands}
use Rattle.pf_frames.specs.Meaning.LineTables.{LineTable, Jumps, frame, text_of, others, control_text_of}
use Rattle.pf_frames.specs.Meaning.FrameTests.{bare, frames_below, are_all_apart, all_below, is_line_frame, is_solid, begins_apart, is_forked, is_around}

-- the frame at a place, where there is one, is such as a line may have
abbrev pub is_good_at : {X : Type 0} → LineTable X → ℕ → Bool
is_good_at l place = not (l.is place) || is_line_frame (l.word place) (l.pattern place)

-- what is at a place has a word in front, and at most 40 bytes, four of them marks
abbrev pub is_short_at : {X : Type 0} → LineTable X → ℕ → Bool
is_short_at l place = is_solid (l.word place) && nat_le (length (frame l place)) 40 && nat_le (length (marks (frame l place))) 4

-- the spelling has operands for the marks of a frame of the table, and is read as the line
pub record IsSpellingOf {X : Type 0} (l : LineTable X) (x : X) (s : Spelling) : Type 0 where
  pub inside : s.place < l.places
  pub here : l.is s.place ≡ true
  pub fits : are_operands (marks (frame l s.place)) s.numbers ≡ true
  pub back : l.made s.place s.numbers ≡ Some x

-- the laws, over the lines that are instructions
pub record IsLineTable {X : Type 0} (l : LineTable X) (is_line : X → Type 0) : Type 0 where
  pub printed : (x : X) → is_line x → IsSpellingOf l x (l.printed x)
  pub also : (x : X) → is_line x → MatchOption (l.also x) (Unit {0}) (λ s. IsSpellingOf l x s)
  -- all that follows is computed, over the whole table
  pub apart : are_all_apart (frames_below l.is (λ place. bare false (frame l place)) l.places) ≡ true
  pub good : all_below (is_good_at l) l.places ≡ true
  pub short : all_below (is_short_at l) l.places ≡ true

-- the lines of a set of instructions that its frames print: vector instructions over the machine's vectors, and the control instructions but the jumps
abbrev pub IsTableLine : {O : Type 0} → Table O → (O → Type 0) → TableLine O → Type 0
IsTableLine t is_op (Vector op) = is_op op × IsOver t op
IsTableLine t is_op (Controls (Below label)) = ⊥
IsTableLine t is_op (Controls (Jump label)) = ⊥
IsTableLine t is_op (Controls c) = IsControl c

-- the frame at a place, where there is one, begins as no jump does
abbrev pub is_no_jump_at : {X : Type 0} → LineTable X → Jumps → ℕ → Bool
is_no_jump_at l j place = not (l.is place) || (begins_apart (bare false (frame l place)) j.below.front && begins_apart (bare false (frame l place)) j.onward.front)

-- the texts of a set of instructions are those of a table of lines, with these jumps
pub record IsPrintedBy {O : Type 0} (l : LineTable (TableLine O)) (j : Jumps) (t : Table O) : Type 0 where
  pub text : (op : O) → t.text op ≡ text_of l (Vector op)
  pub also : (op : O) → t.also op ≡ others l (l.also (Vector op))
  pub control : (c : Control) → t.control_text c ≡ control_text_of l j c
  -- computed
  pub below : is_around j.below.front j.below.back ≡ true
  pub onward : is_around j.onward.front j.onward.back ≡ true
  pub forked : is_forked j.below.front j.onward.front ≡ true
  pub no_jump : all_below (is_no_jump_at l j) l.places ≡ true
