-- How a line is read by a table: place by place, the operands at the marks of a frame.
use Rattle.std.specs.Prelude.{◌≡◌, ◌⊎◌, ℕ, zero, suc, ◌^◌, ◌<◌, List, [], ◌∷◌, ◌++◌, Bool, true, false, nat_lt, if◌then◌else◌, Option, Some, None}
use Rattle.std.specs.Option.{option_map}
use Rattle.std.specs.Str.{bytes_eq}
use Rattle.pf_machine.specs.declared.control.Control.{Control}
use Rattle.pf_machine.specs.declared.control.Control.TheVariants.{Below, Jump}
use Rattle.pf_machine.specs.Meaning.Control.{IsControl}
use Rattle.pf_text.specs.Meaning.Words.{is_name_byte, is_name}
use Rattle.pf_text.specs.Meaning.Lines.{tight}
use Rattle.pf_text.specs.Steps.Scan.{behind, number_at, then_with, then_behind}
use Rattle.pf_frames.specs.declared.line.Spelling.{Spelling}
use Rattle.pf_frames.specs.Meaning.Frames.{is_mark, register_words}
use Rattle.pf_frames.specs.Meaning.LineTables.{LineTable, Jumps, Around, around, jump_text, spelled, control_text_of}
use Rattle.pf_frames.specs.declared.line.TableLine.{TableLine}
use Rattle.pf_frames.specs.declared.line.TableLine.TheVariants.{Vector, Control as Controls}
use Rattle.pf_frames.specs.Meaning.FrameTests.{bare}

-- the letters, digits and _ that a text begins with, and what follows them
abbrev pub leading_word : List ℕ → List ℕ
leading_word [] = []
leading_word (c ∷ t) = if is_name_byte c then c ∷ leading_word t else []

abbrev pub behind_word : List ℕ → List ℕ
behind_word [] = []
behind_word (c ∷ t) = if is_name_byte c then behind_word t else c ∷ t

-- the place of a word among others
abbrev pub word_place : List (List ℕ) → List ℕ → Option ℕ
word_place [] t = None
word_place (w ∷ ws) t = let more = option_map suc (word_place ws t) in if bytes_eq w t then Some 0 else more

-- the operand at a mark, and what follows it
abbrev pub read_operand : ℕ → List ℕ → Option (ℕ × List ℕ)
read_operand zero t = then_with (number_at t) (λ n rest. if nat_lt n (2 ^ 32) then Some (n, rest) else None)
read_operand (suc mark) t = option_map (λ n. (n, behind_word t)) (word_place (register_words (suc mark)) (leading_word t))

-- the operands at the marks, behind those read before, where the line is the bare frame with such
abbrev pub matched : List ℕ → List ℕ → List ℕ → Option (List ℕ)
matched [] [] ns = Some ns
matched [] (d ∷ line) ns = None
matched (c ∷ w) line ns =
    let at_mark = then_with (read_operand c line) (λ n rest. matched w rest (ns ++ n ∷ [])) in
    let at_byte = then_behind (behind (c ∷ []) line) (λ rest. matched w rest ns) in
    if is_mark c then at_mark else at_byte

-- the line that a tight line is by the frame at a place
abbrev pub then_made : {X : Type 0} → LineTable X → ℕ → Option (List ℕ) → Option X
then_made l place None = None
then_made l place (Some ns) = l.made place ns

abbrev pub read_frame : {X : Type 0} → LineTable X → ℕ → List ℕ → Option X
read_frame l place line = then_behind (behind (l.word place) line) (λ rest. then_made l place (matched (bare false (l.pattern place)) rest []))

abbrev pub read_at : {X : Type 0} → LineTable X → ℕ → List ℕ → Option X
read_at l place line = if l.is place then read_frame l place line else None

-- what a reader of tight lines answers: the line by some place, or that there is none by any
abbrev pub Reads : {X : Type 0} → LineTable X → List ℕ → Option X → Type 0
Reads l line None = (place : ℕ) → place < l.places → read_at l place line ≡ None
Reads l line (Some x) = (place : ℕ) × (place < l.places) × (read_at l place line ≡ Some x)

-- the line is spelled so
abbrev pub IsSpelledAs : {X : Type 0} → LineTable X → X → Spelling → Type 0
IsSpelledAs l x s = (s ≡ l.printed x) ⊎ (l.also x ≡ Some s)

-- the tight line is a spelling of the line, up to blanks
abbrev pub IsTightLine : {X : Type 0} → LineTable X → X → List ℕ → Type 0
IsTightLine l x line = (s : Spelling) × IsSpelledAs l x s × (line ≡ tight (spelled l s))

-- the line that a tight line can be alone; a jump's line is none
pub record Guesses {X : Type 0} (l : LineTable X) (j : Jumps) (is_line : X → Type 0) (line : List ℕ) (r : Option X) : Type 0 where
  pub of_line : (x : X) → is_line x → IsTightLine l x line → r ≡ Some x
  pub of_jump : (below : Bool) (t : List ℕ) → line ≡ (around j below).front ++ t → r ≡ None

abbrev pub control_in : {O : Type 0} → Option (TableLine O) → Option Control
control_in None = None
control_in (Some (Vector op)) = None
control_in (Some (Controls c)) = Some c

-- the label of a jump that a tight line can be alone, where it begins as one
pub record GuessesLabel (a : Around) (line : List ℕ) (r : Option (List ℕ)) : Type 0 where
  pub of_label : (label : List ℕ) → is_name label ≡ true → line ≡ jump_text a label → r ≡ Some label
  pub unless_front : ((t : List ℕ) → line ≡ a.front ++ t → ⊥) → r ≡ None

abbrev pub jump_of : Bool → List ℕ → Control
jump_of true label = Below label
jump_of false label = Jump label

-- the jump that a tight line can be alone
abbrev pub GuessesJump : Jumps → List ℕ → Option Control → Type 0
GuessesJump j line r = (below : Bool) (label : List ℕ) → is_name label ≡ true → line ≡ jump_text (around j below) label → r ≡ Some (jump_of below label)

-- the control instruction that a tight line can be alone
abbrev pub GuessesControl : {O : Type 0} → LineTable (TableLine O) → Jumps → List ℕ → Option Control → Type 0
GuessesControl l j line r = (c : Control) → IsControl c → line ≡ tight (control_text_of l j c) → r ≡ Some c
