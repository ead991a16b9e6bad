-- A table of lines: the frames of instructions, and which instruction is printed by which frame and operands.
use Rattle.std.specs.Prelude.{ℕ, List, [], ◌∷◌, ◌++◌, Bool, true, false, Option, Some, None}
use Rattle.pf_machine.specs.declared.control.Control.{Control}
use Rattle.pf_machine.specs.declared.control.Control.TheVariants.{Below, Jump}
use Rattle.pf_frames.specs.declared.line.TableLine.{TableLine}
use Rattle.pf_frames.specs.declared.line.TableLine.TheVariants.{Control as Controls}
use Rattle.pf_frames.specs.declared.line.Spelling.{Spelling}
use Rattle.pf_frames.specs.Meaning.Frames.{filled}

pub record LineTable (X : Type 0) : Type 0 where
  -- the places of its frames, those at which there is one, and there the frame: a word at its front and what follows
  pub places : ℕ
  pub is : ℕ → Bool
  pub word : ℕ → List ℕ
  pub pattern : ℕ → List ℕ
  -- how a line is printed, and how else it is read
  pub printed : X → Spelling
  pub also : X → Option Spelling
  -- the line that a frame with these operands is
  pub made : ℕ → List ℕ → Option X

abbrev pub frame : {X : Type 0} → LineTable X → ℕ → List ℕ
frame l place = l.word place ++ l.pattern place

-- a frame of the table with operands
abbrev pub spelled : {X : Type 0} → LineTable X → Spelling → List ℕ
spelled l s = filled (frame l s.place) s.numbers

abbrev pub text_of : {X : Type 0} → LineTable X → X → List ℕ
text_of l x = spelled l (l.printed x)

abbrev pub others : {X : Type 0} → LineTable X → Option Spelling → List (List ℕ)
others l None = []
others l (Some s) = spelled l s ∷ []

-- how the jumps are printed: what stands before the label and what behind it
pub record Around : Type 0 where
  pub front : List ℕ
  pub back : List ℕ

pub record Jumps : Type 0 where
  pub below : Around
  pub onward : Around

abbrev pub around : Jumps → Bool → Around
around jumps true = jumps.below
around jumps false = jumps.onward

abbrev pub jump_text : Around → List ℕ → List ℕ
jump_text a label = a.front ++ (label ++ a.back)

abbrev pub control_text_of : {O : Type 0} → LineTable (TableLine O) → Jumps → Control → List ℕ
control_text_of l jumps (Below label) = jump_text jumps.below label
control_text_of l jumps (Jump label) = jump_text jumps.onward label
control_text_of l jumps c = text_of l (Controls c)
