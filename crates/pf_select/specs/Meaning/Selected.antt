-- The texts that are selected for a kernel.
use Rattle.std.specs.Prelude.{◌≡◌, ℕ, List, [], ◌∷◌, ◌++◌, length, codes}
use Rattle.pf_ints.specs.declared.target.Target.TheVariants.{Neon as OnNeon}
use Rattle.pf_values.specs.declared.kernel.Definition.{Definition}
use Rattle.pf_values.specs.Meaning.Kernels.{Source}
use Rattle.pf_machine.specs.declared.program.Head.{Head}
use Rattle.pf_machine.specs.Meaning.Moved.{Moved, Work}
use Rattle.pf_isa.specs.Meaning.Texts.{printed, head_lines, code_lines}
use Rattle.pf_neon.specs.Meaning.Neon.{Neon, table, IsNeonInstruction}
use Rattle.pf_rows.specs.Meaning.Scratch.{scratch_bytes}
use Rattle.pf_isa.specs.Meaning.Headline.{Headline}

abbrev pub output_of : Source → Definition
output_of s = record { name = codes "out"; ty = s.out_ty; term = s.out }

-- the head of its text: one instruction is counted, and the scratch is that of rows of vectors of 16 bytes, with no slots
abbrev pub head_of : Source → Head
head_of s = record {
  images = s.images;
  taps = s.taps;
  out_ty = s.out_ty;
  scratch = scratch_bytes 16 (length s.taps) 0;
  lifted = output_of s ∷ [];
  cost = 1;
}

-- The text may be written for what a kernel says: it keeps the headline's promise, it is printed line by line with no blank or
-- comment more, its program has just this head, its control instructions compute with no pixel, and its vector instructions cost
-- what the head says.
pub record IsSelected (s : Source) (text : List ℕ) : Type 0 where
  pub headline : Headline Neon table IsNeonInstruction s text
  pub spelled : text ≡ printed (head_lines OnNeon headline.program.head ++ code_lines table 0 headline.program.code headline.program.labels)
  pub head : headline.program.head ≡ head_of s
  pub moved : Moved table (length headline.program.head.taps) headline.program.code headline.program.labels
  pub work : Work table headline.program.code ≡ headline.program.head.cost
