-- The answers of the reader of lines.
use Rattle.std.specs.Prelude.{◌≡◌, ℕ, ◌+◌, ◌≤◌, List, ◌++◌, length, None, Result, Ok, Err}
use Rattle.std.specs.Str.Lines.{lines}
use Rattle.pf_terms.specs.declared.meaning.ReadFault.{ReadFault}
use Rattle.pf_kernel.specs.declared.fault.KernelFault.{KernelFault}
use Rattle.pf_kernel.specs.declared.fault.KernelFault.TheVariants.{Syntax}
use Rattle.pf_kernel.specs.declared.reading.Reading.{Reading}
use Rattle.pf_kernel.specs.Meaning.Kernels.{Meaning}
use Rattle.pf_kernel.specs.Meaning.Lines.{Begun, IsLineFault, nothing, AreRead}
use Rattle.pf_kernel.specs.Steps.Readings.{begun_of, IsReading}
use Rattle.pf_kernel.specs.Meaning.Texts.{at_line, all_of}

-- the fault of line n, behind those that were read
abbrev pub IsKernelFaultAt : Begun → List ℕ → ℕ → KernelFault → Type 0
IsKernelFaultAt b line n e = (f : ReadFault) × IsLineFault b line f × (e ≡ at_line n f)

-- what was read so far: these lines of the text, and the others are what is left
pub record IsSoFar (text rest : List ℕ) (count : ℕ) (r : Reading) : Type 0 where
  pub good : IsReading r
  pub before : List (List ℕ)
  pub parts : lines text ≡ before ++ lines rest
  pub count_is : count ≡ length before
  pub room : count + length rest ≤ length text
  pub read : AreRead nothing before (begun_of r)

-- all lines of the text were read
pub record IsWholeText (text : List ℕ) (r : Reading) (count : ℕ) : Type 0 where
  pub good : IsReading r
  pub count_is : count ≡ length (lines text)
  pub read : AreRead nothing (lines text) (begun_of r)

-- the kernel of all lines, or else the text ends too early
abbrev pub FinishesKernel : Begun → ℕ → Result Meaning KernelFault → Type 0
FinishesKernel b count (Ok k) = all_of k ≡ b
FinishesKernel b count (Err e) = (b.out ≡ None) × (e ≡ Syntax (count + 1) 1)
