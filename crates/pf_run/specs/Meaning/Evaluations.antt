-- What an evaluation of a kernel on images answers.
use Rattle.std.specs.Prelude.{List, Result, Ok, Err}
use Rattle.pf_ints.specs.Meaning.Images.{Picture, IsPicture}
use Rattle.pf_values.specs.Meaning.Kernels.{Source, Keeps, Out}
use Rattle.pf_run.specs.declared.fault.EvalFault.{EvalFault}
use Rattle.pf_run.specs.declared.fault.EvalFault.TheVariants.{Set, Memory}
use Rattle.pf_run.specs.Meaning.Sets.{IsSetFault}

-- the kernel's output, which is within the limits of images, or what is wrong with the images
abbrev pub Evaluated : Source → List Picture → Result Picture EvalFault → Type 0
Evaluated s pictures (Ok o) = Keeps s pictures × Out s pictures o × IsPicture o
Evaluated s pictures (Err (Set fault)) = (Keeps s pictures → ⊥) × IsSetFault s.images s.taps pictures fault
Evaluated s pictures (Err Memory) = Unit {0}
