-- What a run of a program on images answers.
use Rattle.std.specs.Prelude.{◌≡◌, ℕ, List, length, Result, Ok, Err}
use Rattle.pf_ints.specs.Meaning.Images.{Picture, IsPicture}
use Rattle.pf_values.specs.Meaning.Kernels.{KeepsSet}
use Rattle.pf_machine.specs.Meaning.Tables.{Table}
use Rattle.pf_machine.specs.Meaning.Programs.{ProgramOf}
use Rattle.pf_machine.specs.Meaning.MachineSteps.{State, End, Stopped, OutOfSteps}
use Rattle.pf_machine.specs.Meaning.Runs.{RunEnd, Failed, Runs, Leaves, IsPlaced, columns, rows, row_budget}
use Rattle.pf_run.specs.declared.fault.RunFault.{RunFault}
use Rattle.pf_run.specs.declared.fault.RunFault.TheVariants.{Text as TextAt, Set, Outside, Spent as Overspent, Memory}
use Rattle.pf_run.specs.Meaning.Placement.{run_places, blank_scratch, blank_output}
use Rattle.pf_run.specs.Meaning.Sets.{IsSetFault}

-- how the rows of the program end on the images, placed one behind the other
abbrev pub run_end : {I O : Type 0} → Table O → ProgramOf I O → List Picture → RunEnd
run_end t p pictures = Runs t p pictures (run_places p.head pictures) (blank_scratch p.head) (blank_output p.head pictures)

-- the images are such as the program asks for, and lie at places that a program may be run under
pub record MayRun {I O : Type 0} (p : ProgramOf I O) (pictures : List Picture) : Type 0 where
  pub keeps : KeepsSet p.head.images p.head.taps pictures
  pub placed : IsPlaced p.head pictures (run_places p.head pictures) (blank_scratch p.head) (blank_output p.head pictures)

-- all rows return, and this image, which is within the limits, is in the output
pub record IsOutput {I O : Type 0} (t : Table O) (p : ProgramOf I O) (pictures : List Picture) (o : Picture) : Type 0 where
  pub picture : IsPicture o
  pub ty : o.ty ≡ p.head.out_ty
  pub width : o.width ≡ columns p.head pictures
  pub height : o.height ≡ rows p.head pictures
  pub leaves : Leaves t p pictures (run_places p.head pictures) (blank_scratch p.head) (blank_output p.head pictures) o

-- the first row that doesn't return ends so
abbrev pub Fails : {I O : Type 0} → Table O → ProgramOf I O → List Picture → (State → End) → Type 0
Fails t p pictures end = (row : ℕ) × (s : State) × (run_end t p pictures ≡ Failed row (end s))

-- the image, or why there is none: the images, or the first row that doesn't return
abbrev pub Ran : {I O : Type 0} → Table O → ProgramOf I O → List Picture → Result Picture RunFault → Type 0
Ran t p pictures (Ok o) = MayRun p pictures × IsOutput t p pictures o
Ran t p pictures (Err (TextAt line kind)) = ⊥
Ran t p pictures (Err (Set fault)) = (KeepsSet p.head.images p.head.taps pictures → ⊥) × IsSetFault p.head.images p.head.taps pictures fault
Ran t p pictures (Err (Outside at address count)) = MayRun p pictures × Fails t p pictures (Stopped at address count)
Ran t p pictures (Err (Overspent steps)) = MayRun p pictures × Fails t p pictures OutOfSteps × (steps ≡ row_budget (length p.code) (length p.head.taps) (columns p.head pictures))
Ran t p pictures (Err Memory) = Unit {0}
