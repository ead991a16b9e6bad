-- The commands: their words, and what each of them does.
use Rattle.std.specs.Prelude.{ℕ, List, codes}
use Rattle.pf_images.specs.Meaning.Counts.{Rose}
use Rattle.pf_images.specs.Meaning.Outside.{Contents}
use Rattle.pf_outside.specs.Meaning.Reports.{Output, Reports}
use Rattle.pf_outside.specs.Meaning.StoreCalls.{Store}
use Rattle.pf_outside.specs.Meaning.Tasks.{Task, Verdict, EndsWith}
use Rattle.pf_top.specs.declared.fault.Failure.{Failure}
use Rattle.pf_top.specs.declared.fault.FileFault.{FileFault}
use Rattle.pf_top.specs.Meaning.Checking.{Check, IsCheck, checking}
use Rattle.pf_top.specs.Meaning.Migrating.{Migrate, IsMigrate, migrating}
use Rattle.pf_top.specs.Meaning.Running.{Run, IsRunCommand, kernels, programs, running}
use Rattle.pf_top.specs.Meaning.Selections.{Select, IsSelect, selecting}
use Rattle.pf_top.specs.Meaning.Statuses.{report_of}

pub data Command : Type 0 where
  Selecting : Select → Command
  Checking : Check → Command
  Migrating : Migrate → Command
  Running : Run → Command
  Evaluating : Run → Command

-- the words are those of the command
abbrev pub IsCommand : List (List ℕ) → Command → Type 0
IsCommand words (Selecting s) = IsSelect words s
IsCommand words (Checking c) = IsCheck words c
IsCommand words (Migrating m) = IsMigrate words m
IsCommand words (Running r) = IsRunCommand (codes "run") words r
IsCommand words (Evaluating e) = IsRunCommand (codes "eval") words e

-- what they ask for
abbrev pub task_of : Command → Task FileFault Failure
task_of (Selecting s) = selecting s
task_of (Checking c) = checking c
task_of (Migrating m) = migrating m
task_of (Running r) = running programs r
task_of (Evaluating e) = running kernels e

-- the call came to a verdict, which has its cause in the words and the files, and told it
abbrev pub Does : Command → Store → Store → Output → ℕ → Output → Type 0
Does c before after out answer told = (v : Verdict FileFault Failure) × EndsWith (task_of c) before v after × Reports (report_of (task_of c) v) out answer told

-- the files are such that it does its work
abbrev pub CanDo : Command → Contents → Type 0
CanDo c files = (task_of c).Works files

-- a count of faults didn't rise
abbrev pub IsCalm : ℕ → ℕ → Type 0
IsCalm before after = Rose before after → ⊥
