use Rattle.std.proofs.Common.{take, All}
use Rattle.pf_run.specs.Meaning.Sets.{IsInRange}
use Rattle.pf_run.proofs.set.judge_pixels.Given as goal

abbrev pub invariant-loop-place : goal.invariant-loop-place
invariant-loop-place l = All (IsInRange l.decl) (take l.place l.image.pixels)
