use Rattle.std.proofs.Common.{◌≡◌, ℕ, ◌<◌, None}
use Rattle.pf_frames.specs.Steps.Reading.{read_at}
use Rattle.pf_frames.proofs.read.read.Given as goal

abbrev pub invariant-loop-place : goal.invariant-loop-place
invariant-loop-place g l = (k : ℕ) → k < l.place → read_at g.L.Lines.lines k l.line ≡ None
