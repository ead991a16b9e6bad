use Rattle.std.proofs.Common.{◌≡◌, ◌+◌, ◌≤◌, [], length, drop, false}
use Rattle.pf_frames.specs.Meaning.Frames.{marks}
use Rattle.pf_frames.specs.Meaning.FrameTests.{bare}
use Rattle.pf_frames.specs.Steps.Reading.{matched}
use Rattle.pf_frames.proofs.frame.matched.Given as goal

abbrev pub invariant-loop-byte : goal.invariant-loop-byte
invariant-loop-byte l = record {
  few : length l.numbers + length (marks (drop l.byte-index l.frame)) ≤ 8;
  on : matched (bare l.free (drop l.byte-index l.frame)) l.rest l.numbers ≡ matched (bare false l.frame) l.line [];
}
