use Rattle.std.proofs.Common.{◌≡◌, ◌+◌, ◌*◌, ◌≤◌, ◌++◌, length, drop}
use Rattle.pf_frames.specs.Meaning.Frames.{filled}
use Rattle.pf_frames.proofs.frame.filled.Given as goal

abbrev pub invariant-loop-byte : goal.invariant-loop-byte
invariant-loop-byte l = record {
  room : length l.line + length (drop l.byte-index l.frame) + 10 * length l.rest ≤ 80;
  on : l.line ++ filled (drop l.byte-index l.frame) l.rest ≡ l.fn.line ++ filled l.frame l.numbers;
}
