use Rattle.std.proofs.Common.{◌≡◌, ◌++◌, drop}
use Rattle.pf_text.specs.Meaning.Lines.{tight}
use Rattle.pf_text.specs.Steps.Scan.{tight_behind}
use Rattle.pf_text.proofs.tight.tighten.Given as goal

abbrev pub invariant-loop-byte : goal.invariant-loop-byte
invariant-loop-byte l = l.tight ++ tight_behind l.gap (drop l.byte-index l.line) ≡ tight l.line
