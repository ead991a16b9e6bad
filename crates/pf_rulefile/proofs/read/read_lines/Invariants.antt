use Rattle.std.proofs.Common.{◌≡◌, ◌+◌, ◌≤◌, ◌<◌, length}
use Rattle.std.specs.Str.Lines.{lines}
use Rattle.pf_rulefile.specs.Steps.FileReads.{IsReading, lines_from}
use Rattle.pf_rulefile.specs.Meaning.Says.{nothing}
use Rattle.pf_rulefile.proofs.read.read_lines.Given as goal

abbrev pub invariant-lines : goal.invariant-lines
invariant-lines l =
    record {
      good : IsReading l.reading;
      some : 2 ≤ l.n;
      room : l.n + length l.rest < 2097155;
      onward : lines_from l.format l.kind 2 nothing (lines l.fn.text) ≡ lines_from l.format l.kind l.n l.reading (lines l.rest);
    }

abbrev pub decreases-lines : goal.decreases-lines
decreases-lines l = length l.rest
