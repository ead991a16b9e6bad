use Rattle.std.proofs.Common.{◌≡◌, drop}
use Rattle.pf_text.specs.Steps.Scan.{from_digit}
use Rattle.pf_text.proofs.scan.from_digit.Given as goal

abbrev pub invariant-loop-i : goal.invariant-loop-i
invariant-loop-i l = from_digit (drop l.i l.text) ≡ from_digit l.text
