use Rattle.std.proofs.Common.{◌≡◌, ◌++◌, drop, take}
use Rattle.pf_text.specs.Steps.Scan.{leading_digits, behind_digits}
use Rattle.pf_text.proofs.scan.parted.Given as goal

abbrev pub invariant-loop-i : goal.invariant-loop-i
invariant-loop-i l =
    record { digits : take l.i l.text ++ leading_digits (drop l.i l.text) ≡ leading_digits l.text; rest : behind_digits (drop l.i l.text) ≡ behind_digits l.text }
