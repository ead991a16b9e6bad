use Rattle.std.proofs.Common.{◌≡◌, ◌++◌, take, drop}
use Rattle.pf_isa.specs.Meaning.Texts.{uncommented_code}
use Rattle.pf_isa.proofs.code_line.uncommented_code.Given as goal

abbrev pub invariant-loop-i : goal.invariant-loop-i
invariant-loop-i l = uncommented_code l.line ≡ take l.i l.line ++ uncommented_code (drop l.i l.line)
