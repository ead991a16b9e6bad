use Rattle.std.proofs.Common.{◌≡◌, drop}
use Rattle.pf_text.specs.Meaning.Lines.{tight}
use Rattle.pf_isa.proofs.code_line.without_blanks_before.Given as goal

abbrev pub invariant-loop-i : goal.invariant-loop-i
invariant-loop-i l = tight (drop l.i l.line) ≡ tight l.line
