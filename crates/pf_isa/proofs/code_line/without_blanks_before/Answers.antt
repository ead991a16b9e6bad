use Rattle.std.proofs.Common.{◌∙◌, sym}
use Rattle.pf_isa.proofs.CodeLineLaws.{tight_more}
use Rattle.pf_isa.proofs.code_line.without_blanks_before.Goals as goal

pub loop-i-preserved : goal.loop-i-preserved
loop-i-preserved c = tight_more c.args.line.now c.loop-i.i c.loop-i-test.true (sym c.is_blank.ensures ∙ c.if-not-is_blank.false) ∙ c.loop-i.invariant
