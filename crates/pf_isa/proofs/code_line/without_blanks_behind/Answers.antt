use Rattle.std.proofs.Common.{◌∙◌, sym, arith}
use Rattle.pf_isa.proofs.CodeLineLaws.{tight_less, ends_at}
use Rattle.pf_isa.proofs.code_line.without_blanks_behind.Goals as goal

pub returns-then-not-is_blank-clause-back : goal.returns-then-not-is_blank-clause-back
returns-then-not-is_blank-clause-back c = ends_at c.args.line.now c.loop-end.end c.loop-end-test.true c.loop-end.invariant.within (sym c.is_blank.ensures ∙ c.if-not-is_blank.true)

pub loop-end-preserved : goal.loop-end-preserved
loop-end-preserved c = record {
  within = omega arith;
  same = tight_less c.args.line.now c.loop-end.end c.loop-end-test.true c.loop-end.invariant.within (sym c.is_blank.ensures ∙ c.if-not-is_blank.false) ∙ c.loop-end.invariant.same;
}
