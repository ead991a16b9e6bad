use Rattle.std.proofs.Common.{sym}
use Rattle.pf_bounds.specs.Meaning.TermBounds.{operands}
use Rattle.pf_match.specs.Steps.Trials.{standing}
use Rattle.pf_match.proofs.TrialLaws.{first_more, first_is, first_over}
use Rattle.pf_match.proofs.trials.+standing.Goals as goal

pub loop-i-preserved : goal.loop-i-preserved
loop-i-preserved t c =
    first_more (standing c.args.n) c.as_slice-arg-items.result.now (operands c.args.term.now) (standing c.args.n c.args.pattern.now c.args.term.now) c.loop-i.i c.arg-item.result c.in-Some.part.term.now
    c.loop-i.invariant c.loop-i-test.true c.arg-item.is c.in-Some.ensures.part (sym c.in_default-standing.ensures.term)

pub returns-in_default-operand-clause-term : goal.returns-in_default-operand-clause-term
returns-in_default-operand-clause-term t c =
    first_over (standing c.args.n) c.as_slice-arg-items.result.now (operands c.args.term.now) (standing c.args.n c.args.pattern.now c.args.term.now) c.loop-i.i c.loop-i.invariant c.in_default-operand.ensures.part

pub returns-in-Some-standing-clause-term : goal.returns-in-Some-standing-clause-term
returns-in-Some-standing-clause-term t c =
    first_is (standing c.args.n) c.as_slice-arg-items.result.now (operands c.args.term.now) (standing c.args.n c.args.pattern.now c.args.term.now) c.loop-i.i c.arg-item.result c.in-Some.part.term.now c.in-Some-standing.found.term.now
    c.loop-i.invariant c.loop-i-test.true c.arg-item.is c.in-Some.ensures.part (sym c.in-Some-standing.ensures.term)

pub returns-in-Some-standing-clause-kept : goal.returns-in-Some-standing-clause-kept
returns-in-Some-standing-clause-kept t c ranges kept = c.in-Some-standing.ensures.kept ranges (c.in-Some.ensures.kept ranges kept)
