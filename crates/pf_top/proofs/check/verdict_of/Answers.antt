use Rattle.pf_top.proofs.check.verdict_of.Goals as goal

pub returns : goal.returns
returns c = c.told.ensures c.args.rules.now c.in_ok-verdicts.ensures
