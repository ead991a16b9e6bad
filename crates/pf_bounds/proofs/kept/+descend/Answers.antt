use Rattle.pf_bounds.proofs.kept.+descend.Goals as goal

pub returns-in_ok-below-in-len1-up-clause-kept : goal.returns-in_ok-below-in-len1-up-clause-kept
returns-in_ok-below-in-len1-up-clause-kept t c ranges h = c.descend.ensures.kept ranges (c.in_ok-below-in-len1-up.ensures.kept ranges h)
