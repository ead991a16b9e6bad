use Rattle.pf_top.proofs.dispatch.verdict_of.Goals as goal

pub returns-in-Select : goal.returns-in-Select
returns-in-Select g c = rw c.in-Select.is c.select.ensures
