use Rattle.pf_top.proofs.statuses.tell_run.Goals as goal

pub returns-in-Outside : goal.returns-in-Outside
returns-in-Outside g c = rw (c.in-Outside.is, ← c.from.ensures) c.tell_line-in-Outside.ensures
