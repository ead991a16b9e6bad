use Rattle.pf_top.proofs.statuses.tell_set.Goals as goal

pub returns-in-Count : goal.returns-in-Count
returns-in-Count g c = rw (c.in-Count.is, ← c.from.ensures, ← c.from-in-Count.ensures) c.tell_count.ensures

pub returns-in-NoOutput : goal.returns-in-NoOutput
returns-in-NoOutput g c = rw c.in-NoOutput.is c.tell_line-in-NoOutput.ensures
