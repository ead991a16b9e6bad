use Rattle.pf_top.proofs.statuses.tell_failure.Goals as goal

pub returns-in-Target : goal.returns-in-Target
returns-in-Target g c = rw (c.in-Target.is, ← c.word.ensures) c.tell_line.ensures

pub returns-in-NoText : goal.returns-in-NoText
returns-in-NoText g c = rw (c.in-NoText.is, ← c.file_name.ensures) c.tell_line-in-NoText.ensures
