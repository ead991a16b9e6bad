use Rattle.pf_top.proofs.statuses.tell_verdict.Goals as goal

pub returns-in-Err-Missing : goal.returns-in-Err-Missing
returns-in-Err-Missing g c = rw (c.in-Err-Missing.is, c.in-Err-Missing.field-0-is, ← c.file_name.ensures) c.tell_unread.ensures

pub returns-in-Err-Unreadable : goal.returns-in-Err-Unreadable
returns-in-Err-Unreadable g c = rw (c.in-Err-Unreadable.is, c.in-Err-Unreadable.field-0-is, ← c.file_name-in-Err-Unreadable.ensures) c.tell_unread-in-Err-Unreadable.ensures
