use Rattle.pf_top.proofs.statuses.tell_file.Goals as goal

pub returns-in-NotBuilt : goal.returns-in-NotBuilt
returns-in-NotBuilt g c = rw c.in-NotBuilt.is c.tell_line-in-NotBuilt.ensures

pub returns-in-LongImage : goal.returns-in-LongImage
returns-in-LongImage g c = rw c.in-LongImage.is c.tell_line-in-LongImage.ensures
