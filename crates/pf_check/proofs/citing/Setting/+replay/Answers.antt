use Rattle.pf_check.proofs.StepLaws.{emptied}
use Rattle.pf_check.proofs.citing.Setting.+replay.Goals as goal

pub returns-in-empty : goal.returns-in-empty
returns-in-empty t c = rw (emptied c.args.steps.now c.in-empty.len_below) (c.compare.ensures c.args.n)
