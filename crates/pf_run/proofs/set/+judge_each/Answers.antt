use Rattle.std.proofs.Common.{◌≤◌, length, arith}
use Rattle.pf_run.proofs.SetLaws.{each_read}
use Rattle.pf_run.proofs.set.+judge_each.Goals as goal

pub returns-in-None : goal.returns-in-None
returns-in-None t c =
    let some : 1 ≤ length c.args.images.now = grind arith in
    let others : 1 ≤ length c.args.set.now = grind arith in
    each_read c.args.width c.args.height c.args.number _ _ c.args.images.now c.args.set.now c.judge_each.result some others c.decl-item.is c.image-item.is c.in-None.ensures.judged c.judge_image.ensures.kept c.judge_each.ensures
