use Rattle.std.proofs.Common.{◌≤◌, ◌+◌, ◌*◌, length}
use Rattle.pf_lanes.proofs.FillLaws.{four_set}
use Rattle.pf_lanes.proofs.lanes.put.Goals as goal

pub returns-in-ThirtyTwo : goal.returns-in-ThirtyTwo
returns-in-ThirtyTwo c =
    let inside : 4 * c.args.i + 4 ≤ length c.args.out.now = rw c.in-ThirtyTwo.is at c.requires in
    rw c.in-ThirtyTwo.is (four_set c.args.out.now (4 * c.args.i) _ _ _ _ inside)
