use Rattle.std.proofs.Common.{take}
use Rattle.pf_machine.proofs.PlaceLaws.{take_item}
use Rattle.pf_machine.proofs.machine.places_of.Goals as goal

pub loop-label-preserved : goal.loop-label-preserved
loop-label-preserved c =
    let ls = c.args.labels.now in
    let n = c.loop-label.label-index in
    rw (take_item ls n c.label-item.result c.loop-label-test.true c.label-item.is) (c.in_ok-add_place.ensures (take n ls) c.loop-label.invariant)
