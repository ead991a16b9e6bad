use Rattle.pf_leaves.proofs.LeafLaws.{ranges_more}
use Rattle.pf_leaves.proofs.leaves.tap_ranges.Goals as goal

pub loop-tap-preserved : goal.loop-tap-preserved
loop-tap-preserved c =
    ranges_more c.args.images.now c.args.taps.now c.loop-tap.tap-index _ c.from.result c.index-images-from.result c.loop-tap.ranges c.push.new.self c.declared-range.result c.loop-tap.invariant c.loop-tap-test.true c.requires.taps
    c.from.ensures c.index-images-from.is c.in_ok-push.ensures.ok c.declared-range.ensures
