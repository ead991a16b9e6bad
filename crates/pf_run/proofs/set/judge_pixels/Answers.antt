use Rattle.pf_run.proofs.SetLaws.{in_range_more, in_range_all}
use Rattle.pf_run.proofs.set.judge_pixels.Goals as goal

pub loop-place-preserved : goal.loop-place-preserved
loop-place-preserved c =
    in_range_more c.args.decl.now _ _ _ _ c.pixels-pixel-items.ensures.value c.loop-place-test.true c.from-value.ensures c.if-value-decl.false c.if-decl-value.false c.loop-place.invariant

pub returns : goal.returns
returns c = in_range_all c.args.decl.now _ _ c.loop-place.place c.pixels-pixel-items.ensures.value c.loop-place-test.false c.loop-place.invariant
