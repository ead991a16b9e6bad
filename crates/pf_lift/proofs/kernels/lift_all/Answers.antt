use Rattle.std.proofs.Common.{refl, arith}
use Rattle.pf_lift.proofs.KernelTerms.{so_far_more, weight_def}
use Rattle.pf_lift.proofs.kernels.lift_all.Goals as goal

pub returns-in_err-term-clause-few : goal.returns-in_err-term-clause-few
returns-in_err-term-clause-few g c =
    let so_far = c.loop-def.invariant in
    let more = weight_def c.args.rules.now.rules c.args.ranges.now c.args.written.now c.loop-def.def-index c.def-item.result c.loop-def-test.true c.def-item.is in
    omega (arith, so_far.counted, so_far.few, more, c.lift_term.ensures.few)

pub returns-in_err-push-clause-few : goal.returns-in_err-push-clause-few
returns-in_err-push-clause-few g c =
    let so_far = c.loop-def.invariant in
    let more = weight_def c.args.rules.now.rules c.args.ranges.now c.args.written.now c.loop-def.def-index c.def-item.result c.loop-def-test.true c.def-item.is in
    omega (arith, so_far.counted, so_far.few, more, c.lift_term.ensures.few)

pub loop-def-preserved : goal.loop-def-preserved
loop-def-preserved g c =
    so_far_more c.args.rules.now.rules c.args.ranges.now c.args.written.now c.loop-def.lifted c.push.new.self c.loop-def.def-index c.args.steps.now c.loop-def.steps c.lift_term.new.steps c.def-item.result _ c.loop-def.invariant c.loop-def-test.true c.def-item.is
    c.in_ok-term.term refl c.in_ok-term.ensures.lifts c.in_ok-term.ensures.keeps c.in_ok-push.ensures.ok
