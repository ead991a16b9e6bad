use Rattle.std.proofs.Common.{◌≡◌, refl, sym, ap, ◌∙◌, subst, ◌<◌, ◌≤◌, ◌+◌, ◌*◌, length, take, map, arith}
use Rattle.std.specs.Prelude.{sum}
use Rattle.pf_values.specs.Meaning.Terms.{weight_of, IsWellTyped}
use Rattle.pf_bounds.specs.Meaning.TermBounds.{are_ranges_of}
use Rattle.pf_bounds.proofs.TermLaws.{ready, each_typed, each_ranged}
use Rattle.pf_lift.specs.Steps.Counting.{Becomes, IsRewritten}
use Rattle.pf_lift.proofs.Going.{IsOver, going_more, over_all, over_typed, lifts_none, ok_over, ok_next, weight_operand}
use Rattle.pf_lift.proofs.lifting.Lifting.+lifting.Goals as goal

pub finish-returns-in-None-clause-lifts : goal.finish-returns-in-None-clause-lifts
finish-returns-in-None-clause-lifts g t c =
    let rules = c.args.self.now.rules.now in
    let ranges = c.args.self.now.ranges.now in
    let whole = c.args.whole.term in
    lifts_none rules ranges whole c.args.steps.now c.requires.typed c.requires.entries c.requires.normal (subst (Becomes rules ranges whole) c.in-None.is c.in_ok-rewritten.ensures)

pub finish-returns-in-Some-clause-lifts : goal.finish-returns-in-Some-clause-lifts
finish-returns-in-Some-clause-lifts g t c =
    let rules = c.args.self.now.rules.now in
    let ranges = c.args.self.now.ranges.now in
    let whole = c.args.whole.term in
    let next : IsRewritten rules ranges whole c.in-Some.next = subst (Becomes rules ranges whole) c.in-Some.is c.in_ok-rewritten.ensures in
    ok_next rules ranges _ c.normal.result whole c.in-Some.next c.args.steps.now _ c.normal.new.steps c.requires.normal next c.tick.ensures c.normal.ensures.lifts

pub normal-normal-requires : goal.normal-normal-requires
normal-normal-requires g t c κs within =
    let xs = c.as_slice-arg-items.result.now in
    let ranges = c.args.self.now.ranges.now in
    let i = c.loop-arg.arg-index in
    let x = c.arg-item.result in
    let h = ready ranges c.args.term.now c.in-Node.op c.in-Node.ty c.in-Node.k c.in-Node.args xs c.in-Node.is c.as_slice-arg-items.ensures c.requires.typed c.requires.entries in
    let less = weight_operand c.args.self.now.rules.now ranges c.args.term.now c.in-Node.op c.in-Node.ty c.in-Node.k c.in-Node.args xs i x c.in-Node.is c.as_slice-arg-items.ensures c.loop-arg-test.true c.arg-item.is in
    (omega (arith, c.decreases, less), (within, (c.requires.kind, (each_typed xs i x h.typed c.loop-arg-test.true c.arg-item.is, each_ranged ranges xs i x h.ranged c.loop-arg-test.true c.arg-item.is))))

pub normal-returns-in_err-operand-in-Node-clause-few : goal.normal-returns-in_err-operand-in-Node-clause-few
normal-returns-in_err-operand-in-Node-clause-few g t c =
    let xs = c.as_slice-arg-items.result.now in
    let going = c.loop-arg.invariant.going in
    let less = weight_operand c.args.self.now.rules.now c.args.self.now.ranges.now c.args.term.now c.in-Node.op c.in-Node.ty c.in-Node.k c.in-Node.args xs c.loop-arg.arg-index c.arg-item.result c.in-Node.is c.as_slice-arg-items.ensures c.loop-arg-test.true c.arg-item.is in
    omega (arith, less, going.counted, going.lighter, c.normal.ensures.few)

pub normal-returns-in_err-operands-in-Node-clause-few : goal.normal-returns-in_err-operands-in-Node-clause-few
normal-returns-in_err-operands-in-Node-clause-few g t c =
    let xs = c.as_slice-arg-items.result.now in
    let going = c.loop-arg.invariant.going in
    let less = weight_operand c.args.self.now.rules.now c.args.self.now.ranges.now c.args.term.now c.in-Node.op c.in-Node.ty c.in-Node.k c.in-Node.args xs c.loop-arg.arg-index c.arg-item.result c.in-Node.is c.as_slice-arg-items.ensures c.loop-arg-test.true c.arg-item.is in
    omega (arith, less, going.counted, going.lighter, c.normal.ensures.few)

pub normal-loop-arg-preserved : goal.normal-loop-arg-preserved
normal-loop-arg-preserved g t c =
    let rules = c.args.self.now.rules.now in
    let ranges = c.args.self.now.ranges.now in
    let xs = c.as_slice-arg-items.result.now in
    record {
      going =
          going_more rules ranges c.in-Node.op c.in-Node.ty c.in-Node.k xs c.loop-arg.operands.terms c.in_ok-operands-in-Node.operands.terms c.loop-arg.arg-index c.args.steps.now c.loop-arg.steps c.normal.new.steps c.arg-item.result c.in_ok-operand-in-Node.operand.term
          c.loop-arg.invariant.going c.loop-arg-test.true c.arg-item.is c.in_ok-operand-in-Node.ensures.lifts c.in_ok-operands-in-Node.ensures.terms;
      kept = c.in_ok-operands-in-Node.ensures.kept ranges c.loop-arg.invariant.kept c.in_ok-operand-in-Node.ensures.kept;
    }

pub normal-over-requires : goal.normal-over-requires
normal-over-requires g t c =
    record {
      typed =
          over_typed c.args.self.now.rules.now c.args.self.now.ranges.now c.args.term.now c.in-Node.op c.in-Node.ty c.in-Node.k c.in-Node.args c.as_slice-arg-items.result.now c.loop-arg.operands.terms c.loop-arg.arg-index c.args.steps.now c.loop-arg.steps
          c.in-Node.is c.as_slice-arg-items.ensures c.requires.typed c.loop-arg.invariant.going c.loop-arg-test.false;
    }

pub normal-finish-requires-in-Node : goal.normal-finish-requires-in-Node
normal-finish-requires-in-Node g t c κs within =
    let rules = c.args.self.now.rules.now in
    let ranges = c.args.self.now.ranges.now in
    let u = c.over.result.term in
    let o : IsOver rules ranges c.args.term.now u c.args.steps.now c.loop-arg.steps =
    over_all rules ranges c.args.term.now u c.in-Node.op c.in-Node.ty c.in-Node.k c.in-Node.args c.as_slice-arg-items.result.now c.loop-arg.operands.terms c.loop-arg.arg-index c.args.steps.now c.loop-arg.steps
    c.in-Node.is c.as_slice-arg-items.ensures c.requires.typed c.loop-arg.invariant.going c.loop-arg-test.false c.over.ensures.term in
    (omega (arith, c.decreases, o.lighter), (within, (c.requires.kind, (o.keeps.typed, (o.ranged, (c.over.ensures.kept ranges c.loop-arg.invariant.kept, o.normal))))))

pub normal-returns-after-loop-arg-clause-lifts : goal.normal-returns-after-loop-arg-clause-lifts
normal-returns-after-loop-arg-clause-lifts g t c =
    let rules = c.args.self.now.rules.now in
    let ranges = c.args.self.now.ranges.now in
    let u = c.over.result.term in
    let o : IsOver rules ranges c.args.term.now u c.args.steps.now c.loop-arg.steps =
    over_all rules ranges c.args.term.now u c.in-Node.op c.in-Node.ty c.in-Node.k c.in-Node.args c.as_slice-arg-items.result.now c.loop-arg.operands.terms c.loop-arg.arg-index c.args.steps.now c.loop-arg.steps
    c.in-Node.is c.as_slice-arg-items.ensures c.requires.typed c.loop-arg.invariant.going c.loop-arg-test.false c.over.ensures.term in
    ok_over rules ranges _ c.finish-in-Node.result c.args.term.now u c.args.steps.now c.loop-arg.steps c.finish-in-Node.new.steps o c.finish-in-Node.ensures.lifts

pub normal-returns-after-loop-arg-clause-few : goal.normal-returns-after-loop-arg-clause-few
normal-returns-after-loop-arg-clause-few g t c =
    let rules = c.args.self.now.rules.now in
    let ranges = c.args.self.now.ranges.now in
    let u = c.over.result.term in
    let o : IsOver rules ranges c.args.term.now u c.args.steps.now c.loop-arg.steps =
    over_all rules ranges c.args.term.now u c.in-Node.op c.in-Node.ty c.in-Node.k c.in-Node.args c.as_slice-arg-items.result.now c.loop-arg.operands.terms c.loop-arg.arg-index c.args.steps.now c.loop-arg.steps
    c.in-Node.is c.as_slice-arg-items.ensures c.requires.typed c.loop-arg.invariant.going c.loop-arg-test.false c.over.ensures.term in
    omega (arith, o.counted, o.lighter, c.finish-in-Node.ensures.few)
