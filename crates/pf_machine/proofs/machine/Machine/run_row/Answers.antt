use Rattle.std.proofs.Common.{◌≡◌, ◌-◌, ◌+◌, suc, arith, sym, ◌∙◌, ap}
use Rattle.pf_machine.specs.Meaning.MachineSteps.{run}
use Rattle.pf_machine.proofs.RunLaws.{run_on, run_returns, run_traps, run_spent}
use Rattle.pf_machine.proofs.machine.Machine.run_row.Goals as goal

pub returns-in-Ok-false-clause-value : goal.returns-in-Ok-false-clause-value
returns-in-Ok-false-clause-value g c =
    let less : c.args.budget - c.loop.counter ≡ suc (c.args.budget - (c.loop.counter + 1)) = omega arith in
    let h = rw (c.in-Ok-false.is, c.in-Ok-false.field-0-test) at c.step.ensures.value in
    rw (← c.loop.invariant.onwards) (run_returns g.I.Isa.table c.loop.self.text.code c.loop.self.text.labels _ _ c.loop.self.state c.step.new.self.state c.args.budget less h)

pub returns-in-Err-clause-value : goal.returns-in-Err-clause-value
returns-in-Err-clause-value g c =
    let less : c.args.budget - c.loop.counter ≡ suc (c.args.budget - (c.loop.counter + 1)) = omega arith in
    let h = rw c.in-Err.is at c.step.ensures.value in
    rw (← c.loop.invariant.onwards) (run_traps g.I.Isa.table c.loop.self.text.code c.loop.self.text.labels _ _ c.in-Err.trap c.loop.self.state c.step.new.self.state c.args.budget less h)

pub loop-preserved : goal.loop-preserved
loop-preserved g c =
    let less : c.args.budget - c.loop.counter ≡ suc (c.args.budget - (c.loop.counter + 1)) = omega arith in
    let h = rw (c.in-Ok-true.is, c.in-Ok-true.field-0-test) at c.step.ensures.value in
    record {
      text = c.step.ensures.text ∙ c.loop.invariant.text;
      onwards =
          ap (λ p. run g.I.Isa.table p.code p.labels (c.args.budget - (c.loop.counter + 1)) c.step.new.self.state) c.step.ensures.text
          ∙ sym (run_on g.I.Isa.table c.loop.self.text.code c.loop.self.text.labels _ _ c.loop.self.state c.step.new.self.state less h) ∙ c.loop.invariant.onwards;
    }

pub returns-clause-value : goal.returns-clause-value
returns-clause-value g c =
    let none : c.args.budget - c.loop.counter ≡ 0 = omega arith in
    rw (← c.loop.invariant.onwards) (run_spent g.I.Isa.table c.loop.self.text.code c.loop.self.text.labels _ c.loop.self.state c.args.budget none)
