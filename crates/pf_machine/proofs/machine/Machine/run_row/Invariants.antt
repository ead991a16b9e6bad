use Rattle.std.proofs.Common.{◌≡◌, ◌-◌}
use Rattle.pf_machine.specs.Meaning.MachineSteps.{run}
use Rattle.pf_machine.proofs.machine.Machine.run_row.Given as goal

abbrev pub invariant-loop : goal.invariant-loop
invariant-loop g l =
    record {
      text : l.self.text ≡ l.fn.self.text;
      onwards : run g.I.Isa.table l.self.text.code l.self.text.labels (l.budget - l.counter) l.self.state ≡ run g.I.Isa.table l.fn.self.text.code l.fn.self.text.labels l.budget l.fn.self.state;
    }
