use Rattle.pf_outside.specs.Meaning.Reports.{seen_output}
use Rattle.pf_outside.specs.Steps.LineSteps.{Put}
use Rattle.pf_outside.proofs.report.tell.Given as goal

abbrev pub invariant-lines : goal.invariant-lines
invariant-lines g l = Put l.lines l.line-index (seen_output g.S.Sink.written g.S.Sink.faults g.S.Sink.calls l.initial.out) (seen_output g.S.Sink.written g.S.Sink.faults g.S.Sink.calls l.out)
