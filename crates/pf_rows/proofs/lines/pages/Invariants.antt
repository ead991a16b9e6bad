use Rattle.std.proofs.Common.{◌≡◌, ◌++◌, false}
use Rattle.std.specs.Prelude.{replicate}
use Rattle.pf_machine.specs.declared.control.Control.TheVariants.{AddImm}
use Rattle.pf_machine.specs.declared.code.Line.TheVariants.{Control as Controls}
use Rattle.pf_rows.proofs.lines.pages.Given as goal

abbrev pub invariant-loop-step : goal.invariant-loop-step
invariant-loop-step g l = l.code ≡ l.fn.code ++ replicate l._step (Controls (AddImm l.fn.register l.fn.register false 16773120))
