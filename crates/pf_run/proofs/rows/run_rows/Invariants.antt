use Rattle.std.proofs.Common.{◌≡◌}
use Rattle.pf_run.proofs.RowLaws.{SoFar}
use Rattle.pf_run.proofs.rows.run_rows.Given as goal

abbrev pub invariant-rows : goal.invariant-rows
invariant-rows g l = record {
  text : l.machine.text ≡ l.fn.machine.text;
  so_far : SoFar g.I.Isa.table l.fn.machine.text l.planes l.y l.machine.state.regions;
}
