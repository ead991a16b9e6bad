use Rattle.std.proofs.Common.{◌≡◌, ◌++◌, All}
use Rattle.pf_rows.specs.Steps.RowCode.{block_lines, IsOne}
use Rattle.pf_rows.proofs.items.items.Given as goal

abbrev pub invariant-loop-step : goal.invariant-loop-step
invariant-loop-step g l = record {
  code : l.code ≡ l.fn.code ++ block_lines g.I.Isa.table l.fn.widths l.fn.width l.yielded;
  known : All (λ i. IsOne g.I.Isa.is_op i) l.yielded;
}
