use Rattle.std.proofs.Common.{◌≡◌, ℕ, ◌<◌, ◌++◌, All}
use Rattle.std.specs.Prelude.{pos, ◌≤ℤ◌}
use Rattle.pf_ints.specs.Meaning.Lanes.{IsIn}
use Rattle.pf_machine.specs.Meaning.RowEnds.{row_values}
use Rattle.pf_values.specs.Meaning.Kernels.{out_value}
use Rattle.pf_run.specs.Steps.Pixels.{out_number}
use Rattle.pf_run.proofs.eval.push_row.Given as goal

abbrev pub invariant-columns : goal.invariant-columns
invariant-columns l = record {
  values : l.pixels.items ≡ l.fn.pixels.items ++ row_values (out_number l.kernel.source l.planes) l.x l.y;
  positive : (x : ℕ) → x < l.x → pos 0 ≤ℤ out_value l.kernel.source l.planes x l.y;
  members : All (λ n. IsIn l.kernel.source.out_ty (pos n)) l.fn.pixels.items → All (λ n. IsIn l.kernel.source.out_ty (pos n)) l.pixels.items;
}
