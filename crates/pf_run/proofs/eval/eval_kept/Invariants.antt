use Rattle.std.proofs.Common.{◌≡◌, ℕ, ◌<◌, All}
use Rattle.std.specs.Prelude.{pos, ◌≤ℤ◌}
use Rattle.pf_ints.specs.Meaning.Lanes.{IsIn}
use Rattle.pf_machine.specs.Meaning.RowEnds.{image_values}
use Rattle.pf_values.specs.Meaning.Kernels.{out_value}
use Rattle.pf_run.specs.Steps.Pixels.{out_number}
use Rattle.pf_run.proofs.eval.eval_kept.Given as goal

abbrev pub invariant-rows : goal.invariant-rows
invariant-rows l = record {
  values : l.pixels.items ≡ image_values (out_number l.kernel.source l.planes) l.reach.columns l.y;
  positive : (x y : ℕ) → x < l.reach.columns → y < l.y → pos 0 ≤ℤ out_value l.kernel.source l.planes x y;
  members : All (λ n. IsIn l.kernel.source.out_ty (pos n)) l.pixels.items;
}
