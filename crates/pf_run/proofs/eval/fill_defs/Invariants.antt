use Rattle.std.proofs.Common.{◌≡◌}
use Rattle.pf_run.proofs.EvalLaws.{DefsSoFar}
use Rattle.pf_run.proofs.eval.fill_defs.Given as goal

abbrev pub invariant-defs : goal.invariant-defs
invariant-defs l = record {
  taps : l.env.taps ≡ l.fn.env.taps;
  so_far : DefsSoFar l.kernel.source l.fn.env.taps l.defs l.def-index l.env.defs;
}
