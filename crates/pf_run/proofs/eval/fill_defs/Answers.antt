use Rattle.std.proofs.Common.{◌≡◌, ◌++◌, ◌∷◌, [], rules, to_z, of_z, to_z-of_z, refl, ap, ◌∙◌}
use Rattle.std.specs.Int.{w128}
use Rattle.pf_run.proofs.EvalLaws.{served_here, one_def_more}
use Rattle.pf_run.proofs.eval.fill_defs.Goals as goal

pub value-number-requires-clause-entries : goal.value-number-requires-clause-entries
value-number-requires-clause-entries c =
    served_here c.args.kernel.now.source c.args.env.now.taps c.as_slice-defs.result.now c.defs.def-index c.defs.env.defs c.defs.invariant.so_far c.def-item.result c.def-item.is c.defs-test.true c.defs.env c.defs.invariant.taps refl c.requires

pub defs-preserved : goal.defs-preserved
defs-preserved c =
    let back : to_z w128 (of_z w128 c.value-number.result) ≡ c.value-number.result = search (rules, to_z-of_z) in
    record {
      taps = c.defs.invariant.taps;
      so_far =
          one_def_more c.args.kernel.now.source c.args.env.now.taps c.as_slice-defs.result.now c.defs.def-index c.defs.env.defs c.defs.invariant.so_far c.def-item.result c.def-item.is c.defs-test.true c.defs.env c.value-number.result c.push.new.self c.defs.invariant.taps refl
          c.value-number.ensures.value c.value-number.ensures.member (c.in_ok-push.ensures.ok ∙ ap (λ n. c.defs.env.defs ++ n ∷ []) back);
    }
