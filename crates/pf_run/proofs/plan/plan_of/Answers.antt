use Rattle.std.proofs.Common.{◌≡◌, refl, sym, ap, subst, ◌∙◌, length}
use Rattle.std.specs.Prelude.{pos, ◌≤ℤ◌, unsigned_abs}
use Rattle.pf_values.specs.Meaning.Kernels.{out_width, out_height}
use Rattle.pf_machine.specs.Meaning.Runs.{columns, row_budget}
use Rattle.pf_run.specs.Steps.Pixels.{IsReach}
use Rattle.pf_run.proofs.ReadyLaws.{ready, plan_is}
use Rattle.pf_run.proofs.plan.plan_of.Goals as goal

pub reach_of-reach-requires-clause-limits : goal.reach_of-reach-requires-clause-limits
reach_of-reach-requires-clause-limits c = (ready c.args.head.now c.args.planes.now c.requires.head c.requires.keeps).limits

pub reach_of-reach-requires-clause-wide : goal.reach_of-reach-requires-clause-wide
reach_of-reach-requires-clause-wide c =
    subst (λ ts. pos 1 ≤ℤ out_width ts c.args.planes.now) (sym c.as_slice-taps.ensures) (ready c.args.head.now c.args.planes.now c.requires.head c.requires.keeps).across

pub reach_of-reach-requires-clause-high : goal.reach_of-reach-requires-clause-high
reach_of-reach-requires-clause-high c =
    subst (λ ts. pos 1 ≤ℤ out_height ts c.args.planes.now) (sym c.as_slice-taps.ensures) (ready c.args.head.now c.args.planes.now c.requires.head c.requires.keeps).down

pub run_starts-requires-clause-few : goal.run_starts-requires-clause-few
run_starts-requires-clause-few c = (ready c.args.head.now c.args.planes.now c.requires.head c.requires.keeps).few

pub returns-clause-plan : goal.returns-clause-plan
returns-clause-plan c =
    plan_is c.args.head.now c.args.planes.now _ (ready c.args.head.now c.args.planes.now c.requires.head c.requires.keeps) c.in_ok-taps.ensures c.in_ok-starts.ensures
    (subst (λ ts. IsReach ts c.args.planes.now c.reach_of-reach.result) c.as_slice-taps.ensures c.reach_of-reach.ensures)

pub returns-clause-program : goal.returns-clause-program
returns-clause-program c =
    let taps = c.as_slice-taps.ensures in
    let reach = subst (λ ts. IsReach ts c.args.planes.now c.reach_of-reach.result) taps c.reach_of-reach.ensures in
    let across : c.reach_of-reach.result.columns ≡ columns c.args.head.now c.args.planes.now = ap unsigned_abs reach.columns in
    record {
      taps = c.in_ok-taps.ensures;
      out_ty = refl;
      places = c.in_ok-starts.ensures;
      width = across;
      height = ap unsigned_abs reach.rows;
      budget = c.row_budget-budget.ensures ∙ ap (λ ts. row_budget c.args.instructions (length ts) c.from.result) taps ∙ ap (λ n. row_budget c.args.instructions (length c.args.head.now.taps) n) (c.from.ensures ∙ across);
    }
