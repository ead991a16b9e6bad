use Rattle.std.proofs.lemmas.Result.{err_from_is_err_and}
use Rattle.pf_top.specs.Steps.CommandSteps.{the_check}
use Rattle.pf_top.proofs.Checking.{rules_stopped, verdicts_told}
use Rattle.pf_top.proofs.check.check.Goals as goal

pub returns-in_err-rules : goal.returns-in_err-rules
returns-in_err-rules g c =
    let p = err_from_is_err_and c.from_residual.result c.from_residual.ensures.1 in
    rw (p.1, p.2) (rules_stopped (the_check c.args.words.now) _ _ c.in_err-rules.field-0.0 c.in_err-rules.ensures)

pub returns : goal.returns
returns g c = verdicts_told (the_check c.args.words.now) c.in_ok-rules.rules _ _ c.in_ok-rules.ensures c.verdict_of.result c.verdict_of.ensures
