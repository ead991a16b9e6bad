use Rattle.std.proofs.Common.{◌≡◌, ◌∙◌, ap, Some, None, [], ◌∷◌, ◌++◌}
use Rattle.pf_check.proofs.FileLaws.{continues_next, first_and_rest}
use Rattle.pf_check.proofs.files.+judge_rules.Goals as goal

pub returns-in_ok-push-in-Ok-2 : goal.returns-in_ok-push-in-Ok-2
returns-in_ok-push-in-Ok-2 t c =
    continues_next c.args.kind c.args.earlier _ c.rule-item.result c.args.rules.now _ c.args.outcomes _ None c.judge_rules.result
    (first_and_rest c.args.rules.now c.rule-item.result c.in-len1-up.len_at_least c.rule-item.is)
    (c.in_ok-push-in-Ok.ensures.ok ∙ ap (λ x. c.args.earlier ++ Some x ∷ []) c.in-Ok.ensures.ok)
    c.in_ok-push-in-Ok-2.ensures.ok c.in-Ok.ensures.outcome c.judge_rules.ensures
