use Rattle.std.proofs.Common.{◌≡◌, sym, subst, ◌∙◌}
use Rattle.pf_rules.specs.Meaning.Rules.{pairs}
use Rattle.pf_check.specs.Meaning.Faults.{Says}
use Rattle.pf_check.specs.Steps.Pairs.{from_types}
use Rattle.pf_check.proofs.JudgeLaws.{lasts_of, first_over}
use Rattle.pf_check.proofs.judging.judge.Goals as goal

pub judge_types-requires : goal.judge_types-requires
judge_types-requires c = rw c.parts.ensures.value (lasts_of c.args.rule.now c.parts.ensures.kept)

pub returns-in-Ok : goal.returns-in-Ok
returns-in-Ok c =
    let r = c.args.rule.now in
    let same : c.as_slice.result.now ≡ pairs r = c.as_slice.ensures ∙ c.in-Ok.ensures.0 in
    subst (Says c.judge_types.result) (sym (first_over r c.args.kind c.args.earlier.now c.in-Ok.ensures.1))
    (subst (λ ps. Says c.judge_types.result (from_types r c.args.kind c.args.earlier.now ps)) same
    (subst (λ s. Says c.judge_types.result (from_types s c.args.kind c.args.earlier.now c.as_slice.result.now)) c.parts.ensures.value c.judge_types.ensures))
