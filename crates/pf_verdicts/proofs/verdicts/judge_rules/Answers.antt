use Rattle.std.proofs.Common.{◌≡◌, [], rules}
use Rattle.pf_verdicts.proofs.Outcomes.{outcomes_told}
use Rattle.pf_verdicts.proofs.verdicts.judge_rules.Goals as goal

pub push_lines-requires : goal.push_lines-requires
push_lines-requires c =
    let rules : c.as_slice-rules.result.now ≡ c.args.file.now.rules = search rules in
    let outcomes : c.as_slice.result.now ≡ c.in_ok-outcomes.outcomes = search rules in
    rw (rules, outcomes) (outcomes_told _ [] _ _ c.in_ok-outcomes.ensures)
