use Rattle.pf_check.proofs.PairLaws.{all_typed}
use Rattle.pf_check.proofs.judging.judge_amounts.Goals as goal

pub judge_steps-requires-clause-typed : goal.judge_steps-requires-clause-typed
judge_steps-requires-clause-typed c = all_typed c.args.kind c.args.parts.now c.args.pairs.now c.in_ok-have_types.ensures
