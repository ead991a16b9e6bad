use Rattle.pf_bounds.proofs.TermLaws.{bounds_hold}
use Rattle.pf_bounds.proofs.inference.bounds.Goals as goal

pub returns-clause-holds : goal.returns-clause-holds
returns-clause-holds c env inside = bounds_hold c.args.ranges.now c.args.term.now c.inferred.result c.requires.typed c.inferred.ensures.value env inside
