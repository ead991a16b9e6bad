use Rattle.std.proofs.Common.{length}
use Rattle.pf_axioms.proofs.steps.rewrite.Goals as goal

pub fold-requires : goal.fold-requires
fold-requires c = (length c.args.ranges.now, c.requires)

pub returns-in-Fold : goal.returns-in-Fold
returns-in-Fold c = rw c.in-Fold.is (c.fold.ensures c.args.ranges.now)
