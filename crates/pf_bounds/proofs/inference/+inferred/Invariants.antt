use Rattle.pf_values.specs.Meaning.Terms.{depth_of}
use Rattle.pf_bounds.proofs.inference.+inferred.Given as goal

abbrev pub decreases-inferred : goal.decreases-inferred
decreases-inferred l = depth_of l.term.now
