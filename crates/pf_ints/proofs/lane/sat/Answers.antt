use Rattle.std.proofs.Common.{rules}
use Rattle.std.proofs.lemmas.Int.{to_z-of_z}
use Rattle.pf_ints.proofs.LaneLaws.{nearest_at}
use Rattle.pf_ints.proofs.lane.sat.Goals as goal

pub returns-clause-nearest : goal.returns-clause-nearest
returns-clause-nearest c = nearest_at c.args.t c.args.n _ (search (rules, to_z-of_z))
