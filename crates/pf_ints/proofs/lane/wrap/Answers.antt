use Rattle.std.proofs.Common.{rules}
use Rattle.std.proofs.lemmas.Int.{to_z-of_z}
use Rattle.pf_ints.proofs.LaneLaws.{member_at, congruent_at}
use Rattle.pf_ints.proofs.lane.wrap.Goals as goal

pub returns-clause-member : goal.returns-clause-member
returns-clause-member c = member_at c.args.t c.args.n _ (search (rules, to_z-of_z))

pub returns-clause-congruent : goal.returns-clause-congruent
returns-clause-congruent c = congruent_at c.args.t c.args.n _ (search (rules, to_z-of_z))
