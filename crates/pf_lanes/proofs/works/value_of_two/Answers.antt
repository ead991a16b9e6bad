use Rattle.std.proofs.Common.{rules}
use Rattle.std.proofs.lemmas.Int.{to_z-of_z}
use Rattle.pf_lanes.proofs.works.value_of_two.Goals as goal

pub returns-in-MulRound : goal.returns-in-MulRound
returns-in-MulRound c = search (rules, to_z-of_z)
