use Rattle.std.proofs.Common.{rules}
use Rattle.std.proofs.lemmas.Int.{to_z-of_z}
use Rattle.pf_lanes.proofs.works.value_of_one.Goals as goal

pub returns-in-SaturateRound : goal.returns-in-SaturateRound
returns-in-SaturateRound c = search (rules, to_z-of_z)
