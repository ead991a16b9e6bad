use Rattle.std.proofs.Common.{arith}
use Rattle.std.proofs.lemmas.Int.{to_z-of_z, ints}
use Rattle.pf_ints.proofs.LaneLaws.{wrapped_low, wrapped_high}
use Rattle.pf_ints.proofs.lane.congruent_member.Goals as goal

pub returns-then-rest-greatest : goal.returns-then-rest-greatest
returns-then-rest-greatest c = grind (arith, ints, to_z-of_z, wrapped_high)

pub returns-else-rest-greatest : goal.returns-else-rest-greatest
returns-else-rest-greatest c = grind (arith, ints, to_z-of_z, wrapped_low)
