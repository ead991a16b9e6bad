use Rattle.std.proofs.Common.{arith}
use Rattle.std.proofs.lemmas.Int.{ints, to_z-of_z}
use Rattle.pf_ints.proofs.interval.Interval.choose.Goals as goal

pub returns-else-self-o-2 : goal.returns-else-self-o-2
returns-else-self-o-2 c = rw (← c.self.view_is, ← c.o.view_is) (grind (arith, ints, to_z-of_z))
