use Rattle.std.proofs.Common.{arith}
use Rattle.std.proofs.lemmas.Int.{ints}
use Rattle.std.proofs.lemmas.Nat.{one_shl, pow_below}
use Rattle.pf_rules.proofs.evaluating.power.Goals as goal

pub returns : goal.returns
returns c = omega (arith, ints, one_shl c.args.e 128 (omega arith), pow_below c.args.e 127 (omega arith))
