use Rattle.std.proofs.Common.{arith, length}
use Rattle.pf_lanes.proofs.PlaceLaws.{turn_inside}
use Rattle.pf_lanes.proofs.recipes.taken_in_turn.Goals as goal

pub taken-requires-clause-inside : goal.taken-requires-clause-inside
taken-requires-clause-inside c = rw c.from-run.ensures (turn_inside c.args.run c.args.count c.args.i c.requires.some c.requires.whole c.requires.inside)

pub taken-requires-else-i-run-eq0-clause-inside : goal.taken-requires-else-i-run-eq0-clause-inside
taken-requires-else-i-run-eq0-clause-inside c = rw c.from-run.ensures (turn_inside c.args.run c.args.count c.args.i c.requires.some c.requires.whole c.requires.inside)
