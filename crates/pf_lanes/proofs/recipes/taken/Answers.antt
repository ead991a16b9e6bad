use Rattle.std.proofs.Common.{arith, length}
use Rattle.pf_lanes.proofs.PlaceLaws.{is_taken}
use Rattle.pf_lanes.proofs.recipes.taken.Goals as goal

pub place_of-requires-clause-whole : goal.place_of-requires-clause-whole
place_of-requires-clause-whole c = (is_taken c.args.view (length c.args.vector.now) c.args.count c.args.i c.requires.room c.requires.inside).whole

pub place_of-requires-clause-fits : goal.place_of-requires-clause-fits
place_of-requires-clause-fits c = let t = is_taken c.args.view (length c.args.vector.now) c.args.count c.args.i c.requires.room c.requires.inside in omega (arith, t.below)

pub lane-requires : goal.lane-requires
lane-requires c = let t = is_taken c.args.view (length c.args.vector.now) c.args.count c.args.i c.requires.room c.requires.inside in rw c.place_of.ensures t.inside
