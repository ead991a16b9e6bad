use Rattle.pf_tables.specs.Steps.RowLaws.{moved_fits}
use Rattle.pf_tables.proofs.moves.write_moved.Goals as goal

pub write_lanes-requires-clause-room : goal.write_lanes-requires-clause-room
write_lanes-requires-clause-room g c =
    let fits = moved_fits g.R.Rows.set g.met.R.Rows.laws c.args.separated c.args.k c.in-Some.ty c.in-Some.ensures in
    rw (c.requires.first, c.requires.second, c.requires.room, c.lower.ensures) fits.0

pub write_lanes-requires-in-Some-clause-room : goal.write_lanes-requires-in-Some-clause-room
write_lanes-requires-in-Some-clause-room g c =
    let fits = moved_fits g.R.Rows.set g.met.R.Rows.laws c.args.separated c.args.k c.in-Some.ty c.in-Some.ensures in
    rw (c.requires.first, c.requires.second, c.requires.more, c.upper.ensures) fits.1
