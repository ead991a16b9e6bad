use Rattle.std.proofs.Common.{◌≡◌, ◌/◌, ◌%◌, length, arith}
use Rattle.pf_tables.proofs.made.write_upper.Goals as goal

pub write_lanes-requires-clause-room : goal.write_lanes-requires-clause-room
write_lanes-requires-clause-room g c =
    let s = g.R.Rows.set in
    let whole : s.vector % 8 ≡ 0 = (g.met.R.Rows.laws).whole in
    let upper : length c.split_at_mut-low.result.1.now ≡ s.vector / 2 = omega (arith, c.requires.room, whole, c.split_at_mut-low.ensures.back_len) in
    rw (upper, c.requires.second) c.requires.fits.room
