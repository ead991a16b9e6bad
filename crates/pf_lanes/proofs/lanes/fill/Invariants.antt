use Rattle.std.proofs.Common.{◌≡◌, ◌≤◌, ◌*◌, take, length}
use Rattle.pf_lanes.specs.Meaning.Lanes.{bytes_of, made_from}
use Rattle.pf_lanes.proofs.lanes.fill.Given as goal

abbrev pub invariant-loop-i : goal.invariant-loop-i
invariant-loop-i g l = record {
  full : length l.out ≡ bytes_of l.ty * l.count;
  done : take (bytes_of l.ty * l.i) l.out ≡ made_from l.ty l.i (g.S.LaneWise.at l.source) 0;
}
