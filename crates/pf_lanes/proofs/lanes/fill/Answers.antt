use Rattle.std.proofs.Common.{◌≡◌, ◌<◌, length, rules, ap, ◌∙◌, arith}
use Rattle.std.proofs.lemmas.Int.{to_z-of_z}
use Rattle.pf_lanes.specs.Meaning.Lanes.{bytes_of, residue}
use Rattle.pf_lanes.proofs.FillLaws.{one_more, room_left, length_put, all_made}
use Rattle.pf_lanes.proofs.lanes.fill.Goals as goal

pub loop-i-preserved : goal.loop-i-preserved
loop-i-preserved g c =
    let less : c.loop-i.i < c.args.count = c.loop-i-test.true in
    let room = room_left (bytes_of c.args.ty) c.loop-i.i c.args.count (length c.loop-i.out) less c.loop-i.invariant.full in
    let value : c.residue.result ≡ residue c.args.ty c.lane_at.result = search (rules, to_z-of_z) in
    let there : c.lane_at.result ≡ g.S.LaneWise.at c.args.source.now c.loop-i.i = c.lane_at.ensures in
    record {
      full = length_put (bytes_of c.args.ty) c.loop-i.i c.residue.result c.loop-i.out c.put.new.out room c.put.ensures ∙ c.loop-i.invariant.full;
      done = one_more c.args.ty (g.S.LaneWise.at c.args.source.now) c.loop-i.i c.residue.result c.loop-i.out c.put.new.out c.loop-i.invariant.done room (value ∙ ap (residue c.args.ty) there) c.put.ensures;
    }

pub returns : goal.returns
returns g c = all_made c.args.ty (g.S.LaneWise.at c.args.source.now) c.args.count c.loop-i.i c.loop-i.out c.loop-i.invariant.full (omega arith) c.loop-i.invariant.done
