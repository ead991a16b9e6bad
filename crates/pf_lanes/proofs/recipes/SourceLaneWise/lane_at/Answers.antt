use Rattle.std.proofs.Common.{◌≡◌, length, rules, true}
use Rattle.pf_lanes.specs.Meaning.Recipes.{have_room}
use Rattle.pf_lanes.proofs.PlaceLaws.{room_of_third, room_in_turn}
use Rattle.pf_lanes.proofs.recipes.SourceLaneWise.lane_at.Goals as goal

pub taken-requires-in-Three-clause-room : goal.taken-requires-in-Three-clause-room
taken-requires-in-Three-clause-room c =
    let s = c.args.self.now in
    let room : have_room s.recipe.operands (length s.first.now) (length s.second.now) (length s.third.now) s.count ≡ true = search rules in
    room_of_third s.recipe.operands c.in-Three.a c.in-Three.b c.in-Three.c (length s.first.now) (length s.second.now) (length s.third.now) s.count c.in-Three.is room

pub taken_in_turn-x-requires-clause-second : goal.taken_in_turn-x-requires-clause-second
taken_in_turn-x-requires-clause-second c =
    let s = c.args.self.now in
    let room : have_room s.recipe.operands (length s.first.now) (length s.second.now) (length s.third.now) s.count ≡ true = search rules in
    room_in_turn s.recipe.operands c.in-InTurn.run' c.in-InTurn.a c.in-InTurn.b (length s.first.now) (length s.second.now) (length s.third.now) s.count c.in-InTurn.is room
