-- The lanes that are taken are there.
use Rattle.std.proofs.Common.{◌≡◌, ℕ, suc, ◌+◌, ◌*◌, ◌/◌, ◌%◌, ◌<◌, ◌≤◌, ◌&&◌, ◌==◌, Bool, true, false, refl, arith}
use Rattle.std.proofs.Math.Nat.{div-add-mod, mul-le-mul_left, one-le-pow}
use Rattle.std.proofs.lemmas.Nat.{div_below, mod_below}
use Rattle.std.specs.Prelude.{nat_le}
use borrow.Author.Tests.{leb-true, eqb-true}
use Rattle.pf_ints.specs.declared.lane.LaneType.{LaneType}
use Rattle.pf_ints.specs.declared.lane.Bits.{Bits}
use Rattle.pf_ints.specs.declared.lane.Bits.TheVariants.{Eight, Sixteen, ThirtyTwo}
use Rattle.pf_lanes.specs.declared.recipes.Place.{Place}
use Rattle.pf_lanes.specs.declared.recipes.Place.TheVariants.{Same, From, Even, Odd, First, Lower, Upper}
use Rattle.pf_lanes.specs.declared.recipes.View.{View}
use Rattle.pf_lanes.specs.declared.recipes.Operands.{Operands}
use Rattle.pf_lanes.specs.declared.recipes.Operands.TheVariants.{Three, InTurn}
use Rattle.pf_lanes.specs.Meaning.Lanes.{byte_count, bytes_of}
use Rattle.pf_lanes.specs.Meaning.Places.{place_of, turn, lanes_for, is_whole}
use Rattle.pf_lanes.specs.Meaning.Recipes.{has_room, have_room}

both : (x y : Bool) → (x && y) ≡ true → (x ≡ true) × (y ≡ true)
both true y h = (refl, h)
both false y h = absurd (cc)

-- whole runs: a place lies in one of so many runs
pub record InRuns (run n i : ℕ) : Type 0 where
  pub some : 1 ≤ run
  pub before : run * (i / run) + run ≤ n
  pub rest : i % run < run

in_runs : (run n i : ℕ) → 1 ≤ run → n % run ≡ 0 → i < n → InRuns run n i
in_runs run n i some whole less =
    let split : run * (n / run) + n % run ≡ n = div-add-mod n run in
    let runs : i < (n / run) * run = omega arith in
    let below : i / run < n / run = div_below i run (n / run) some runs in
    let more : run * suc (i / run) ≤ run * (n / run) = mul-le-mul_left run below in
    record { some = some; before = omega arith; rest = mod_below i run some }

runs_of : (run n i : ℕ) → (nat_le 1 run && (n % run == 0)) ≡ true → i < n → InRuns run n i
runs_of run n i h less =
    let parts = both (nat_le 1 run) (n % run == 0) h in
    in_runs run n i (leb-true 1 run parts.0) (eqb-true (n % run) 0 parts.1) less

-- the lane that goes into one of n lanes is among those that n lanes take
pub place_inside : (p : Place) (n i : ℕ) → is_whole p n ≡ true → i < n → place_of p i < lanes_for p n
place_inside Same n i h less = less
place_inside (From first) n i h less = omega arith
place_inside Even n i h less = omega arith
place_inside Odd n i h less = omega arith
place_inside First n i h less = omega arith
place_inside (Lower run) n i h less = let r = runs_of run n i h less in omega (arith, r.before, r.rest)
place_inside (Upper run) n i h less = let r = runs_of run n i h less in omega (arith, r.before, r.rest)

-- the vector has it
pub record IsTaken (view : View) (size n i : ℕ) : Type 0 where
  pub whole : is_whole view.place n ≡ true
  pub inside : bytes_of view.ty * place_of view.place i + bytes_of view.ty ≤ size
  pub below : place_of view.place i < size

some_bytes : (b : Bits) → 1 ≤ byte_count b
some_bytes Eight = omega arith
some_bytes Sixteen = omega arith
some_bytes ThirtyTwo = omega arith

pub is_taken : (view : View) (size n i : ℕ) → has_room view size n ≡ true → i < n → IsTaken view size n i
is_taken view size n i room less =
    let w = bytes_of view.ty in
    let parts = both (is_whole view.place n) (nat_le (w * lanes_for view.place n) size) room in
    let enough : w * lanes_for view.place n ≤ size = leb-true (w * lanes_for view.place n) size parts.1 in
    let there : suc (place_of view.place i) ≤ lanes_for view.place n = place_inside view.place n i parts.0 less in
    let grows : w * suc (place_of view.place i) ≤ w * lanes_for view.place n = mul-le-mul_left w there in
    let some : 1 ≤ w = some_bytes view.ty.bits in
    let least : suc (place_of view.place i) * 1 ≤ suc (place_of view.place i) * w = mul-le-mul_left (suc (place_of view.place i)) some in
    record { whole = parts.0; inside = omega arith; below = omega arith }

-- lanes that are taken in turn are among half as many
pub turn_inside : (run n i : ℕ) → 1 ≤ run → n % (2 * run) ≡ 0 → i < n → turn run i < n / 2
turn_inside run n i some whole less =
    let split : (2 * run) * (n / (2 * run)) + n % (2 * run) ≡ n = div-add-mod n (2 * run) in
    let runs : i < (2 * (n / (2 * run))) * run = omega arith in
    let below : i / run < (n / (2 * run)) * 2 = omega (arith, div_below i run (2 * (n / (2 * run))) some runs) in
    let half : i / run / 2 < n / (2 * run) = div_below (i / run) 2 (n / (2 * run)) (omega arith) below in
    let more : run * suc (i / run / 2) ≤ run * (n / (2 * run)) = mul-le-mul_left run half in
    let rest : i % run < run = mod_below i run some in
    omega arith

-- the room of the last of three operands, and of the second of two in turn
pub room_of_third : (o : Operands) (x y z : View) (a b c n : ℕ) → o ≡ Three x y z → have_room o a b c n ≡ true → has_room z c n ≡ true
room_of_third o x y z a b c n is room =
    let here : have_room (Three x y z) a b c n ≡ true = rw is at room in
    (both (has_room y b n) (has_room z c n) (both (has_room x a n) _ here).1).1

pub room_in_turn : (o : Operands) (run : ℕ) (x y : View) (a b c n : ℕ) → o ≡ InTurn run x y → have_room o a b c n ≡ true → has_room y b (n / 2) ≡ true
room_in_turn o run x y a b c n is room =
    let here : have_room (InTurn run x y) a b c n ≡ true = rw is at room in
    (both (has_room x a (n / 2)) (has_room y b (n / 2)) (both (nat_le 1 run && (n % (2 * run) == 0)) _ here).1).1
