-- Which lane of an operand goes into a lane of the result.
use Rattle.std.specs.Prelude.{ℕ, ◌+◌, ◌*◌, ◌/◌, ◌%◌, Bool, true, ◌&&◌, ◌==◌, nat_le}
use Rattle.pf_lanes.specs.declared.recipes.Place.{Place}
use Rattle.pf_lanes.specs.declared.recipes.Place.TheVariants.{Same, From, Even, Odd, First, Lower, Upper}

abbrev pub place_of : Place → ℕ → ℕ
place_of Same i = i
place_of (From first) i = first + i
place_of Even i = 2 * i
place_of Odd i = 2 * i + 1
place_of First i = 0
place_of (Lower run) i = 2 * (i / run * run) + i % run
place_of (Upper run) i = 2 * (i / run * run) + run + i % run

-- of runs of so many lanes in turn: whether a lane is of the first vector, and which one it is there
abbrev pub is_first : ℕ → ℕ → Bool
is_first run i = i / run % 2 == 0

abbrev pub turn : ℕ → ℕ → ℕ
turn run i = i / run / 2 * run + i % run

-- how many lanes an operand has to have for n lanes of the result
abbrev pub lanes_for : Place → ℕ → ℕ
lanes_for Same n = n
lanes_for (From first) n = first + n
lanes_for Even n = 2 * n
lanes_for Odd n = 2 * n
lanes_for First n = 1
lanes_for (Lower run) n = 2 * n
lanes_for (Upper run) n = 2 * n

-- n lanes are whole runs
abbrev pub is_whole : Place → ℕ → Bool
is_whole Same n = true
is_whole (From first) n = true
is_whole Even n = true
is_whole Odd n = true
is_whole First n = true
is_whole (Lower run) n = nat_le 1 run && (n % run == 0)
is_whole (Upper run) n = nat_le 1 run && (n % run == 0)
