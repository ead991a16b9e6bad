-- Recipes: what an instruction takes from its vectors for each lane of the result, and what it makes of that.
use Rattle.std.specs.Prelude.{ℕ, ℤ, ◌*◌, ◌/◌, ◌%◌, Bool, ◌&&◌, ◌==◌, nat_le, if◌then◌else◌, List, [], ◌∷◌}
use Rattle.pf_lanes.specs.declared.recipes.View.{View}
use Rattle.pf_lanes.specs.declared.recipes.Operands.{Operands}
use Rattle.pf_lanes.specs.declared.recipes.Operands.TheVariants.{One, Two, Three, InTurn}
use Rattle.pf_lanes.specs.declared.recipes.Recipe.{Recipe}
use Rattle.pf_lanes.specs.Meaning.Lanes.{bytes_of, lane, made}
use Rattle.pf_lanes.specs.Meaning.Works.{value}
use Rattle.pf_lanes.specs.Meaning.Places.{place_of, is_first, turn, lanes_for, is_whole}

-- the lane of a vector that goes into lane i
abbrev pub taken : View → List ℕ → ℕ → ℤ
taken view v i = lane view.ty v (place_of view.place i)

-- what is taken from three vectors
abbrev pub all_taken : Operands → (a b c : List ℕ) → ℕ → List ℤ
all_taken (One x) a b c i = taken x a i ∷ []
all_taken (Two x y) a b c i = taken x a i ∷ taken y b i ∷ []
all_taken (Three x y z) a b c i = taken x a i ∷ taken y b i ∷ taken z c i ∷ []
all_taken (InTurn run x y) a b c i = (if is_first run i then taken x a (turn run i) else taken y b (turn run i)) ∷ []

-- lane i by an amount, and the vector of n lanes
abbrev pub lane_value : Recipe → ℕ → (a b c : List ℕ) → ℕ → ℤ
lane_value r k a b c i = value r.work r.to k (all_taken r.operands a b c i)

abbrev pub computed : Recipe → ℕ → ℕ → (a b c : List ℕ) → List ℕ
computed r k n a b c = made r.to n (lane_value r k a b c)

-- a vector of so many bytes has the lanes that n lanes of the result take
abbrev pub has_room : View → ℕ → ℕ → Bool
has_room view size n = is_whole view.place n && nat_le (bytes_of view.ty * lanes_for view.place n) size

-- so have three vectors
abbrev pub have_room : Operands → (a b c : ℕ) → ℕ → Bool
have_room (One x) a b c n = has_room x a n
have_room (Two x y) a b c n = has_room x a n && has_room y b n
have_room (Three x y z) a b c n = has_room x a n && (has_room y b n && has_room z c n)
have_room (InTurn run x y) a b c n = nat_le 1 run && (n % (2 * run) == 0) && (has_room x a (n / 2) && has_room y b (n / 2))
