-- Numbers as bytes, the lowest byte first, and vectors as their lanes.
use Rattle.std.specs.Prelude.{◌≡◌, ℕ, zero, suc, ◌+◌, ◌*◌, ◌/◌, ◌%◌, ◌<◌, List, [], ◌∷◌, length, take, drop, All}
use Rattle.std.specs.List.{flat_map}

-- they are bytes, so many of them
pub record AreBytes (count : ℕ) (bs : List ℕ) : Type 0 where
  pub size : length bs ≡ count
  pub small : All (λ b. b < 256) bs

-- the number of some bytes
abbrev pub number : List ℕ → ℕ
number [] = 0
number (b ∷ bs) = b + 256 * number bs

-- the lowest bytes of a number, as many as are asked for
abbrev pub bytes : ℕ → ℕ → List ℕ
bytes zero n = []
bytes (suc count) n = n % 256 ∷ bytes count (n / 256)

-- the numbers of so many lanes, each of width bytes, the lowest lane first
abbrev pub lanes : ℕ → ℕ → List ℕ → List ℕ
lanes width zero v = []
lanes width (suc count) v = number (take width v) ∷ lanes width count (drop width v)

-- the vector of these lanes
abbrev pub packed : ℕ → List ℕ → List ℕ
packed width xs = flat_map (λ x. bytes width x) xs

-- a function of two lanes, lane by lane
abbrev pub map2 : (ℕ → ℕ → ℕ) → List ℕ → List ℕ → List ℕ
map2 f [] ys = []
map2 f (x ∷ xs) [] = []
map2 f (x ∷ xs) (y ∷ ys) = f x y ∷ map2 f xs ys
