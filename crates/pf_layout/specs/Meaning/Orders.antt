-- Orders of the pixels of a block: a pixel stands at the place that has its digits, in base two, at other positions.
use Rattle.std.specs.Prelude.{ℕ, ◌+◌, ◌*◌, ◌/◌, ◌%◌, ◌^◌, ◌<◌, ◌≤◌, ◌≢◌, List, [], ◌∷◌, length, All}
use Rattle.std.specs.List.{AllPairs}

-- the new position of each digit, the lowest digit first: at most 7, all below their number, all distinct
pub record IsOrder (ds : List ℕ) : Type 0 where
  pub few : length ds ≤ 7
  pub below : All (λ d. d < length ds) ds
  pub distinct : AllPairs (λ d e. d ≢ e) ds

-- the place of pixel p
abbrev pub place_of : List ℕ → ℕ → ℕ
place_of [] p = 0
place_of (d ∷ ds) p = (p % 2) * 2 ^ d + place_of ds (p / 2)

-- a place whose digits of the weights e and 2e change places
abbrev pub exchanged : (e q : ℕ) → ℕ
exchanged e q = q / (4 * e) * (4 * e) + (q / e) % 2 * (2 * e) + (q / (2 * e)) % 2 * e + q % e
