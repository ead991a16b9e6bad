-- Positions with their inverse, which tells for each position the digit that goes there.
use Rattle.std.specs.Prelude.{◌≡◌, ℕ, ◌+◌, ◌<◌, ◌≤◌, ◌==◌, if◌then◌else◌, List, length, slice_index}

-- the first `count` entries of one list are positions, those of the other lead back, and the other way round
pub record IsInverse (count : ℕ) (ds es : List ℕ) : Type 0 where
  pub few : count ≤ 7
  pub size : length ds ≡ 7
  pub other_size : length es ≡ 7
  pub below : (i : ℕ) → i < count → slice_index ds i < count
  pub other_below : (i : ℕ) → i < count → slice_index es i < count
  pub back : (i : ℕ) → i < count → slice_index es (slice_index ds i) ≡ i
  pub forth : (i : ℕ) → i < count → slice_index ds (slice_index es i) ≡ i

-- i and i + 1 change places
abbrev pub transposed : ℕ → ℕ → ℕ
transposed i d = if d == i then i + 1 else (if d == i + 1 then i else d)
