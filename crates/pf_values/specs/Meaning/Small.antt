-- Numbers that any lane type's members are among.
use Rattle.std.specs.Prelude.{ℤ, pos, neg_ℤ, ◌^◌, ◌≤ℤ◌}

-- at most 2 ^ 32 away from 0
pub record IsSmall (n : ℤ) : Type 0 where
  pub low : neg_ℤ (pos (2 ^ 32)) ≤ℤ n
  pub high : n ≤ℤ pos (2 ^ 32)

-- at most 2 ^ 64 away from 0
pub record IsLong (n : ℤ) : Type 0 where
  pub low : neg_ℤ (pos (2 ^ 64)) ≤ℤ n
  pub high : n ≤ℤ pos (2 ^ 64)
