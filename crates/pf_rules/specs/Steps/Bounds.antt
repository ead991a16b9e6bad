-- The shifts at a width by their bounds.
use Rattle.std.specs.Prelude.{ℕ, ◌+◌, ◌-◌, ◌≤◌, List}
use Rattle.std.specs.List.{range_with_len}

abbrev pub shifts_between : ℕ × ℕ → List ℕ
shifts_between b = range_with_len b.0 (b.1 - b.0 + 1)

pub record IsShiftRange (b : ℕ × ℕ) : Type 0 where
  pub ordered : b.0 ≤ b.1
  pub small : b.1 ≤ 63
