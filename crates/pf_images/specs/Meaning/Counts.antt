-- Counts that stand still at the end of their type.
use Rattle.std.specs.Prelude.{ℕ, suc, zero, ◌+◌, ◌-◌, ◌^◌, ◌≤◌, min}

-- one more, up to the last value
abbrev pub raised : ℕ → ℕ
raised n = min (n + 1) (2 ^ 64 - 1)

-- a count after this many calls
abbrev pub raised_by : ℕ → ℕ → ℕ
raised_by zero n = n
raised_by (suc k) n = raised (raised_by k n)

-- a count rose, or stood at its last value
abbrev pub Rose : ℕ → ℕ → Type 0
Rose before after = raised before ≤ after
