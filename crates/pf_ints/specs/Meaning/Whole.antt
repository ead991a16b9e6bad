-- Division of whole numbers by a positive number, rounded down.
use Rattle.std.specs.Prelude.{ℕ, ℤ, pos, negsuc, ◌-◌, ◌/◌, ◌%◌}

-- the greatest whole number whose product with m is at most z
abbrev pub floor_div : ℤ → ℕ → ℤ
floor_div (pos a) m = pos (a / m)
floor_div (negsuc a) m = negsuc (a / m)

-- what that product leaves of z, a number below m
abbrev pub floor_mod : ℤ → ℕ → ℕ
floor_mod (pos a) m = a % m
floor_mod (negsuc a) m = m - 1 - a % m
