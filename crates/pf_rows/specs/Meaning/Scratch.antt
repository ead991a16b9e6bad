-- The scratch of a row: a table for so many taps and the output, a buffer of two vectors for each, and slots of a vector.
use Rattle.std.specs.Prelude.{ℕ, ◌+◌, ◌*◌, ◌/◌}

abbrev pub table_bytes : ℕ → ℕ
table_bytes taps = 128 * ((taps + 16) / 16)

abbrev pub buffer_at : (vector taps k : ℕ) → ℕ
buffer_at vector taps k = table_bytes taps + 2 * vector * k

abbrev pub slot_at : (vector taps slot : ℕ) → ℕ
slot_at vector taps slot = buffer_at vector taps (taps + 1) + vector * slot

abbrev pub scratch_bytes : (vector taps slots : ℕ) → ℕ
scratch_bytes vector taps slots = slot_at vector taps slots
