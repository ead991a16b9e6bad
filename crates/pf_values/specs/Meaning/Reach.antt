-- How far taps reach along the rows and the columns.
use Rattle.std.specs.Prelude.{ℕ, ℤ, pos, ◌-ℤ◌, List, map}
use Rattle.pf_values.specs.declared.names.Tap.{Tap}
use Rattle.pf_values.specs.Meaning.Kernels.{lowest, highest}
use Rattle.pf_values.specs.declared.reach.Axis.{Axis}
use Rattle.pf_values.specs.declared.reach.Axis.TheVariants.{Columns, Rows}

-- a tap's offset, counted in columns or in rows
abbrev pub offset_along : Axis → Tap → ℤ
offset_along Columns t = t.dx
offset_along Rows t = t.dy

abbrev pub least_offset : Axis → List Tap → ℤ
least_offset axis taps = lowest (map (offset_along axis) taps)

abbrev pub greatest_offset : Axis → List Tap → ℤ
greatest_offset axis taps = highest (map (offset_along axis) taps)

-- how many output pixels fit into so many pixels of an image
abbrev pub extent : Axis → List Tap → ℕ → ℤ
extent axis taps size = pos size -ℤ (greatest_offset axis taps -ℤ least_offset axis taps)
