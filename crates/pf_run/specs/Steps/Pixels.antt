-- The environment of a kernel's terms at one pixel.
use Rattle.std.specs.Prelude.{◌≡◌, ℕ, pos, ◌<◌, ◌≤◌, ◌*◌, List, ℤ, length, true, unsigned_abs, slice_index_or}
use Rattle.pf_ints.specs.Meaning.Images.{Picture}
use Rattle.pf_values.specs.declared.names.ImageName.{ImageName}
use Rattle.pf_values.specs.declared.names.DefName.{DefName}
use Rattle.pf_values.specs.declared.names.Tap.{Tap}
use Rattle.pf_values.specs.Meaning.Kernels.{Source, out_value, left_reach, up_reach, out_width, out_height, no_picture, tap_column, tap_row}
use Rattle.pf_ints.specs.Meaning.Lanes.{is_in}
use Rattle.pf_values.specs.Meaning.NamedTerms.{no_image, no_tap, no_def}
use Rattle.pf_run.specs.declared.reach.Reach.{Reach}

-- each number is of the type of its tap's image
pub record AreTapNumbers (images : List ImageName) (taps : List Tap) (numbers : List ℤ) : Type 0 where
  pub count : length numbers ≡ length taps
  pub each : (n : ℕ) → n < length taps → is_in (slice_index_or images (slice_index_or taps n no_tap).image no_image).ty (slice_index_or numbers n (pos 0)) ≡ true

-- each number is of the type of its definition
pub record AreDefs (defs : List DefName) (numbers : List ℤ) : Type 0 where
  pub count : length numbers ≡ length defs
  pub each : (n : ℕ) → n < length defs → is_in (slice_index_or defs n no_def).ty (slice_index_or numbers n (pos 0)) ≡ true

-- the reach of these taps, and the size of the output
pub record IsReach (taps : List Tap) (pictures : List Picture) (r : Reach) : Type 0 where
  pub left : r.left ≡ left_reach taps
  pub up : r.up ≡ up_reach taps
  pub columns : pos r.columns ≡ out_width taps pictures
  pub rows : pos r.rows ≡ out_height taps pictures
  pub wide : 1 ≤ r.columns
  pub high : 1 ≤ r.rows
  pub most_columns : r.columns ≤ 8192
  pub most_rows : r.rows ≤ 8192
  pub most : r.columns * r.rows ≤ 16777216

-- the tap's pixel lies in its image
pub record LiesInside (taps : List Tap) (pictures : List Picture) (x y : ℕ) (t : Tap) : Type 0 where
  pub image : t.image < length pictures
  pub column : tap_column taps x t < (slice_index_or pictures t.image no_picture).width
  pub row : tap_row taps y t < (slice_index_or pictures t.image no_picture).height

-- the number of an output pixel
abbrev pub out_number : Source → List Picture → ℕ → ℕ → ℕ
out_number s pictures x y = unsigned_abs (out_value s pictures x y)
