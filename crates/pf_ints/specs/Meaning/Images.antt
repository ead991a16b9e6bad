-- Images of pixels without a sign.
use Rattle.std.specs.Prelude.{◌≡◌, ℕ, pos, ◌+◌, ◌*◌, ◌≤◌, List, length, All, Bool, true, false, slice_index}
use Rattle.pf_ints.specs.declared.lane.LaneType.{LaneType}
use Rattle.pf_ints.specs.declared.lane.Bits.{Bits}
use Rattle.pf_ints.specs.declared.lane.Bits.TheVariants.{Eight, Sixteen, ThirtyTwo}
use Rattle.pf_ints.specs.Meaning.Lanes.{IsIn, lane_width}

-- an image: its size, the type of its pixels, and its pixels in rows from top to bottom
pub record Picture : Type 0 where
  pub width : ℕ
  pub height : ℕ
  pub ty : LaneType
  pub pixels : List ℕ

-- u8 or u16
pub record IsPixelType (t : LaneType) : Type 0 where
  pub unsigned : t.signed ≡ false
  pub narrow : lane_width t ≤ 16

abbrev pub is_pixel_by : Bool → Bits → Bool
is_pixel_by true bits = false
is_pixel_by false Eight = true
is_pixel_by false Sixteen = true
is_pixel_by false ThirtyTwo = false

-- the same as a test
abbrev pub is_pixel : LaneType → Bool
is_pixel t = is_pixel_by t.signed t.bits

-- what every image keeps
pub record IsPicture (p : Picture) : Type 0 where
  pub ty : IsPixelType p.ty
  pub wide : 1 ≤ p.width
  pub high : 1 ≤ p.height
  pub most_wide : p.width ≤ 8192
  pub most_high : p.height ≤ 8192
  pub most : p.width * p.height ≤ 16777216
  pub count : length p.pixels ≡ p.width * p.height
  pub each : All (λ n. IsIn p.ty (pos n)) p.pixels

-- the pixel in column x of row y
abbrev pub pixel : Picture → ℕ → ℕ → ℕ
pixel p x y = slice_index p.pixels (p.width * y + x)
