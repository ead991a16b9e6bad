-- The output image of a kernel.
use Rattle.std.specs.Prelude.{◌≡◌, ℕ, ℤ, pos, ◌*◌, ◌≤◌, ◌<◌, ◌+ℤ◌, ◌-ℤ◌, ◌≤ℤ◌, unsigned_abs, false, List, [], ◌∷◌, ◌++◌, length, map, zip, All, slice_index_or}
use Rattle.std.specs.Int.{int_min, int_max}
use Rattle.pf_ints.specs.declared.lane.LaneType.{LaneType}
use Rattle.pf_ints.specs.declared.lane.Bits.TheVariants.{Eight}
use Rattle.pf_ints.specs.Meaning.Images.{Picture, IsPicture, pixel}
use Rattle.pf_values.specs.declared.kernel.Definition.{Definition}
use Rattle.pf_values.specs.declared.kernel.ImageDecl.{ImageDecl}
use Rattle.pf_values.specs.declared.names.Tap.{Tap}
use Rattle.pf_values.specs.declared.term.Env.{Env}
use Rattle.pf_values.specs.declared.term.Term.{Term}
use Rattle.pf_values.specs.Meaning.Terms.{Val}

-- what a kernel says: its images, its taps, its definitions, and the type and the term of its output
pub record Source : Type 0 where
  pub images : List ImageDecl
  pub taps : List Tap
  pub defs : List Definition
  pub out_ty : LaneType
  pub out : Term

-- the least, and the greatest, of 0 and all of the numbers
abbrev pub lowest : List ℤ → ℤ
lowest [] = pos 0
lowest (n ∷ ns) = int_min n (lowest ns)

abbrev pub highest : List ℤ → ℤ
highest [] = pos 0
highest (n ∷ ns) = int_max n (highest ns)

-- how far the taps reach to the left (0 or less), to the right (0 or more), up and down
abbrev pub left_reach : List Tap → ℤ
left_reach taps = lowest (map (λ t. t.dx) taps)

abbrev pub right_reach : List Tap → ℤ
right_reach taps = highest (map (λ t. t.dx) taps)

abbrev pub up_reach : List Tap → ℤ
up_reach taps = lowest (map (λ t. t.dy) taps)

abbrev pub down_reach : List Tap → ℤ
down_reach taps = highest (map (λ t. t.dy) taps)

-- the size of the first image, which is that of all
abbrev pub width_of : List Picture → ℕ
width_of [] = 0
width_of (p ∷ _) = p.width

abbrev pub height_of : List Picture → ℕ
height_of [] = 0
height_of (p ∷ _) = p.height

-- the size of the output, which has no pixel where one of the two isn't positive
abbrev pub out_width : List Tap → List Picture → ℤ
out_width taps pictures = pos (width_of pictures) -ℤ (right_reach taps -ℤ left_reach taps)

abbrev pub out_height : List Tap → List Picture → ℤ
out_height taps pictures = pos (height_of pictures) -ℤ (down_reach taps -ℤ up_reach taps)

-- the column and the row of a tap's pixel at column x and row y of the output
abbrev pub tap_column : List Tap → ℕ → Tap → ℕ
tap_column taps x t = unsigned_abs ((pos x -ℤ left_reach taps) +ℤ t.dx)

abbrev pub tap_row : List Tap → ℕ → Tap → ℕ
tap_row taps y t = unsigned_abs ((pos y -ℤ up_reach taps) +ℤ t.dy)

abbrev pub no_picture : Picture
no_picture = record { width = 0; height = 0; ty = record { signed = false; bits = Eight }; pixels = [] }

-- a tap's number at column x and row y of the output
abbrev pub tap_value : List Tap → List Picture → ℕ → ℕ → Tap → ℤ
tap_value taps pictures x y t = pos (pixel (slice_index_or pictures t.image no_picture) (tap_column taps x t) (tap_row taps y t))

-- the taps' numbers there, in the order of the taps
abbrev pub tap_values : List Tap → List Picture → ℕ → ℕ → List ℤ
tap_values taps pictures x y = map (tap_value taps pictures x y) taps

-- the values of further definitions behind those of the earlier ones, which they may name
abbrev pub def_values : List ℤ → List ℤ → List Definition → List ℤ
def_values taps before [] = before
def_values taps before (d ∷ ds) = def_values taps (before ++ Val (record { taps = taps; defs = before }) d.term ∷ []) ds

-- what the leaves of the output's term stand for, at the taps' numbers
abbrev pub env_of : Source → List ℤ → Env
env_of s taps = record { taps = taps; defs = def_values taps [] s.defs }

-- the number of the output pixel in column x of row y
abbrev pub out_value : Source → List Picture → ℕ → ℕ → ℤ
out_value s pictures x y = Val (env_of s (tap_values s.taps pictures x y)) s.out

-- the output of a kernel on images: each pixel is the value of the output's term there
pub record Out (s : Source) (pictures : List Picture) (o : Picture) : Type 0 where
  pub ty : o.ty ≡ s.out_ty
  pub width : pos o.width ≡ out_width s.taps pictures
  pub height : pos o.height ≡ out_height s.taps pictures
  pub count : length o.pixels ≡ o.width * o.height
  pub each : (x y : ℕ) → x < o.width → y < o.height → pos (pixel o x y) ≡ out_value s pictures x y

-- the image is of the declared type, and its pixels are in the declared range
pub record KeepsRange (d : ImageDecl) (p : Picture) : Type 0 where
  pub ty : p.ty ≡ d.ty
  pub pixels : All (λ n. (d.lo ≤ n) × (n ≤ d.hi)) p.pixels

-- the pictures are such as these images and taps ask for, and the output has a pixel
pub record KeepsSet (images : List ImageDecl) (taps : List Tap) (pictures : List Picture) : Type 0 where
  pub count : length pictures ≡ length images
  pub each : All (λ p. KeepsRange p.0 p.1) (zip images pictures)
  pub limits : All IsPicture pictures
  pub sizes : All (λ p. (p.width ≡ width_of pictures) × (p.height ≡ height_of pictures)) pictures
  pub wide : pos 1 ≤ℤ out_width taps pictures
  pub high : pos 1 ≤ℤ out_height taps pictures

-- the images are such as the kernel asks for
abbrev pub Keeps : Source → List Picture → Type 0
Keeps s pictures = KeepsSet s.images s.taps pictures

abbrev pub no_decl : ImageDecl
no_decl = record { name = []; ty = no_picture.ty; lo = 0; hi = 0 }
