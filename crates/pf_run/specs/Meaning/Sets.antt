-- Sets of images, and what is wrong with one.
use Rattle.std.specs.Prelude.{◌≡◌, ◌≢◌, ℕ, ℤ, pos, ◌+◌, ◌*◌, ◌-◌, ◌^◌, ◌<◌, ◌≤◌, ◌≤ℤ◌, ◌⊎◌, min, List, [], ◌∷◌, length, take, zip, All}
use Rattle.pf_ints.specs.Meaning.Images.{Picture, pixel}
use Rattle.pf_values.specs.declared.kernel.ImageDecl.{ImageDecl}
use Rattle.pf_values.specs.declared.names.Tap.{Tap}
use Rattle.pf_values.specs.Meaning.Kernels.{KeepsRange, width_of, height_of, out_width, out_height}
use Rattle.pf_run.specs.declared.fault.SetFault.{SetFault}
use Rattle.pf_run.specs.declared.fault.SetFault.TheVariants.{Count, Kind, Size, Pixel, NoOutput}

-- a pixel is in the declared range
abbrev pub IsInRange : ImageDecl → ℕ → Type 0
IsInRange d n = (d.lo ≤ n) × (n ≤ d.hi)

-- an image is such as declared, and has this size
pub record Suits (width height : ℕ) (d : ImageDecl) (p : Picture) : Type 0 where
  pub range : KeepsRange d p
  pub wide : p.width ≡ width
  pub high : p.height ≡ height

-- the first pixel, row by row, that is out of the declared range
pub record IsFirstOutside (d : ImageDecl) (p : Picture) (x y : ℕ) (n : ℤ) : Type 0 where
  pub column : x < p.width
  pub row : y < p.height
  pub value : n ≡ pos (pixel p x y)
  pub outside : IsInRange d (pixel p x y) → ⊥
  pub before : All (IsInRange d) (take (p.width * y + x) p.pixels)

-- what is wrong with the image of this number, where all are to have this size
abbrev pub IsImageFault : (width height number : ℕ) → ImageDecl → Picture → SetFault → Type 0
IsImageFault width height number d p (Kind image) = (image ≡ number) × (p.ty ≢ d.ty)
IsImageFault width height number d p (Size image w h) = (image ≡ number) × (p.ty ≡ d.ty) × (w ≡ p.width) × (h ≡ p.height) × ((p.width ≢ width) ⊎ (p.height ≢ height))
IsImageFault width height number d p (Pixel image x y n) = (image ≡ number) × (p.ty ≡ d.ty) × (p.width ≡ width) × (p.height ≡ height) × IsFirstOutside d p x y n
IsImageFault width height number d p _ = ⊥

-- what is wrong with the first image that doesn't suit, of those from this number on
abbrev pub IsFirstBadImage : (width height number : ℕ) → List ImageDecl → List Picture → SetFault → Type 0
IsFirstBadImage width height number [] ps fault = ⊥
IsFirstBadImage width height number (d ∷ ds) [] fault = ⊥
IsFirstBadImage width height number (d ∷ ds) (p ∷ ps) fault = IsImageFault width height number d p fault ⊎ (Suits width height d p × IsFirstBadImage width height (number + 1) ds ps fault)

-- all images are such as declared, and have the size of the first
abbrev pub AllSuit : List ImageDecl → List Picture → Type 0
AllSuit images pictures = All (λ q. Suits (width_of pictures) (height_of pictures) q.0 q.1) (zip images pictures)

-- the output has a pixel
abbrev pub HasOutput : List Tap → List Picture → Type 0
HasOutput taps pictures = (pos 1 ≤ℤ out_width taps pictures) × (pos 1 ≤ℤ out_height taps pictures)

-- what is wrong with a set of images: their number, then the first image that doesn't suit, then that the output has no pixel
abbrev pub IsSetFault : List ImageDecl → List Tap → List Picture → SetFault → Type 0
IsSetFault images taps pictures (Count want got) = (length pictures ≢ length images) × (want ≡ length images) × (got ≡ min (length pictures) (2 ^ 32 - 1))
IsSetFault images taps pictures NoOutput = (length pictures ≡ length images) × AllSuit images pictures × (HasOutput taps pictures → ⊥)
IsSetFault images taps pictures fault = (length pictures ≡ length images) × IsFirstBadImage (width_of pictures) (height_of pictures) 0 images pictures fault
