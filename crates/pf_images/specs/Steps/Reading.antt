-- Reading a file from left to right, with the first fault that is met.
use Rattle.std.specs.Prelude.{◌≡◌, ℕ, suc, ◌+◌, ◌-◌, ◌*◌, ◌^◌, ◌≤◌, List, [], ◌∷◌, length, take, drop, Bool, true, false, not, ◌==◌, ◌||◌, ◌&&◌, nat_lt, nat_le, Result, Ok, Err, if◌then◌else◌}
use Rattle.pf_ints.specs.declared.lane.LaneType.{LaneType}
use Rattle.pf_ints.specs.Meaning.Lanes.{lane_width}
use Rattle.pf_ints.specs.Meaning.Images.{Picture}
use Rattle.pf_text.specs.Meaning.Words.{is_digit}
use Rattle.pf_images.specs.declared.fault.PgmKind.{PgmKind}
use Rattle.pf_images.specs.declared.fault.PgmKind.TheVariants.{Magic, Number, Size, Maxval, Short, Extra}
use Rattle.pf_images.specs.declared.fault.Fault.{Fault}
use Rattle.pf_images.specs.declared.fault.ImageFault.{ImageFault}
use Rattle.pf_images.specs.declared.fault.ImageFault.TheVariants.{At, Memory}
use Rattle.pf_images.specs.declared.header.Header.{Header}
use Rattle.pf_images.specs.Meaning.Pgm.{begins_blank, ends_comment, number_from, sample_bytes}

infixl 10 ◌>>=◌
abbrev pub ◌>>=◌ : {A B : Type 0} → Result A Fault → (A → Result B Fault) → Result B Fault
(Ok x) >>= f = f x
(Err e) >>= f = Err e

-- the place at which these bytes stand is at fault
abbrev pub at_these : List ℕ → PgmKind → Fault
at_these rest kind = record { left = length rest; kind = kind }

-- whether a comment is open behind the byte
abbrev pub is_open : Bool → ℕ → Bool
is_open true c = not (ends_comment c)
is_open false c = c == 35

-- how many bytes of white space stand at the front, where a comment may be open
abbrev pub blank_count : Bool → List ℕ → ℕ
blank_count inside [] = 0
blank_count inside (c ∷ cs) = if inside || begins_blank true c then suc (blank_count (is_open inside c) cs) else 0

-- how many digits stand at the front
abbrev pub digit_count : List ℕ → ℕ
digit_count [] = 0
digit_count (c ∷ cs) = if is_digit c then suc (digit_count cs) else 0

-- the bytes, where white space stands in front
unfoldable pub begun : Bool → List ℕ → Result (List ℕ) Fault
begun comments [] = Err (at_these [] Number)
begun comments (c ∷ cs) = if begins_blank comments c then Ok (c ∷ cs) else Err (at_these (c ∷ cs) Number)

-- a number's digits, and from the byte that ends the number on
unfoldable pub digits_at : Bool → List ℕ → Result (List ℕ × List ℕ) Fault
digits_at comments bytes =
    if digit_count bytes == 0 then Err (at_these bytes Number)
    else (begun comments (drop (digit_count bytes) bytes) >>= λ rest. Ok (take (digit_count bytes) bytes, rest))

-- the same behind white space
unfoldable pub field_at : Bool → List ℕ → Result (List ℕ × List ℕ) Fault
field_at comments bytes = digits_at comments (drop (blank_count false bytes) bytes)

-- the place of a number's first digit is at fault
abbrev pub at_number : List ℕ × List ℕ → PgmKind → Fault
at_number field kind = record { left = length field.0 + length field.1; kind = kind }

unfoldable pub side_of : List ℕ × List ℕ → Result ℕ Fault
side_of field = if nat_le 1 (number_from 0 field.0) && nat_le (number_from 0 field.0) 8192 then Ok (number_from 0 field.0) else Err (at_number field Size)

unfoldable pub header_height : ℕ → List ℕ × List ℕ → Result ℕ Fault
header_height width field = side_of field >>= λ n. if nat_le (width * n) 16777216 then Ok n else Err (at_number field Size)

unfoldable pub maxval_of : LaneType → List ℕ × List ℕ → Result ℕ Fault
maxval_of ty field =
    if nat_le 1 (number_from 0 field.0) && nat_lt (number_from 0 field.0) (2 ^ lane_width ty) then Ok (number_from 0 field.0) else Err (at_number field Maxval)

unfoldable pub magic_of : List ℕ → Result (List ℕ) Fault
magic_of [] = Err (at_these [] Magic)
magic_of (a ∷ []) = Err (at_these (a ∷ []) Magic)
magic_of (a ∷ b ∷ rest) = if a == 80 && b == 53 then Ok rest else Err (at_these (a ∷ b ∷ rest) Magic)

-- the numbers of the header, and the bytes behind the white space byte that ends it
unfoldable pub header_of : LaneType → List ℕ → Result (Header × List ℕ) Fault
header_of ty bytes = do
  front ← magic_of bytes
  start ← begun true front
  first ← field_at true start
  width ← side_of first
  second ← field_at true first.1
  height ← header_height width second
  third ← field_at false second.1
  maxval ← maxval_of ty third
  Ok (record { width = width; height = height; maxval = maxval }, drop 1 third.1)

unfoldable pub counted : Header → List ℕ → Result (Header × List ℕ) Fault
counted h bytes =
    if nat_lt (length bytes) (sample_bytes h) then Err (at_these [] Short)
    else (if nat_lt (sample_bytes h) (length bytes) then Err (at_these (drop (sample_bytes h) bytes) Extra) else Ok (h, bytes))

-- the numbers of the header, and the samples
unfoldable pub parts_of : LaneType → List ℕ → Result (Header × List ℕ) Fault
parts_of ty bytes = header_of ty bytes >>= λ x. counted x.0 x.1

-- the numbers of pairs of bytes, the most significant first
abbrev pub pairs : List ℕ → List ℕ
pairs [] = []
pairs (a ∷ []) = []
pairs (a ∷ b ∷ rest) = (256 * a + b) ∷ pairs rest

abbrev pub pixels_of : ℕ → List ℕ → List ℕ
pixels_of maxval bytes = if nat_lt maxval 256 then bytes else pairs bytes

abbrev pub picture_of : LaneType → Header × List ℕ → Picture
picture_of ty x = record { width = x.0.width; height = x.0.height; ty = ty; pixels = pixels_of x.0.maxval x.1 }

-- the image, or the first fault
unfoldable pub image_of : LaneType → List ℕ → Result Picture Fault
image_of ty bytes = parts_of ty bytes >>= λ x. Ok (picture_of ty x)

-- a call answers what reading gives
abbrev pub GivesRead : {X Y : Type 0} → (X → Y) → Result X Fault → Result Y Fault → Type 0
GivesRead view (Ok x) read = read ≡ Ok (view x)
GivesRead view (Err f) read = read ≡ Err f

-- the same, with the place of a fault counted from the front; want of memory may come in place of an image
abbrev pub GivesImage : List ℕ → Result Picture ImageFault → Result Picture Fault → Type 0
GivesImage bytes (Ok p) read = read ≡ Ok p
GivesImage bytes (Err (At at kind)) read = (at ≤ length bytes) × (read ≡ Err (record { left = length bytes - at; kind = kind }))
GivesImage bytes (Err Memory) read = Unit {0}
