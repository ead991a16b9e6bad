-- Raw PGM files: Netpbm's format P5, with comments up to the number maxval.
use Rattle.std.specs.Prelude.{◌≡◌, ℕ, ◌+◌, ◌-◌, ◌*◌, ◌^◌, ◌<◌, ◌≤◌, List, [], ◌∷◌, ◌++◌, length, Bool, true, false, ◌==◌, ◌||◌, ◌&&◌, nat_lt, codes, decimal, if◌then◌else◌, ◌⊎◌}
use Rattle.std.specs.List.{AllByRecursion, concat, flat_map, list_all}
use Rattle.std.specs.Int.{w16, to_be_bytes}
use Rattle.pf_ints.specs.declared.lane.LaneType.{LaneType}
use Rattle.pf_ints.specs.Meaning.Lanes.{lane_width}
use Rattle.pf_ints.specs.Meaning.Images.{Picture, IsPicture}
use Rattle.pf_text.specs.Meaning.Words.{is_digit}
use Rattle.pf_images.specs.declared.header.Header.{Header}

-- space, TAB, LF or CR
abbrev pub is_white : ℕ → Bool
is_white c = c == 32 || c == 9 || c == 10 || c == 13

-- a byte that begins white space, where comments may stand or may not
abbrev pub begins_blank : Bool → ℕ → Bool
begins_blank comments c = is_white c || (comments && c == 35)

-- LF or CR
abbrev pub ends_comment : ℕ → Bool
ends_comment c = c == 10 || c == 13

-- one byte of white space, or a comment: a #, and all up to and with the next LF or CR
abbrev pub IsPiece : List ℕ → Type 0
IsPiece text =
    ((c : ℕ) × (is_white c ≡ true) × (text ≡ c ∷ []))
    ⊎ ((note : List ℕ) × (c : ℕ) × AllByRecursion (λ b. ends_comment b ≡ false) note × (ends_comment c ≡ true) × (text ≡ 35 ∷ (note ++ c ∷ [])))

-- white space: one piece or more
abbrev pub IsBlank : List ℕ → Type 0
IsBlank text = (pieces : List (List ℕ)) × (0 < length pieces) × AllByRecursion IsPiece pieces × (text ≡ concat pieces)

-- the number of digits that follow those of n
abbrev pub number_from : ℕ → List ℕ → ℕ
number_from n [] = n
number_from n (d ∷ ds) = number_from (n * 10 + (d - 48)) ds

-- a number's decimal digits, one or more, leading zeros among them
abbrev pub IsPgmNumber : List ℕ → ℕ → Type 0
IsPgmNumber digits n = (0 < length digits) × (list_all is_digit digits ≡ true) × (number_from 0 digits ≡ n)

-- white space and a number
abbrev pub IsField : List ℕ → ℕ → Type 0
IsField text n = (blank digits : List ℕ) × IsBlank blank × IsPgmNumber digits n × (text ≡ blank ++ digits)

-- P5 and numbers, the last one first
abbrev pub IsPgmHeader : List ℕ → List ℕ → Type 0
IsPgmHeader [] text = text ≡ codes "P5"
IsPgmHeader (n ∷ before) text = (front field : List ℕ) × IsPgmHeader before front × IsField field n × (text ≡ front ++ field)

-- a maxval that the type has room for
abbrev pub IsMaxval : LaneType → ℕ → Type 0
IsMaxval ty maxval = (1 ≤ maxval) × (maxval < 2 ^ lane_width ty)

-- how the pixels stand: one byte each, or two with the most significant first
abbrev pub samples : ℕ → List ℕ → List ℕ
samples maxval pixels = if nat_lt maxval 256 then pixels else flat_map (to_be_bytes w16) pixels

-- how many bytes the samples take
abbrev pub sample_bytes : Header → ℕ
sample_bytes h = if nat_lt h.maxval 256 then h.width * h.height else 2 * (h.width * h.height)

-- the bytes are a file of the image, read as one of this type
pub record IsPgm (bytes : List ℕ) (ty : LaneType) (p : Picture) : Type 0 where
  pub head : List ℕ
  pub maxval : ℕ
  pub white : ℕ
  pub head_is : IsPgmHeader (maxval ∷ p.height ∷ p.width ∷ []) head
  pub maxval_is : IsMaxval ty maxval
  pub white_is : is_white white ≡ true
  pub picture : IsPicture p
  pub ty_is : p.ty ≡ ty
  pub parts : bytes ≡ head ++ white ∷ samples maxval p.pixels

-- the greatest number of the type
abbrev pub greatest_sample : LaneType → ℕ
greatest_sample ty = 2 ^ lane_width ty - 1

abbrev pub header_text : Picture → List ℕ
header_text p = codes "P5\n" ++ decimal p.width ++ codes " " ++ decimal p.height ++ codes "\n" ++ decimal (greatest_sample p.ty) ++ codes "\n"

-- the one file that is written of an image
abbrev pub pgm_text : Picture → List ℕ
pgm_text p = header_text p ++ samples (greatest_sample p.ty) p.pixels
