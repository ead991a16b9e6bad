-- What stands at the first fault of bytes that are no file.
use Rattle.std.specs.Prelude.{◌≡◌, ℕ, ◌*◌, ◌<◌, ◌≤◌, List, [], ◌∷◌, ◌++◌, length, Bool, true, nat_le, codes}
use Rattle.pf_ints.specs.declared.lane.LaneType.{LaneType}
use Rattle.pf_images.specs.declared.fault.PgmKind.{PgmKind}
use Rattle.pf_images.specs.declared.fault.PgmKind.TheVariants.{Magic, Number, Size, Maxval, Short, Extra}
use Rattle.pf_images.specs.declared.fault.ImageFault.{ImageFault}
use Rattle.pf_images.specs.declared.fault.ImageFault.TheVariants.{At, Memory}
use Rattle.pf_images.specs.declared.header.Header.{Header}
use Rattle.pf_images.specs.Meaning.Pgm.{is_white, begins_blank, IsBlank, IsPgmNumber, IsField, IsPgmHeader, IsMaxval, sample_bytes}

-- a width or a height within its limits
pub record IsSide (n : ℕ) : Type 0 where
  pub some : 1 ≤ n
  pub most : n ≤ 8192

-- none, the width, or the height and the width, within their limits
abbrev pub AreSizes : List ℕ → Type 0
AreSizes [] = Unit {0}
AreSizes (w ∷ []) = IsSide w
AreSizes (h ∷ w ∷ []) = IsSide w × IsSide h × (w * h ≤ 16777216)
AreSizes (a ∷ b ∷ c ∷ more) = ⊥

-- whether a comment may end the number that follows these: it may not behind maxval
abbrev pub may_comment : List ℕ → Bool
may_comment numbers = nat_le (length numbers) 1

-- a number behind white space, with the byte that ends it
abbrev pub IsWhole : Bool → List ℕ → Type 0
IsWhole comments text = (field : List ℕ) × (n c : ℕ) × IsField field n × (begins_blank comments c ≡ true) × (text ≡ field ++ c ∷ [])

-- the text begins such a number, and more is missing
abbrev pub IsNumberBegun : Bool → List ℕ → Type 0
IsNumberBegun comments text = (c : ℕ) × (more : List ℕ) × IsWhole comments (text ++ c ∷ more)

-- the file ends, or its next byte goes on with no such number
abbrev pub Stops : Bool → List ℕ → List ℕ → Type 0
Stops comments text [] = Unit {0}
Stops comments text (c ∷ rest) = (more : List ℕ) → IsWhole comments (text ++ c ∷ more) → ⊥

-- behind numbers within their limits a number is begun that the next byte, or the file's end, cuts off
pub record IsCutOff (before here : List ℕ) : Type 0 where
  pub numbers : List ℕ
  pub head : List ℕ
  pub part : List ℕ
  pub head_is : IsPgmHeader numbers head
  pub sizes : AreSizes numbers
  pub begun : IsNumberBegun (may_comment numbers) part
  pub stops : Stops (may_comment numbers) part here
  -- a number has ended only where a byte behind it was seen
  pub ended : part ≡ [] → numbers ≡ []
  pub parts : before ≡ head ++ part

-- behind numbers within their limits the digits of n stand, with the byte that ends them
pub record IsNumberAt (numbers : List ℕ) (n : ℕ) (before here : List ℕ) : Type 0 where
  pub head : List ℕ
  pub blank : List ℕ
  pub digits : List ℕ
  pub white : ℕ
  pub rest : List ℕ
  pub head_is : IsPgmHeader numbers head
  pub sizes : AreSizes numbers
  pub blank_is : IsBlank blank
  pub number : IsPgmNumber digits n
  pub white_is : begins_blank (may_comment numbers) white ≡ true
  pub parts : before ≡ head ++ blank
  pub rest_is : here ≡ digits ++ white ∷ rest

-- a header without a fault, and so many bytes behind it
pub record IsBehindHeader (ty : LaneType) (h : Header) (before : List ℕ) (n : ℕ) : Type 0 where
  pub head : List ℕ
  pub white : ℕ
  pub rest : List ℕ
  pub head_is : IsPgmHeader (h.maxval ∷ h.height ∷ h.width ∷ []) head
  pub sizes : AreSizes (h.height ∷ h.width ∷ [])
  pub maxval_is : IsMaxval ty h.maxval
  pub white_is : is_white white ≡ true
  pub count : length rest ≡ n
  pub parts : before ≡ head ++ white ∷ rest

-- what is at fault between the bytes before the place and those from it on
abbrev pub IsFaultBetween : LaneType → PgmKind → List ℕ → List ℕ → Type 0
IsFaultBetween ty Magic before here = (before ≡ []) × ((rest : List ℕ) → here ≡ codes "P5" ++ rest → ⊥)
IsFaultBetween ty Number before here = IsCutOff before here
IsFaultBetween ty Size before here = (numbers : List ℕ) × (n : ℕ) × IsNumberAt numbers n before here × (length numbers ≤ 1) × (AreSizes (n ∷ numbers) → ⊥)
IsFaultBetween ty Maxval before here = (numbers : List ℕ) × (n : ℕ) × IsNumberAt numbers n before here × (length numbers ≡ 2) × (IsMaxval ty n → ⊥)
IsFaultBetween ty Short before here = (h : Header) × (n : ℕ) × IsBehindHeader ty h before n × (n < sample_bytes h) × (here ≡ [])
IsFaultBetween ty Extra before here = (h : Header) × IsBehindHeader ty h before (sample_bytes h) × (0 < length here)

-- the first fault of the bytes is of this kind and stands at this place
abbrev pub IsFaultAt : LaneType → List ℕ → ℕ → PgmKind → Type 0
IsFaultAt ty bytes at kind = (before here : List ℕ) × (bytes ≡ before ++ here) × (length before ≡ at) × IsFaultBetween ty kind before here

abbrev pub IsFault : LaneType → List ℕ → ImageFault → Type 0
IsFault ty bytes (At at kind) = IsFaultAt ty bytes at kind
IsFault ty bytes Memory = ⊥
