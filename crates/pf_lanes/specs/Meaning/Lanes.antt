-- A vector as its lanes: read by a lane's type, and made of a function of the lane's place.
use Rattle.std.specs.Prelude.{false, ℕ, zero, suc, ℤ, pos, ◌+◌, ◌*◌, List, [], ◌++◌, take, drop}
use Rattle.pf_ints.specs.declared.lane.LaneType.{LaneType}
use Rattle.pf_ints.specs.declared.lane.Bits.{Bits}
use Rattle.pf_ints.specs.declared.lane.Bits.TheVariants.{Eight, Sixteen, ThirtyTwo}
use Rattle.pf_ints.specs.Meaning.Lanes.{wrapped, modulus}
use Rattle.pf_ints.specs.Meaning.Whole.{floor_mod}
use Rattle.pf_machine.specs.Meaning.Bytes.{number, bytes}

abbrev pub byte_count : Bits → ℕ
byte_count Eight = 1
byte_count Sixteen = 2
byte_count ThirtyTwo = 4

-- bytes of a lane
abbrev pub bytes_of : LaneType → ℕ
bytes_of ty = byte_count ty.bits

-- lane i of a vector
unfoldable pub lane : LaneType → List ℕ → ℕ → ℤ
lane ty v i = wrapped ty (pos (number (take (bytes_of ty) (drop (bytes_of ty * i) v))))

-- the bits of a number, as those of a lane
abbrev pub residue : LaneType → ℤ → ℕ
residue ty n = floor_mod n (modulus ty)

-- so many lanes of a function, from a place on
abbrev pub made_from : LaneType → ℕ → (ℕ → ℤ) → ℕ → List ℕ
made_from ty zero f i = []
made_from ty (suc n) f i = bytes (bytes_of ty) (residue ty (f i)) ++ made_from ty n f (i + 1)

-- the vector of so many lanes of a function
unfoldable pub made : LaneType → ℕ → (ℕ → ℤ) → List ℕ
made ty n f = made_from ty n f 0

-- lanes of 32 bits without a sign
abbrev pub word : LaneType
word = record { signed = false; bits = ThirtyTwo }
