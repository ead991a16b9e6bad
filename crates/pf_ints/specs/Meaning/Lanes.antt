-- Lane types, and how a whole number is brought into one.
use Rattle.std.specs.Prelude.{◌≡◌, ℕ, ℤ, pos, ◌-◌, ◌^◌, ◌+ℤ◌, ◌-ℤ◌, ◌≤ℤ◌, neg_ℤ, Bool, ◌&&◌, int_le, if◌then◌else◌}
use Rattle.std.specs.Int.{int_max, int_min}
use Rattle.pf_ints.specs.declared.lane.LaneType.{LaneType}
use Rattle.pf_ints.specs.declared.lane.Bits.{Bits}
use Rattle.pf_ints.specs.declared.lane.Bits.TheVariants.{Eight, Sixteen, ThirtyTwo}
use Rattle.pf_ints.specs.Meaning.Whole.{floor_mod}

abbrev pub bit_count : Bits → ℕ
bit_count Eight = 8
bit_count Sixteen = 16
bit_count ThirtyTwo = 32

abbrev pub lane_width : LaneType → ℕ
lane_width t = bit_count t.bits

-- how many members the type has
abbrev pub modulus : LaneType → ℕ
modulus t = 2 ^ lane_width t

abbrev pub least : LaneType → ℤ
least t = if t.signed then neg_ℤ (pos (2 ^ (lane_width t - 1))) else pos 0

abbrev pub greatest : LaneType → ℤ
greatest t = if t.signed then pos (2 ^ (lane_width t - 1) - 1) else pos (2 ^ lane_width t - 1)

-- the number is a member of the type
pub record IsIn (t : LaneType) (n : ℤ) : Type 0 where
  pub low : least t ≤ℤ n
  pub high : n ≤ℤ greatest t

-- the same as a test
abbrev pub is_in : LaneType → ℤ → Bool
is_in t n = int_le (least t) n && int_le n (greatest t)

-- the member that differs from n by a multiple of the modulus
unfoldable pub wrapped : LaneType → ℤ → ℤ
wrapped t n = least t +ℤ pos (floor_mod (n -ℤ least t) (modulus t))

-- the member that is nearest to n
unfoldable pub clamped : LaneType → ℤ → ℤ
clamped t n = int_max (least t) (int_min n (greatest t))

-- a member that is n where n is one, and else the end of the type that n lies past
pub record IsNearestIn (t : LaneType) (n m : ℤ) : Type 0 where
  pub member : IsIn t m
  pub same : IsIn t n → m ≡ n
  pub below : n ≤ℤ least t → m ≡ least t
  pub above : greatest t ≤ℤ n → m ≡ greatest t
