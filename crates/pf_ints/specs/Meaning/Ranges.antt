-- Intervals of whole numbers, and the least interval of all results of an operation.
use Rattle.std.specs.Prelude.{◌≡◌, ℕ, ℤ, pos, ◌^◌, ◌+ℤ◌, ◌-ℤ◌, ◌*ℤ◌, ◌≤ℤ◌, neg_ℤ, int_lt, Bool, ◌&&◌, if◌then◌else◌, Option, Some, None}
use Rattle.std.specs.Int.{int_max, int_min}
use Rattle.std.specs.Int.Signed.{le_z}
use Rattle.pf_ints.specs.declared.lane.LaneType.{LaneType}
use Rattle.pf_ints.specs.Meaning.Lanes.{least, greatest, clamped}
use Rattle.pf_ints.specs.Meaning.Whole.{floor_div}

-- the whole numbers from lo to hi
pub record Range : Type 0 where
  pub lo : ℤ
  pub hi : ℤ

abbrev pub range : ℤ → ℤ → Range
range lo hi = record { lo = lo; hi = hi }

-- how far from 0 a bound may be
abbrev pub furthest : ℤ
furthest = pos (2 ^ 120)

-- what an interval keeps: its bounds are in order, and none is further from 0 than that
pub record IsRange (r : Range) : Type 0 where
  pub low : neg_ℤ furthest ≤ℤ r.lo
  pub ordered : r.lo ≤ℤ r.hi
  pub high : r.hi ≤ℤ furthest

pub record Includes (r : Range) (n : ℤ) : Type 0 where
  pub low : r.lo ≤ℤ n
  pub high : n ≤ℤ r.hi

-- r holds all numbers of a set, and both its bounds are of the set
pub record IsLeast (is_member : ℤ → Type 0) (r : Range) : Type 0 where
  pub all : (n : ℤ) → is_member n → Includes r n
  pub low_met : is_member r.lo
  pub high_met : is_member r.hi

-- n is what f makes of a number of a
pub record IsImage (f : ℤ → ℤ) (a : Range) (n : ℤ) : Type 0 where
  pub of : ℤ
  pub inside : Includes a of
  pub is : f of ≡ n

-- n is what f makes of a number of a and one of b
pub record IsJointImage (f : ℤ → ℤ → ℤ) (a b : Range) (n : ℤ) : Type 0 where
  pub left : ℤ
  pub right : ℤ
  pub in_left : Includes a left
  pub in_right : Includes b right
  pub is : f left right ≡ n

-- an interval, where it keeps what an interval must
unfoldable pub within : Range → Option Range
within r = if le_z (neg_ℤ furthest) r.lo && (le_z r.lo r.hi && le_z r.hi furthest) then Some r else None

-- the answer is the least interval of the set, or none where that one leaves the limits
pub record IsLeastWithin (is_member : ℤ → Type 0) (answer : Option Range) : Type 0 where
  pub whole : Range
  pub least : IsLeast is_member whole
  pub kept : answer ≡ within whole

abbrev pub sum_range : Range → Range → Range
sum_range a b = range (a.lo +ℤ b.lo) (a.hi +ℤ b.hi)

abbrev pub difference_range : Range → Range → Range
difference_range a b = range (a.lo -ℤ b.hi) (a.hi -ℤ b.lo)

-- from the least to the greatest product of two ends
abbrev pub product_range : Range → Range → Range
product_range a b =
    range
    (int_min (int_min (a.lo *ℤ b.lo) (a.hi *ℤ b.lo)) (int_min (a.lo *ℤ b.hi) (a.hi *ℤ b.hi)))
    (int_max (int_max (a.lo *ℤ b.lo) (a.hi *ℤ b.lo)) (int_max (a.lo *ℤ b.hi) (a.hi *ℤ b.hi)))

abbrev pub quotient_range : Range → ℕ → Range
quotient_range a m = range (floor_div a.lo m) (floor_div a.hi m)

abbrev pub min_range : Range → Range → Range
min_range a b = range (int_min a.lo b.lo) (int_min a.hi b.hi)

abbrev pub max_range : Range → Range → Range
max_range a b = range (int_max a.lo b.lo) (int_max a.hi b.hi)

-- to the distance of the further end, from that of the nearer one, or from 0 where that lies between
abbrev pub abs_range : Range → Range
abs_range a = range (int_max (int_max a.lo (neg_ℤ a.hi)) (pos 0)) (int_max a.hi (neg_ℤ a.lo))

-- all members of t
abbrev pub lane_range : LaneType → Range
lane_range t = range (least t) (greatest t)

-- whether b holds all of a
abbrev pub lies_in : Range → Range → Bool
lies_in a b = le_z b.lo a.lo && le_z a.hi b.hi

-- a itself where it lies in t, else all of t
abbrev pub wrap_range : LaneType → Range → Range
wrap_range t a = if lies_in a (lane_range t) then a else lane_range t

abbrev pub clamp_range : LaneType → Range → Range
clamp_range t a = range (clamped t a.lo) (clamped t a.hi)

-- the least interval that holds all of both
abbrev pub join_range : Range → Range → Range
join_range a b = range (int_min a.lo b.lo) (int_max a.hi b.hi)

-- x where every number of a is above every one of b, y where none is above any, else both
abbrev pub choice_range : Range → Range → Range → Range → Range
choice_range a b x y = if int_lt b.hi a.lo then x else (if le_z a.hi b.lo then y else join_range x y)
