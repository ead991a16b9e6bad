-- The wrapped number is the one congruent member, and the clamped number the nearest.
use Rattle.std.proofs.Common.{◌≡◌, refl, ℕ, ◌-◌, ◌<◌, ℤ, pos, negsuc, ◌+ℤ◌, ◌-ℤ◌, ◌*ℤ◌, ◌≤ℤ◌, ◌<ℤ◌, arith, Bool, true, false, lit<}
use Rattle.std.proofs.lemmas.Int.{ints, clamps}
use borrow.Author.Differences.{up, down}
use Rattle.std.specs.Int.{int_rem_euclid}
use Rattle.pf_ints.specs.declared.lane.LaneType.{LaneType}
use Rattle.pf_ints.specs.declared.lane.Bits.{Bits}
use Rattle.pf_ints.specs.declared.lane.Bits.TheVariants.{Eight, Sixteen, ThirtyTwo}
use Rattle.pf_ints.specs.Meaning.Whole.{floor_div, floor_mod}
use Rattle.pf_ints.specs.Meaning.Lanes.{modulus, least, greatest, IsIn, wrapped, clamped, IsNearestIn}
use Rattle.pf_ints.proofs.Ring.{distribute_left}
use Rattle.pf_ints.proofs.Floor.{floor_mod_below, floor_split, division_is}

-- what is said of the six types
pub record Spans (t : LaneType) : Type 0 where
  pub all : least t +ℤ pos (modulus t) ≡ greatest t +ℤ pos 1
  pub low : least t ≤ℤ pos 0
  pub high : pos 0 ≤ℤ greatest t
  pub some : 0 < modulus t

spans_by : (signed : Bool) (bits : Bits) → Spans (record { signed = signed; bits = bits })
spans_by true Eight = record { all = refl; low = record { le = tt }; high = record { le = tt }; some = lit< tt }
spans_by true Sixteen = record { all = refl; low = record { le = tt }; high = record { le = tt }; some = lit< tt }
spans_by true ThirtyTwo = record { all = refl; low = record { le = tt }; high = record { le = tt }; some = lit< tt }
spans_by false Eight = record { all = refl; low = record { le = tt }; high = record { le = tt }; some = lit< tt }
spans_by false Sixteen = record { all = refl; low = record { le = tt }; high = record { le = tt }; some = lit< tt }
spans_by false ThirtyTwo = record { all = refl; low = record { le = tt }; high = record { le = tt }; some = lit< tt }

-- the members are as many as the modulus, and 0 is one
pub spans : (t : LaneType) → Spans t
spans t = spans_by t.signed t.bits

pub member : (t : LaneType) (n : ℤ) → IsIn t (wrapped t n)
unfolding wrapped
member t n =
    let s = spans t in
    let below = floor_mod_below (n -ℤ least t) (modulus t) s.some in
    record { low = omega (arith, ints); high = omega (arith, ints, s.all) }

pub congruent : (t : LaneType) (n : ℤ) → (k : ℤ) × (n ≡ wrapped t n +ℤ k *ℤ pos (modulus t))
unfolding wrapped
congruent t n =
    (floor_div (n -ℤ least t) (modulus t), omega (arith, ints, floor_split (n -ℤ least t) (modulus t) (spans t).some))

-- how far a member is above the least
distance : (t : LaneType) (r : ℤ) → IsIn t r → (d : ℕ) × (d < modulus t) × (r ≡ least t +ℤ pos d)
distance t r h =
    let s = spans t in
    (up (r -ℤ least t) - down (r -ℤ least t), omega (arith, ints, h.low, h.high, s.all), omega (arith, ints, h.low))

-- a congruent member is the wrapped number
pub wrapped_is : (t : LaneType) (n r k : ℤ) → IsIn t r → n ≡ r +ℤ k *ℤ pos (modulus t) → wrapped t n ≡ r
unfolding wrapped
wrapped_is t n r k h e =
    let at = distance t r h in
    let rest : floor_mod (n -ℤ least t) (modulus t) ≡ at.0 =
    (division_is (n -ℤ least t) k (modulus t) at.0 at.1 (omega (arith, ints, at.2, e))).1 in
    omega (arith, ints, rest, at.2)

-- a member wraps to itself
pub wrapped_same : (t : LaneType) (n : ℤ) → IsIn t n → wrapped t n ≡ n
wrapped_same t n h = wrapped_is t n n (pos 0) h (omega (arith, ints))

-- numbers that differ by a multiple of the modulus wrap alike
pub wrapped_alike : (t : LaneType) (m n k : ℤ) → m ≡ n +ℤ k *ℤ pos (modulus t) → wrapped t m ≡ wrapped t n
wrapped_alike t m n k e =
    let by = congruent t n in
    wrapped_is t m (wrapped t n) (by.0 +ℤ k) (member t n) (omega (arith, ints, by.1, e, distribute_left by.0 k (pos (modulus t))))

rest_is : (n : ℤ) (m : ℕ) → int_rem_euclid n (pos m) ≡ pos (floor_mod n m)
rest_is (pos a) m = refl
rest_is (negsuc a) m = refl

-- the rest of a division by the modulus, less the modulus where the rest is past the type
module _ (t : LaneType) (n size rest : ℤ) (is : size ≡ pos (modulus t)) (left : rest ≡ int_rem_euclid n size) where
  split : n ≡ floor_div n (modulus t) *ℤ pos (modulus t) +ℤ rest
  split = rw (left, is, rest_is) (floor_split n (modulus t) (spans t).some)

  below : (pos 0 ≤ℤ rest) × (rest <ℤ pos (modulus t))
  below = rw (left, is, rest_is) (let h = floor_mod_below n (modulus t) (spans t).some in omega (arith, ints))

  pub wrapped_low : rest ≤ℤ greatest t → wrapped t n ≡ rest
  wrapped_low h =
      let s = spans t in
      wrapped_is t n rest (floor_div n (modulus t)) (record { low = omega (arith, ints, below, s.low); high = h }) (omega (arith, ints, split))

  pub wrapped_high : greatest t <ℤ rest → wrapped t n ≡ rest -ℤ size
  wrapped_high h =
      let s = spans t in
      wrapped_is t n (rest -ℤ size) (floor_div n (modulus t) +ℤ pos 1) (record { low = omega (arith, ints, below, s.all, is); high = omega (arith, ints, below, s.low, s.high, is) })
      (omega (arith, ints, split, is, distribute_left (floor_div n (modulus t)) (pos 1) (pos (modulus t))))

pub nearest : (t : LaneType) (n : ℤ) → IsNearestIn t n (clamped t n)
unfolding clamped
nearest t n =
    let s = spans t in
    record {
      member = record { low = omega (arith, ints, clamps, s.low, s.high); high = omega (arith, ints, clamps, s.low, s.high) };
      same = λ h. omega (arith, ints, clamps, h.low, h.high);
      below = λ h. omega (arith, ints, clamps, h, s.low, s.high);
      above = λ h. omega (arith, ints, clamps, h, s.low, s.high);
    }

-- what equals the wrapped or the clamped number
pub member_at : (t : LaneType) (n m : ℤ) → m ≡ wrapped t n → IsIn t m
member_at t n m e = rw e (member t n)

pub congruent_at : (t : LaneType) (n m : ℤ) → m ≡ wrapped t n → (k : ℤ) × (n ≡ m +ℤ k *ℤ pos (modulus t))
congruent_at t n m e = rw e (congruent t n)

pub nearest_at : (t : LaneType) (n m : ℤ) → m ≡ clamped t n → IsNearestIn t n m
nearest_at t n m e = rw e (nearest t n)
