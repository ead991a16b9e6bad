-- What is made lane by lane is read lane by lane.
use Rattle.std.proofs.Common.{◌≡◌, ℕ, zero, suc, ℤ, pos, ◌+◌, ◌-◌, ◌*◌, ◌^◌, ◌<◌, ◌≤◌, ◌++◌, take, drop, length, All, refl, arith, sym, ◌∙◌, length-append}
use Rattle.std.proofs.Math.Nat.{one-le-pow}
use Rattle.std.proofs.lemmas.List.{take_at, drop_at, drop-drop}
use Rattle.std.proofs.lemmas.List.Elements.{All-nil, All-append}
use Rattle.std.proofs.lemmas.Int.{ints}
use Rattle.pf_ints.specs.declared.lane.LaneType.{LaneType}
use Rattle.pf_ints.specs.declared.lane.Bits.{Bits}
use Rattle.pf_ints.specs.declared.lane.Bits.TheVariants.{Eight, Sixteen, ThirtyTwo}
use Rattle.pf_ints.specs.Meaning.Lanes.{wrapped, modulus, bit_count}
use Rattle.pf_ints.specs.Meaning.Whole.{floor_div}
use Rattle.pf_ints.proofs.Floor.{floor_mod_below, floor_split}
use Rattle.pf_ints.proofs.LaneLaws.{wrapped_alike}
use Rattle.pf_machine.specs.Meaning.Bytes.{AreBytes, number, bytes}
use Rattle.pf_machine.proofs.ByteLaws.{length-bytes, bytes_below, number-bytes}
use Rattle.pf_lanes.specs.Meaning.Lanes.{byte_count, bytes_of, lane, residue, made_from, made}

length-made_from : (t : LaneType) (n : ℕ) (f : ℕ → ℤ) (i : ℕ) → length (made_from t n f i) ≡ bytes_of t * n
length-made_from t zero f i = omega arith
length-made_from t (suc n) f i =
    rw (length-append (bytes (bytes_of t) (residue t (f i))) (made_from t n f (i + 1)), length-bytes (bytes_of t) (residue t (f i)), length-made_from t n f (i + 1)) (omega arith)

-- how many bytes are made
pub length-made : (t : LaneType) (n : ℕ) (f : ℕ → ℤ) → length (made t n f) ≡ bytes_of t * n
unfolding made
length-made t n f = length-made_from t n f 0

bytes-made_from : (t : LaneType) (n : ℕ) (f : ℕ → ℤ) (i : ℕ) → All (λ b. b < 256) (made_from t n f i)
bytes-made_from t zero f i = All-nil (λ b. b < 256)
bytes-made_from t (suc n) f i = All-append (λ b. b < 256) (bytes (bytes_of t) (residue t (f i))) (made_from t n f (i + 1)) (bytes_below (bytes_of t) (residue t (f i))) (bytes-made_from t n f (i + 1))

-- and they are bytes
pub bytes-made : (t : LaneType) (n : ℕ) (f : ℕ → ℤ) → All (λ b. b < 256) (made t n f)
unfolding made
bytes-made t n f = bytes-made_from t n f 0

modulus-size : (b : Bits) → 2 ^ bit_count b ≡ 256 ^ byte_count b
modulus-size Eight = refl
modulus-size Sixteen = refl
modulus-size ThirtyTwo = refl

some_modulus : (t : LaneType) → 0 < modulus t
some_modulus t = one-le-pow (bit_count t.bits) 2 (omega arith)

residue_fits : (t : LaneType) (n : ℤ) → residue t n < 256 ^ bytes_of t
residue_fits t n = rw (← modulus-size t.bits) (floor_mod_below n (modulus t) (some_modulus t))

-- the bits of a number are those of the wrapped number
wrapped_residue : (t : LaneType) (n : ℤ) → wrapped t (pos (residue t n)) ≡ wrapped t n
wrapped_residue t n =
    let split = floor_split n (modulus t) (some_modulus t) in
    sym (wrapped_alike t n (pos (residue t n)) (floor_div n (modulus t)) (split ∙ grind (arith, ints)))

drop_made : (t : LaneType) (n : ℕ) (f : ℕ → ℤ) (k i : ℕ) → i ≤ n → drop (bytes_of t * i) (made_from t n f k) ≡ made_from t (n - i) f (k + i)
drop_made t n f k zero less =
    let none : bytes_of t * 0 ≡ 0 = omega arith in
    let all : n - 0 ≡ n = omega arith in
    let same : k + 0 ≡ k = omega arith in
    rw (none, all, same) refl
drop_made t zero f k (suc i) less = absurd (omega arith)
drop_made t (suc n) f k (suc i) less =
    let next : bytes_of t * suc i ≡ bytes_of t + bytes_of t * i = omega arith in
    let fewer : suc n - suc i ≡ n - i = omega arith in
    let there : k + suc i ≡ (k + 1) + i = omega arith in
    let front : drop (bytes_of t) (bytes (bytes_of t) (residue t (f k)) ++ made_from t n f (k + 1)) ≡ made_from t n f (k + 1) = drop_at (bytes (bytes_of t) (residue t (f k))) (made_from t n f (k + 1)) (bytes_of t) (length-bytes (bytes_of t) (residue t (f k))) in
    rw (next, fewer, there, ← drop-drop (bytes_of t * i) (bytes_of t) (made_from t (suc n) f k), front) (drop_made t n f (k + 1) i (omega arith))

-- the bytes of a lane of what was made
pub part-made : (t : LaneType) (n : ℕ) (f : ℕ → ℤ) (i : ℕ) → i < n → take (bytes_of t) (drop (bytes_of t * i) (made t n f)) ≡ bytes (bytes_of t) (residue t (f i))
unfolding made
part-made t n f i less =
    let there : drop (bytes_of t * i) (made_from t n f 0) ≡ made_from t (n - i) f (0 + i) = drop_made t n f 0 i (omega arith) in
    let one : n - i ≡ suc (n - i - 1) = omega arith in
    let start : 0 + i ≡ i = omega arith in
    rw (there, one, start) (take_at (bytes (bytes_of t) (residue t (f i))) (made_from t (n - i - 1) f (i + 1)) (bytes_of t) (length-bytes (bytes_of t) (residue t (f i))))

-- a lane of what was made is the function's value there, wrapped: all that the proof of an expansion needs of an instruction
pub lane-made : (t : LaneType) (n : ℕ) (f : ℕ → ℤ) (i : ℕ) → i < n → lane t (made t n f) i ≡ wrapped t (f i)
unfolding lane
lane-made t n f i less = rw (part-made t n f i less, number-bytes (bytes_of t) (residue t (f i)) (residue_fits t (f i))) (wrapped_residue t (f i))

-- what is made are bytes
pub made_are : (t : LaneType) (n : ℕ) (f : ℕ → ℤ) → AreBytes (bytes_of t * n) (made t n f)
made_are t n f = record { size = length-made t n f; small = bytes-made t n f }
