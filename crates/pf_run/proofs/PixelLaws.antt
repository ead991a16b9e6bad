-- Pixels and their bytes in memory.
use Rattle.std.proofs.Common.{◌≡◌, ℕ, suc, ◌+◌, ◌*◌, ◌/◌, ◌%◌, ◌^◌, ◌<◌, ◌≤◌, List, [], ◌∷◌, ◌++◌, length, take, get_or, All, false, refl, sym, ap, ◌∙◌, arith, append_assoc}
use Rattle.std.specs.Prelude.{pos, Bool}
use Rattle.std.proofs.lemmas.Int.{ints}
use Rattle.std.proofs.lemmas.List.{take_more}
use Rattle.std.proofs.lemmas.List.Elements.{All-from_get_or, All-weaker}
use Rattle.pf_ints.specs.declared.lane.LaneType.{LaneType}
use Rattle.pf_ints.specs.declared.lane.Bits.{Bits}
use Rattle.pf_ints.specs.declared.lane.Bits.TheVariants.{Eight, Sixteen, ThirtyTwo}
use Rattle.pf_ints.specs.Meaning.Lanes.{lane_width, bit_count, IsIn}
use Rattle.pf_ints.specs.Meaning.Images.{IsPixelType, IsPicture}
use Rattle.pf_machine.specs.Meaning.Bytes.{bytes, packed}
use Rattle.pf_machine.specs.Meaning.Runs.{pixel_bytes, pixels_in_memory}
use Rattle.pf_machine.proofs.ByteLaws.{packed-append, length-packed}

-- pixels of one byte are their bytes
pub packed_one : (bs : List ℕ) → ((i : ℕ) → get_or bs i 0 < 256) → packed 1 bs ≡ bs
packed_one [] small = refl
packed_one (b ∷ bs) small =
    let first : b < 256 = small 0 in
    let same : b % 256 ≡ b = omega arith in
    rw same (ap (λ l. b ∷ l) (packed_one bs (λ i. small (suc i))))

two_bytes : (a b : ℕ) → a < 256 → b < 256 → bytes 2 (a + 256 * b) ≡ a ∷ b ∷ []
two_bytes a b p q =
    let low : (a + 256 * b) % 256 ≡ a = omega arith in
    let high : (a + 256 * b) / 256 % 256 ≡ b = omega arith in
    rw (low, high) refl

-- one pixel of two bytes more
pub pair_more : (pixels bs : List ℕ) (n a b : ℕ) → 2 * n + 1 < length bs → packed 2 pixels ≡ take (2 * n) bs → a ≡ get_or bs (2 * n) 0 → b ≡ get_or bs (2 * n + 1) 0 → a < 256 → b < 256
    → packed 2 (pixels ++ (a + 256 * b) ∷ []) ≡ take (2 * (n + 1)) bs
pair_more pixels bs n a b inside before first second p q =
    let place : 2 * (n + 1) ≡ 2 * n + 1 + 1 = omega arith in
    let last : take (2 * n + 1 + 1) bs ≡ take (2 * n + 1) bs ++ get_or bs (2 * n + 1) 0 ∷ [] = take_more bs (2 * n + 1) 0 inside in
    let other : take (2 * n + 1) bs ≡ take (2 * n) bs ++ get_or bs (2 * n) 0 ∷ [] = take_more bs (2 * n) 0 (omega arith) in
    packed-append 2 pixels ((a + 256 * b) ∷ [])
    ∙ rw (before, two_bytes a b p q, place, last, other, ← first, ← second) (sym (append_assoc (take (2 * n) bs) (a ∷ []) (b ∷ [])))

pub bytes_are_small : (bs : List ℕ) → ((i : ℕ) → get_or bs i 0 < 256) → All (λ n. n < 256) bs
bytes_are_small bs small = All-from_get_or (λ n. n < 256) bs 0 (λ i within. small i)

pub pair_small : (a b : ℕ) → a < 256 → b < 256 → a + 256 * b < 65536
pair_small a b p q = omega arith

-- as many pixels as their bytes say
same_times : (b : Bits) (m n : ℕ) → bit_count b / 8 * m ≡ bit_count b / 8 * n → m ≡ n
same_times Eight m n same = omega arith
same_times Sixteen m n same = omega arith
same_times ThirtyTwo m n same = omega arith

pub pixel_count : (ty : LaneType) (pixels bs : List ℕ) (n : ℕ) → pixels_in_memory ty pixels ≡ bs → length bs ≡ pixel_bytes ty * n → length pixels ≡ n
pixel_count ty pixels bs n same long = same_times ty.bits (length pixels) n (sym (length-packed (pixel_bytes ty) pixels) ∙ ap length same ∙ long)

in_bits : (s : Bool) (b : Bits) (n : ℕ) → s ≡ false → bit_count b ≤ 16 → n < 2 ^ bit_count b → IsIn (record { signed = s; bits = b }) (pos n)
in_bits s Eight n none low below = rw none (record { low = omega (arith, ints); high = omega (arith, ints) })
in_bits s Sixteen n none low below = rw none (record { low = omega (arith, ints); high = omega (arith, ints) })
in_bits s ThirtyTwo n none low below = absurd (omega arith)

-- the image of pixels that lie so in memory
pub picture_is : (width height : ℕ) (ty : LaneType) (pixels bs : List ℕ) → IsPixelType ty → 1 ≤ width → 1 ≤ height → width ≤ 8192 → height ≤ 8192 → width * height ≤ 16777216
    → pixels_in_memory ty pixels ≡ bs → length bs ≡ pixel_bytes ty * (width * height) → All (λ n. n < 2 ^ lane_width ty) pixels → IsPicture (record { width = width; height = height; ty = ty; pixels = pixels })
picture_is width height ty pixels bs is wide high most_wide most_high most same long small = record {
  ty = is;
  wide = wide;
  high = high;
  most_wide = most_wide;
  most_high = most_high;
  most = most;
  count = pixel_count ty pixels bs (width * height) same long;
  each = All-weaker (λ n. n < 2 ^ lane_width ty) (λ n. IsIn ty (pos n)) (λ n below. in_bits ty.signed ty.bits n is.unsigned is.narrow below) pixels small;
}
