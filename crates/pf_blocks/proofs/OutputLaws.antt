-- The bytes of an output, pixel by pixel.
use Rattle.std.proofs.Common.{◌≡◌, ℕ, zero, suc, ℤ, pos, ◌+◌, ◌*◌, ◌^◌, ◌<◌, ◌≤◌, List, [], ◌∷◌, ◌++◌, length, get_or, take, drop, All, refl, sym, ap, arith, subst, ◌∙◌, length-drop, lit<}
use Rattle.std.specs.Prelude.{slice_index, slice_index_or, replicate, neg_ℤ, ◌+ℤ◌, ◌*ℤ◌}
use Rattle.std.specs.List.{concat}
use Rattle.std.proofs.lemmas.Int.{ints}
use Rattle.std.proofs.Math.Seq.{drop-append-add}
use Rattle.std.proofs.lemmas.List.{drop-append-le, take-append-le, ext_get_or}
use Rattle.std.proofs.lemmas.List.Elements.{All-head, All-tail, All-nil, All-cons, All-from_recursion}
use Rattle.pf_ints.specs.declared.lane.LaneType.{LaneType}
use Rattle.pf_ints.specs.declared.lane.Bits.{Bits}
use Rattle.pf_ints.specs.declared.lane.Bits.TheVariants.{Eight, Sixteen, ThirtyTwo}
use Rattle.pf_ints.specs.Meaning.Lanes.{wrapped, modulus, bit_count}
use Rattle.pf_ints.proofs.LaneLaws.{congruent}
use Rattle.pf_ints.proofs.Floor.{division_is}
use Rattle.pf_ints.proofs.Ring.{distribute_left}
use Rattle.pf_machine.specs.declared.block.Item.{Item}
use Rattle.pf_machine.specs.declared.block.Item.TheVariants.{OutStore}
use Rattle.pf_machine.specs.declared.registers.Reg.TheVariants.{V}
use Rattle.pf_machine.specs.Meaning.RegisterFiles.{read}
use Rattle.pf_machine.specs.Meaning.Bytes.{number, bytes, lanes, packed, AreBytes}
use Rattle.pf_machine.specs.Meaning.Tables.{Table}
use Rattle.pf_machine.specs.Meaning.Blocks.{Bench, items_run}
use Rattle.pf_machine.proofs.ByteLaws.{number_below, bytes-number, packed-lanes, length-lanes, get_or-lanes}
use Rattle.pf_machine.proofs.FileLaws.{part_are}
use Rattle.pf_lanes.specs.Meaning.Lanes.{lane, bytes_of, byte_count, residue}
use Rattle.pf_laneops.specs.declared.lane_item.LaneItem.{LaneItem}
use Rattle.pf_laneops.specs.declared.lane_item.LaneItem.TheVariants.{Tap, Splat, Work}
use Rattle.pf_laneops.specs.Meaning.LaneCodes.{LVal, item_value, values_from}
use Rattle.pf_blocks.specs.Steps.Stored.{stores_of}

-- values by other numbers that are the same

same_item : (f g : ℕ → ℤ) → ((k : ℕ) → f k ≡ g k) → (before : List ℤ) (item : LaneItem) → item_value f before item ≡ item_value g before item
same_item f g same before (Tap tap ty) = same tap
same_item f g same before (Splat n ty) = refl
same_item f g same before (Work op ty k args) = refl

same_values : (f g : ℕ → ℤ) → ((k : ℕ) → f k ≡ g k) → (before : List ℤ) (items : List LaneItem) → values_from f before items ≡ values_from g before items
same_values f g same before [] = refl
same_values f g same before (item ∷ items) =
    ap (λ v. values_from f (before ++ v ∷ []) items) (same_item f g same before item) ∙ same_values f g same (before ++ item_value g before item ∷ []) items

pub same_LVal : (f g : ℕ → ℤ) → ((k : ℕ) → f k ≡ g k) → (items : List LaneItem) (n : ℕ) → LVal items n f ≡ LVal items n g
unfolding LVal
same_LVal f g same items n = ap (λ xs. get_or xs n (pos 0)) (same_values f g same [] items)

-- a lane's bytes are those of its bits

residue_wrapped : (ty : LaneType) (m : ℕ) → m < modulus ty → residue ty (wrapped ty (pos m)) ≡ m
residue_wrapped ty m lt =
    let at = congruent ty (pos m) in
    let nothing : at.0 +ℤ neg_ℤ at.0 ≡ pos 0 = omega (arith, ints) in
    let none : (at.0 +ℤ neg_ℤ at.0) *ℤ pos (modulus ty) ≡ pos 0 *ℤ pos (modulus ty) = ap (λ z. z *ℤ pos (modulus ty)) nothing in
    let parts = distribute_left at.0 (neg_ℤ at.0) (pos (modulus ty)) in
    let zero : pos 0 *ℤ pos (modulus ty) ≡ pos 0 = omega (arith, ints) in
    (division_is (wrapped ty (pos m)) (neg_ℤ at.0) (modulus ty) m lt (omega (arith, ints, at.1, none, parts, zero))).1

modulus_bytes : (b : Bits) → 2 ^ bit_count b ≡ 256 ^ byte_count b
modulus_bytes Eight = refl
modulus_bytes Sixteen = refl
modulus_bytes ThirtyTwo = refl

pub lane_bits : (ty : LaneType) (v : List ℕ) (i n : ℕ) → AreBytes n v → bytes_of ty * i + bytes_of ty ≤ n → number (take (bytes_of ty) (drop (bytes_of ty * i) v)) ≡ residue ty (lane ty v i)
unfolding lane
lane_bits ty v i n are fits =
    let w = bytes_of ty in
    let bs = take w (drop (w * i) v) in
    let part : AreBytes w bs = part_are (w * i) w v (omega (arith, fits, are.size)) are.small in
    let low : number bs < 256 ^ w = subst (λ k. number bs < 256 ^ k) part.size (number_below bs part.small) in
    let power = modulus_bytes ty.bits in
    sym (residue_wrapped ty (number bs) (omega (arith, low, power)))

pub lane_bytes : (ty : LaneType) (v : List ℕ) (i n : ℕ) → AreBytes n v → bytes_of ty * i + bytes_of ty ≤ n → take (bytes_of ty) (drop (bytes_of ty * i) v) ≡ bytes (bytes_of ty) (residue ty (lane ty v i))
lane_bytes ty v i n are fits =
    let w = bytes_of ty in
    let bs = take w (drop (w * i) v) in
    let part : AreBytes w bs = part_are (w * i) w v (omega (arith, fits, are.size)) are.small in
    sym (bytes-number w bs part.size part.small) ∙ ap (bytes w) (lane_bits ty v i n are fits)

-- vectors of the same lanes are the same
pub same_vector : (w n : ℕ) (a b : List ℕ) → AreBytes (w * n) a → AreBytes (w * n) b → ((i : ℕ) → i < n → number (take w (drop (w * i) a)) ≡ number (take w (drop (w * i) b))) → a ≡ b
same_vector w n a b one two same =
    let left = length-lanes w n a in
    let right = length-lanes w n b in
    let all : lanes w n a ≡ lanes w n b =
    ext_get_or 0 (lanes w n a) (lanes w n b) (omega (arith, left, right)) (λ i lt. (let inside : i < n = omega (arith, lt, left) in get_or-lanes w n i a inside ∙ same i inside ∙ sym (get_or-lanes w n i b inside))) in
    sym (packed-lanes w n a one.size one.small) ∙ ap (packed w) all ∙ packed-lanes w n b two.size two.small

-- the parts of an output, one behind another

part_there : (v : ℕ) (parts : List (List ℕ)) (a i c : ℕ) → All (λ p. length p ≡ v) parts → a < length parts → i + c ≤ v
    → take c (drop (v * a + i) (concat parts)) ≡ take c (drop i (slice_index_or parts a []))
part_there v [] a i c sizes inside fits = absurd (omega arith)
part_there v (p ∷ parts) zero i c sizes inside fits =
    let size : length p ≡ v = All-head (λ q. length q ≡ v) p parts sizes in
    let start : v * 0 + i ≡ i = omega arith in
    let left = length-drop i p in
    ap (λ k. take c (drop k (p ++ concat parts))) start ∙ ap (take c) (drop-append-le i p (concat parts) (omega (arith, size, fits))) ∙ take-append-le c (drop i p) (concat parts) (omega (arith, left, size, fits))
part_there v (p ∷ parts) (suc a) i c sizes inside fits =
    let size : length p ≡ v = All-head (λ q. length q ≡ v) p parts sizes in
    let start : v * suc a + i ≡ length p + (v * a + i) = omega (arith, size) in
    ap (λ k. take c (drop k (p ++ concat parts))) start ∙ ap (take c) (drop-append-add p (concat parts) (v * a + i))
    ∙ part_there v parts a i c (All-tail (λ q. length q ≡ v) p parts sizes) (omega arith) fits

abbrev pub parts_of : Bits → (ℕ → List ℕ) → List (List ℕ)
parts_of Eight f = f 0 ∷ []
parts_of Sixteen f = f 0 ∷ f 1 ∷ []
parts_of ThirtyTwo f = f 0 ∷ f 1 ∷ f 2 ∷ f 3 ∷ []

all_parts : (b : Bits) (f : ℕ → List ℕ) (v : ℕ) → ((j : ℕ) → j < 4 → length (f j) ≡ v) → All (λ p. length p ≡ v) (parts_of b f)
all_parts Eight f v size = All-cons (λ p. length p ≡ v) (f 0) [] (size 0 (omega arith)) (All-nil (λ p. length p ≡ v))
all_parts Sixteen f v size = All-cons (λ p. length p ≡ v) (f 0) (f 1 ∷ []) (size 0 (omega arith)) (All-cons (λ p. length p ≡ v) (f 1) [] (size 1 (omega arith)) (All-nil (λ p. length p ≡ v)))
all_parts ThirtyTwo f v size =
    All-cons (λ p. length p ≡ v) (f 0) (f 1 ∷ f 2 ∷ f 3 ∷ []) (size 0 (omega arith)) (All-cons (λ p. length p ≡ v) (f 1) (f 2 ∷ f 3 ∷ []) (size 1 (omega arith))
    (All-cons (λ p. length p ≡ v) (f 2) (f 3 ∷ []) (size 2 (omega arith)) (All-cons (λ p. length p ≡ v) (f 3) [] (size 3 (omega arith)) (All-nil (λ p. length p ≡ v)))))

count_parts : (b : Bits) (f : ℕ → List ℕ) → length (parts_of b f) ≡ byte_count b
count_parts Eight f = refl
count_parts Sixteen f = refl
count_parts ThirtyTwo f = refl

part_is : (b : Bits) (f : ℕ → List ℕ) (a : ℕ) → a < byte_count b → slice_index_or (parts_of b f) a [] ≡ f a
part_is Eight f zero lt = refl
part_is Eight f (suc a) lt = absurd (let low : suc a < 1 = lt in omega (arith, low))
part_is Sixteen f zero lt = refl
part_is Sixteen f (suc zero) lt = refl
part_is Sixteen f (suc (suc a)) lt = absurd (let low : suc (suc a) < 2 = lt in omega (arith, low))
part_is ThirtyTwo f zero lt = refl
part_is ThirtyTwo f (suc zero) lt = refl
part_is ThirtyTwo f (suc (suc zero)) lt = refl
part_is ThirtyTwo f (suc (suc (suc zero))) lt = refl
part_is ThirtyTwo f (suc (suc (suc (suc a)))) lt = absurd (let low : suc (suc (suc (suc a))) < 4 = lt in omega (arith, low))

pub part_at : (b : Bits) (f : ℕ → List ℕ) (v a i c : ℕ) → ((j : ℕ) → j < 4 → length (f j) ≡ v) → a < byte_count b → i + c ≤ v → take c (drop (v * a + i) (concat (parts_of b f))) ≡ take c (drop i (f a))
part_at b f v a i c size inside fits =
    let count = count_parts b f in
    part_there v (parts_of b f) a i c (all_parts b f v size) (omega (arith, count, inside)) fits ∙ ap (λ p. take c (drop i p)) (part_is b f a inside)

pub same_parts : (b : Bits) (f g : ℕ → List ℕ) → ((j : ℕ) → j < byte_count b → f j ≡ g j) → parts_of b f ≡ parts_of b g
same_parts Eight f g same = rw (same 0 (lit< tt)) refl
same_parts Sixteen f g same = rw (same 0 (lit< tt), same 1 (lit< tt)) refl
same_parts ThirtyTwo f g same = rw (same 0 (lit< tt), same 1 (lit< tt), same 2 (lit< tt), same 3 (lit< tt)) refl

-- the stores

module _ {O : Type 0} where
  pub run_stores : (t : Table O) (taps : List (List ℕ)) (b : Bits) (ns : List ℕ) (s : Bench) → s.output ≡ replicate (byte_count b) []
      → (items_run t taps (stores_of b ns) s).output ≡ parts_of b (λ j. read s.file (V (slice_index ns j)))
  run_stores t taps Eight ns s e = rw e refl
  run_stores t taps Sixteen ns s e = rw e refl
  run_stores t taps ThirtyTwo ns s e = rw e refl

  pub stores_all : (P : Item O → Type 0) (b : Bits) (ns : List ℕ) → ((j : ℕ) → j < byte_count b → P (OutStore (slice_index ns j) j)) → All P (stores_of b ns)
  stores_all P Eight ns h = All-from_recursion P (stores_of Eight ns) (h 0 (lit< tt), tt)
  stores_all P Sixteen ns h = All-from_recursion P (stores_of Sixteen ns) (h 0 (lit< tt), (h 1 (lit< tt), tt))
  stores_all P ThirtyTwo ns h = All-from_recursion P (stores_of ThirtyTwo ns) (h 0 (lit< tt), (h 1 (lit< tt), (h 2 (lit< tt), (h 3 (lit< tt), tt))))
