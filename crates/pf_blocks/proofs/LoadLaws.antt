-- A tap's pixels in the names that its parts are loaded into.
use Rattle.std.proofs.Common.{◌≡◌, ℕ, zero, suc, pos, ◌+◌, ◌-◌, ◌*◌, ◌/◌, ◌%◌, ◌^◌, ◌<◌, ◌≤◌, Bool, true, false, List, [], ◌∷◌, ◌++◌, length, take, drop, Some, refl, sym, ap, arith, subst, ◌∙◌, ◌⊎◌, inl, inr, ⊎_elim}
use Rattle.std.specs.Prelude.{Contains, slice_index, slice_index_or}
use Rattle.std.proofs.Math.Nat.{mul_comm, mul_assoc, div-add-mod, mod-lt}
use Rattle.std.proofs.lemmas.Nat.{column_fits}
use Rattle.std.proofs.lemmas.Bool.{cases_eq}
use Rattle.std.proofs.lemmas.Int.{ints}
use Rattle.std.proofs.lemmas.List.{take-take, drop-take, drop-drop}
use Rattle.pf_ints.specs.declared.lane.LaneType.{LaneType}
use Rattle.pf_ints.specs.declared.lane.Bits.{Bits}
use Rattle.pf_ints.specs.declared.lane.Bits.TheVariants.{Eight, Sixteen, ThirtyTwo}
use Rattle.pf_ints.specs.Meaning.Images.{is_pixel, is_pixel_by}
use Rattle.pf_ints.specs.Meaning.Lanes.{IsIn, wrapped}
use Rattle.pf_ints.proofs.LaneLaws.{wrapped_same}
use Rattle.pf_machine.specs.declared.block.Item.{Item}
use Rattle.pf_machine.specs.declared.block.Item.TheVariants.{TapLoad}
use Rattle.pf_machine.specs.declared.registers.Reg.{Reg}
use Rattle.pf_machine.specs.declared.registers.Reg.TheVariants.{V}
use Rattle.pf_machine.specs.Meaning.Bytes.{number, AreBytes}
use Rattle.pf_machine.specs.Meaning.Tables.{Table}
use Rattle.pf_machine.specs.Meaning.Blocks.{AreTaps}
use Rattle.pf_machine.proofs.ByteLaws.{number_below}
use Rattle.pf_machine.proofs.FileLaws.{part_are}
use Rattle.pf_lanes.specs.Meaning.Lanes.{lane, bytes_of, byte_count}
use Rattle.pf_layout.specs.Meaning.Orders.{place_of}
use Rattle.pf_blocks.specs.Meaning.Values.{Start, held, per, at_place, Holds, tap_number}
use Rattle.pf_blocks.specs.Meaning.Growth.{Continues}
use Rattle.pf_blocks.proofs.GrowthLaws.{few_vectors, held_load, continues_one, same_held}

-- a part of a part
part_of_part : (c i v a : ℕ) (xs : List ℕ) → i + c ≤ v → take c (drop i (take v (drop a xs))) ≡ take c (drop (a + i) xs)
part_of_part c i v a xs fits =
    let split : v ≡ i + (v - i) = omega arith in
    ap (λ k. take c (drop i (take k (drop a xs)))) split ∙ ap (take c) (drop-take i (v - i) (drop a xs)) ∙ take-take c (v - i) (drop i (drop a xs)) (omega arith)
    ∙ ap (take c) (drop-drop i a xs)

in_pixel : (signed : Bool) (bits : Bits) → is_pixel_by signed bits ≡ true → (n : ℕ) → n < 256 ^ byte_count bits → IsIn (record { signed = signed; bits = bits }) (pos n)
in_pixel true bits is n lt = absurd (cc)
in_pixel false Eight is n lt = let low : n < 256 = lt in record { low = omega (arith, ints); high = omega (arith, ints, low) }
in_pixel false Sixteen is n lt = let low : n < 65536 = lt in record { low = omega (arith, ints); high = omega (arith, ints, low) }
in_pixel false ThirtyTwo is n lt = absurd (cc)

pub whole_lanes : (v : ℕ) (b : Bits) → v % 4 ≡ 0 → v / byte_count b * byte_count b ≡ v
whole_lanes v Eight h = omega arith
whole_lanes v Sixteen h = omega arith
whole_lanes v ThirtyTwo h = omega arith

pub four_of : (P : ℕ → Type 0) (a b c d : ℕ) → P a → P b → P c → P d → (j : ℕ) → j < 4 → P (slice_index (a ∷ b ∷ c ∷ d ∷ []) j)
four_of P a b c d x y z w zero lt = x
four_of P a b c d x y z w (suc zero) lt = y
four_of P a b c d x y z w (suc (suc zero)) lt = z
four_of P a b c d x y z w (suc (suc (suc zero))) lt = w
four_of P a b c d x y z w (suc (suc (suc (suc j)))) lt = absurd (omega arith)

pub contains_one : {X : Type 0} (a x : X) → Contains (a ∷ []) x → a ≡ x
contains_one a x (zero, lt, is) = is
contains_one a x (suc k, lt, is) = absurd (omega (arith, lt))

pub vector_same : (m n : ℕ) → ◌≡◌ {A = Reg} (V m) (V n) → m ≡ n
vector_same m n e = cc

module _ {O : Type 0} (t : Table O) (widths : List ℕ) (tap : ℕ) (ty : LaneType) (whole : t.vector % 4 ≡ 0) where
  -- the byte at which the lane of place q begins
  pub lane_start : (q : ℕ) → t.vector * (q / per t ty) + bytes_of ty * (q % per t ty) ≡ bytes_of ty * q
  lane_start q =
      let w = bytes_of ty in
      let n = per t ty in
      let all : n * w ≡ t.vector = whole_lanes t.vector ty.bits whole in
      let parts : q ≡ n * (q / n) + q % n = sym (div-add-mod q n) in
      let turned : t.vector * (q / n) ≡ w * (n * (q / n)) = ap (λ v. v * (q / n)) (sym all ∙ mul_comm n w) ∙ mul_assoc w n (q / n) in
      let lanes : w * q ≡ w * (n * (q / n) + q % n) = ap (λ k. w * k) parts in
      omega (arith, turned, lanes)

  pub lane_fits : (q : ℕ) → q < t.vector → 0 < per t ty → bytes_of ty * (q % per t ty) + bytes_of ty ≤ t.vector
  lane_fits q inside some =
      let w = bytes_of ty in
      let n = per t ty in
      let all : n * w ≡ t.vector = whole_lanes t.vector ty.bits whole in
      let low : q % n < n = mod-lt q some in
      let room = column_fits w (q % n) w n low (omega arith) in
      let turned : w * n ≡ n * w = mul_comm w n in
      omega (arith, room, turned, all)

  pub some_lanes : (q : ℕ) → q < t.vector → 0 < per t ty
  some_lanes q inside = elim ty.bits as (λ b. 0 < t.vector / byte_count b) [ Eight ↦ omega arith | Sixteen ↦ omega arith | ThirtyTwo ↦ omega arith ]

  tap_place : is_pixel ty ≡ true → tap < length widths → slice_index widths tap ≡ bytes_of ty → (new : List (Item O)) (s : Start) (names : List ℕ) (q : ℕ) → AreTaps t.vector widths s.taps → q < t.vector
      → held t new s (slice_index names (q / per t ty)) ≡ take t.vector (drop (t.vector * (q / per t ty)) (slice_index_or s.taps tap []))
      → at_place t new s ty names q ≡ tap_number widths s q tap
  unfolding lane
  tap_place pixel known width new s names q taps inside is =
      let w = bytes_of ty in
      let bs = slice_index_or s.taps tap [] in
      let some = some_lanes q inside in
      let part : take w (drop (w * (q % per t ty)) (take t.vector (drop (t.vector * (q / per t ty)) bs))) ≡ take w (drop (w * q) bs) =
      part_of_part w (w * (q % per t ty)) t.vector (t.vector * (q / per t ty)) bs (lane_fits q inside some) ∙ ap (λ k. take w (drop k bs)) (lane_start q) in
      let are = taps.each tap known in
      let room = column_fits w q w t.vector inside (omega arith) in
      let size : length bs ≡ w * t.vector = are.size ∙ ap (λ k. k * t.vector) width in
      let bytes : AreBytes w (take w (drop (w * q) bs)) = part_are (w * q) w bs (omega (arith, room, size)) are.small in
      let low : number (take w (drop (w * q) bs)) < 256 ^ w = subst (λ k. number (take w (drop (w * q) bs)) < 256 ^ k) bytes.size (number_below (take w (drop (w * q) bs)) bytes.small) in
      ap (λ v. wrapped ty (pos (number (take w (drop (w * (q % per t ty)) v))))) is ∙ ap (λ v. wrapped ty (pos (number v))) part
      ∙ wrapped_same ty (pos (number (take w (drop (w * q) bs)))) (in_pixel ty.signed ty.bits pixel (number (take w (drop (w * q) bs))) low)
      ∙ ap (λ k. pos (number (take k (drop (k * q) bs)))) (sym width)

  abbrev IsPlain : List ℕ → Type 0
  IsPlain ds = (p : ℕ) → p < t.vector → place_of ds p ≡ p

  pub tap_eight : is_pixel ty ≡ true → tap < length widths → slice_index widths tap ≡ bytes_of ty → (block : List (Item O)) (n : ℕ) (ds : List ℕ) → ty.bits ≡ Eight → t.vectors ≤ n → IsPlain ds
      → Holds t widths (block ++ TapLoad n tap 0 ∷ []) (n + 1) ty (record { names = n ∷ n ∷ n ∷ n ∷ []; order = Some ds }) (λ s p. tap_number widths s p tap)
  tap_eight pixel known width block n ds eight own plain = record {
    own = λ j lt. four_of (λ m. t.vectors ≤ m) n n n n own own own own j lt;
    old = λ j lt. four_of (λ m. m < n + 1) n n n n (omega arith) (omega arith) (omega arith) (omega arith) j lt;
    each = λ s p q start inside place stands.
        let room = start.room in
        let one : bytes_of ty ≡ 1 = ap byte_count eight in
        let few = few_vectors t ty q whole place in
        let first : q / per t ty ≡ 0 = omega (arith, few, one) in
        let new = block ++ TapLoad n tap 0 ∷ [] in
        let names = n ∷ n ∷ n ∷ n ∷ [] in
        let is : held t new s (slice_index names (q / per t ty)) ≡ take t.vector (drop (t.vector * (q / per t ty)) (slice_index_or s.taps tap [])) =
        subst (λ j. held t new s (slice_index names j) ≡ take t.vector (drop (t.vector * j) (slice_index_or s.taps tap []))) (sym first) (held_load t block s n tap 0 (omega (arith, room))) in
        tap_place pixel known width new s names q start.taps place is ∙ ap (λ k. tap_number widths s k tap) (stands ∙ plain p inside);
  }

  pub tap_sixteen : is_pixel ty ≡ true → tap < length widths → slice_index widths tap ≡ bytes_of ty → (block : List (Item O)) (n m : ℕ) (ds : List ℕ) → ty.bits ≡ Sixteen → m ≡ n + 1 → t.vectors ≤ n → IsPlain ds
      → Holds t widths ((block ++ TapLoad n tap 0 ∷ []) ++ TapLoad m tap 1 ∷ []) (m + 1) ty (record { names = n ∷ m ∷ n ∷ n ∷ []; order = Some ds }) (λ s p. tap_number widths s p tap)
  tap_sixteen pixel known width block n m ds sixteen next own plain = record {
    own = λ j lt. four_of (λ k. t.vectors ≤ k) n m n n own (omega arith) own own j lt;
    old = λ j lt. four_of (λ k. k < m + 1) n m n n (omega arith) (omega arith) (omega arith) (omega arith) j lt;
    each = λ s p q start inside place stands.
        let room = start.room in
        let two : bytes_of ty ≡ 2 = ap byte_count sixteen in
        let few = few_vectors t ty q whole place in
        let mid = block ++ TapLoad n tap 0 ∷ [] in
        let new = mid ++ TapLoad m tap 1 ∷ [] in
        let names = n ∷ m ∷ n ∷ n ∷ [] in
        let bs = slice_index_or s.taps tap [] in
        let goes : Continues t (λ item. Unit {0}) mid m new (m + 1) 1 0 =
        continues_one t (λ item. Unit {0}) mid (TapLoad m tap 1) m (m + 1) 1 0
        (record { kind = tt; within = omega arith; fresh = λ k mine lt c. (let same : m ≡ k = vector_same m k (contains_one (V m) (V k) c) in omega (arith, same, lt)) }) (omega arith) (omega arith) (omega arith) in
        let low : held t new s n ≡ take t.vector (drop (t.vector * 0) bs) = same_held t (λ item. Unit {0}) mid new m (m + 1) 1 0 goes s n own (omega arith) ∙ held_load t block s n tap 0 (omega (arith, room, next)) in
        let high : held t new s m ≡ take t.vector (drop (t.vector * 1) bs) = held_load t mid s m tap 1 (omega (arith, room)) in
        let is : held t new s (slice_index names (q / per t ty)) ≡ take t.vector (drop (t.vector * (q / per t ty)) bs) =
        ⊎_elim
        (λ (first : q / per t ty ≡ 0). subst (λ j. held t new s (slice_index names j) ≡ take t.vector (drop (t.vector * j) bs)) (sym first) low)
        (λ (other : q / per t ty ≡ 0 → ⊥).
        let second : q / per t ty ≡ 1 = omega (arith, few, two, other) in
        subst (λ j. held t new s (slice_index names j) ≡ take t.vector (drop (t.vector * j) bs)) (sym second) high)
        (cases_eq (q / per t ty) 0) in
        tap_place pixel known width new s names q start.taps place is ∙ ap (λ k. tap_number widths s k tap) (stands ∙ plain p inside);
  }

by_pixel : (signed : Bool) (bits : Bits) → is_pixel_by signed bits ≡ true → (bits ≡ Eight) ⊎ (bits ≡ Sixteen)
by_pixel true bits is = absurd (cc)
by_pixel false Eight is = inl refl
by_pixel false Sixteen is = inr refl
by_pixel false ThirtyTwo is = absurd (cc)

pub sixteen : (ty : LaneType) → is_pixel ty ≡ true → (ty.bits ≡ Eight → ⊥) → ty.bits ≡ Sixteen
sixteen ty pixel other = ⊎_elim (λ eight. absurd (other eight)) (λ it. it) (by_pixel ty.signed ty.bits pixel)
