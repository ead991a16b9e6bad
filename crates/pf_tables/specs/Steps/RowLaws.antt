-- What the laws of a set say of the row of an instruction.
use Rattle.std.proofs.Common.{◌≡◌, ℕ, ◌*◌, ◌/◌, ◌%◌, ◌<◌, ◌≤◌, ◌&&◌, ◌-◌, ◌^◌, Bool, true, false, refl, arith, sym, ⊎_elim}
use Rattle.std.specs.Prelude.{nat_lt, ◌==◌, ◌||◌, if◌then◌else◌, Some, None}
use Rattle.std.proofs.lemmas.Bool.{lt-ltb, ltb-true, and_parts, cases_Bool, eqb-true, eqb-false, ne_eqb}
use Rattle.std.proofs.lemmas.Nat.{mod_below}
use Rattle.pf_ints.specs.declared.lane.LaneType.{LaneType}
use Rattle.pf_ints.specs.declared.lane.Bits.{Bits}
use Rattle.pf_ints.specs.declared.lane.Bits.TheVariants.{Eight, Sixteen, ThirtyTwo}
use Rattle.pf_ints.specs.Meaning.Lanes.{bit_count}
use Rattle.pf_frames.proofs.OperandLaws.{all_below_at}
use Rattle.pf_lanes.specs.Meaning.Lanes.{byte_count}
use Rattle.pf_tables.specs.declared.row.Row.{Row}
use Rattle.pf_tables.specs.declared.row.Extent.{Extent}
use Rattle.pf_tables.specs.declared.instruction.Instruction.{Instruction}
use Rattle.pf_tables.specs.declared.instruction.Instruction.TheVariants.{Load, Store, FromConstant, Unary, Binary, Accumulate, Shift, ByConstant, JoinedByConstant, Upper, UpperShift, Blend, Choose, Compare, Pair, PairUnary, Move}
use Rattle.pf_tables.specs.Meaning.Sets.{InstructionSet, is_fixed}
use Rattle.pf_tables.specs.declared.operands.Ends.{Ends}
use Rattle.pf_tables.specs.Meaning.Instructions.{IsListed, place_of, shape_of, is_pair, has_numbers, renamed, ends_renamed}
use Rattle.pf_tables.specs.Meaning.Laws.{IsSet, is_sound_row, recipe_fits, result_bytes, made_bytes, can_move, moves_all}
use Rattle.pf_tables.specs.Meaning.Effects.{elements, lower, upper, unsigned}
use Rattle.pf_tables.specs.Steps.Kinds.{is_plain, is_half, is_double, FitsPlain, FitsHalf, FitsPair}

-- a row of the table
pub record IsSound (s : InstructionSet) (r : Row) : Type 0 where
  pub room : recipe_fits s.vector (result_bytes s.vector r.shape r.extent) r.recipe ≡ true
  pub high : recipe_fits s.vector s.vector r.high ≡ true
  pub amount : r.amount < 64
  pub most : r.most < 64

sound_row : (s : InstructionSet) (r : Row) → is_sound_row s r ≡ true → IsSound s r
sound_row s r h =
    let room = recipe_fits s.vector (result_bytes s.vector r.shape r.extent) r.recipe in
    let high = recipe_fits s.vector s.vector r.high in
    let third = and_parts (room && high && nat_lt r.amount 64) (nat_lt r.most 64) h in
    let second = and_parts (room && high) (nat_lt r.amount 64) third.0 in
    let first = and_parts room high second.0 in
    record { room = first.0; high = first.1; amount = ltb-true r.amount 64 second.1; most = ltb-true r.most 64 third.1 }

pub row_sound : (s : InstructionSet) → IsSet s → (place : ℕ) → place < s.places → IsSound s (s.row place)
row_sound s set place inside = sound_row s (s.row place) (all_below_at (λ k. is_sound_row s (s.row k)) s.places place set.sound inside)

module _ (s : InstructionSet) (set : IsSet s) where
  shaped : (i : Instruction) → IsListed s i
      → recipe_fits s.vector (result_bytes s.vector (shape_of s i) (s.row (place_of s i)).extent) (s.row (place_of s i)).recipe ≡ true
  shaped i is = let r = row_sound s set (place_of s i) is.inside in rw is.shape at r.room

  plain_bytes : (i : Instruction) (e : Extent) → is_plain i ≡ true → result_bytes s.vector (shape_of s i) e ≡ made_bytes s.vector e
  plain_bytes (FromConstant place to) e is = refl
  plain_bytes (Unary place r) e is = refl
  plain_bytes (Binary place r) e is = refl
  plain_bytes (Accumulate place r) e is = refl
  plain_bytes (Shift place r by) e is = refl
  plain_bytes (ByConstant place r) e is = refl
  plain_bytes (JoinedByConstant place r) e is = refl
  plain_bytes (Blend place r mask) e is = refl
  plain_bytes (Choose place r) e is = refl
  plain_bytes (Compare place r) e is = refl
  plain_bytes _ e is = absurd (cc)

  half_bytes : (i : Instruction) (e : Extent) → is_half i ≡ true → result_bytes s.vector (shape_of s i) e ≡ s.vector / 2
  half_bytes (Upper place r) e is = refl
  half_bytes (UpperShift place r by) e is = refl
  half_bytes (Load r) e is = absurd (cc)
  half_bytes _ e is = absurd (cc)

  double_bytes : (i : Instruction) (e : Extent) → is_double i ≡ true → result_bytes s.vector (shape_of s i) e ≡ s.vector
  double_bytes (Pair place to r) e is = refl
  double_bytes (PairUnary place to from) e is = refl
  double_bytes (Load r) e is = absurd (cc)
  double_bytes _ e is = absurd (cc)

  pub plain_fits : (i : Instruction) → IsListed s i → is_plain i ≡ true → FitsPlain s.vector (s.row (place_of s i))
  plain_fits i is plain =
      let r = row_sound s set (place_of s i) is.inside in
      record { room = rw (plain_bytes i (s.row (place_of s i)).extent plain) at (shaped i is); amount = r.amount; most = r.most }

  pub half_fits : (i : Instruction) → IsListed s i → is_half i ≡ true → FitsHalf s.vector (s.row (place_of s i))
  half_fits i is half =
      let r = row_sound s set (place_of s i) is.inside in
      record { room = rw (half_bytes i (s.row (place_of s i)).extent half) at (shaped i is); amount = r.amount; most = r.most }

  pub pair_fits : (i : Instruction) → IsListed s i → is_double i ≡ true → FitsPair s.vector (s.row (place_of s i))
  pair_fits i is double =
      let r = row_sound s set (place_of s i) is.inside in
      record { low = rw (double_bytes i (s.row (place_of s i)).extent double) at (shaped i is); high = r.high; amount = r.amount }

  pub load_listed : (to j : ℕ) → j ≤ 7 → IsListed s (Load (record { vector = to; base = 5; j = j }))
  load_listed to j h = record { inside = let some = set.some_rows in omega arith; shape = set.fixed_rows.load; numbers = lt-ltb j 8 (omega arith) }

  pub store_listed : (from j : ℕ) → j ≤ 7 → IsListed s (Store (record { vector = from; base = 5; j = j }))
  store_listed from j h = record { inside = let some = set.some_rows in omega arith; shape = set.fixed_rows.store; numbers = lt-ltb j 8 (omega arith) }

size_fits : (n : ℕ) → moves_all n ≡ true
    → (can_move n (unsigned Eight) ≡ true) × (can_move n (unsigned Sixteen) ≡ true) × (can_move n (unsigned ThirtyTwo) ≡ true)
unfolding moves_all
size_fits n h =
    let first = and_parts (can_move n (unsigned Eight)) _ h in
    let rest = and_parts (can_move n (unsigned Sixteen)) (can_move n (unsigned ThirtyTwo)) first.1 in
    (first.0, rest.0, rest.1)

-- both vectors of elements that are moved
abbrev pub BothFit : ℕ → Bool → LaneType → Type 0
BothFit n separated ty = (recipe_fits n n (lower n separated ty) ≡ true) × (recipe_fits n n (upper n separated ty) ≡ true)

both_fit : (n : ℕ) (separated : Bool) (ty : LaneType) → can_move n ty ≡ true → BothFit n separated ty
both_fit n separated ty h = by separated where
  last : Bool
  last = recipe_fits n n (upper n false ty) && recipe_fits n n (upper n true ty)

  first : (recipe_fits n n (lower n false ty) ≡ true) × ((recipe_fits n n (lower n true ty) && last) ≡ true)
  first = and_parts (recipe_fits n n (lower n false ty)) (recipe_fits n n (lower n true ty) && last) h

  second : (recipe_fits n n (lower n true ty) ≡ true) × (last ≡ true)
  second = and_parts (recipe_fits n n (lower n true ty)) last first.1

  third : (recipe_fits n n (upper n false ty) ≡ true) × (recipe_fits n n (upper n true ty) ≡ true)
  third = and_parts (recipe_fits n n (upper n false ty)) (recipe_fits n n (upper n true ty)) second.1

  by : (separated : Bool) → BothFit n separated ty
  by false = (first.0, third.0)
  by true = (second.0, third.1)

element : (n k : ℕ) (P : LaneType → Type 0) → P (unsigned Eight) → P (unsigned Sixteen) → P (unsigned ThirtyTwo) → (ty : LaneType) → Some ty ≡ elements k → P ty
element n k P one two four ty e = by (k == 2 ^ 32 - 1) (k == 2 ^ 32 - 2) (k == 2 ^ 32 - 4) e where
  by : (x y z : Bool)
      → Some ty ≡ (if x then Some (unsigned Eight) else if y then Some (unsigned Sixteen) else if z then Some (unsigned ThirtyTwo) else None) → P ty
  by true y z e = let is : unsigned Eight ≡ ty = cc in rw is at one
  by false true z e = let is : unsigned Sixteen ≡ ty = cc in rw is at two
  by false false true e = let is : unsigned ThirtyTwo ≡ ty = cc in rw is at four
  by false false false e = absurd (cc)

pub moved_fits : (s : InstructionSet) → IsSet s → (separated : Bool) (k : ℕ) (ty : LaneType) → Some ty ≡ elements k → BothFit s.vector separated ty
moved_fits s set separated k ty e =
    let t = size_fits s.vector set.moves in
    both_fit s.vector separated ty (element s.vector k (λ ty. can_move s.vector ty ≡ true) t.0 t.1 t.2 ty e)

-- a lane's bytes divide what is a multiple of four
pub whole_lanes : (n : ℕ) (b : Bits) → n % 4 ≡ 0 → n ≡ byte_count b * (n / byte_count b)
whole_lanes n Eight h = omega arith
whole_lanes n Sixteen h = omega arith
whole_lanes n ThirtyTwo h = omega arith

pub amount_below : (n : ℕ) (b : Bits) → n % bit_count b < 64
amount_below n Eight = omega (arith, mod_below n 8)
amount_below n Sixteen = omega (arith, mod_below n 16)
amount_below n ThirtyTwo = omega (arith, mod_below n 32)

-- an instruction stays one under other names

neither : (x y : Bool) → (x || y) ≡ false → (x ≡ false) × (y ≡ false)
neither true y h = absurd (cc)
neither false y h = (refl, h)

pair_stays : (s : InstructionSet) (to : Ends) (old new : ℕ) → is_pair s to ≡ true → is_pair s (ends_renamed s old new to) ≡ true
pair_stays s to old new is =
    ⊎_elim
    (λ (yes : is_fixed s old ≡ true). rw yes is)
    (λ (no : is_fixed s old ≡ false).
    let parts = and_parts s.style.packets (to.low == 30 && to.high == 31) is in
    let ends = and_parts (to.low == 30) (to.high == 31) parts.1 in
    let low : to.low ≡ 30 = eqb-true to.low 30 ends.0 in
    let high : to.high ≡ 31 = eqb-true to.high 31 ends.1 in
    let free : (old == 30 || old == 31) ≡ false = rw parts.0 at no in
    let others = neither (old == 30) (old == 31) free in
    let first : (30 == old) ≡ false = ne_eqb 30 old (λ e. eqb-false old 30 others.0 (sym e)) in
    let second : (31 == old) ≡ false = ne_eqb 31 old (λ e. eqb-false old 31 others.1 (sym e)) in
    rw (no, low, high, first, second, parts.0) refl)
    (cases_Bool (is_fixed s old))

numbers_stay : (s : InstructionSet) (i : Instruction) (old new : ℕ) → has_numbers s i ≡ true → has_numbers s (renamed s i old new) ≡ true
numbers_stay s (Pair place to r) old new is = pair_stays s to old new is
numbers_stay s (PairUnary place to from) old new is = pair_stays s to old new is
numbers_stay s (Move place to r) old new is = pair_stays s to old new is
numbers_stay s _ old new is = is

place_stays : (s : InstructionSet) (i : Instruction) (old new : ℕ) → place_of s (renamed s i old new) ≡ place_of s i
place_stays s (Load r) old new = refl
place_stays s _ old new = refl

shape_stays : (s : InstructionSet) (i : Instruction) (old new : ℕ) → shape_of s (renamed s i old new) ≡ shape_of s i
shape_stays s (Load r) old new = refl
shape_stays s _ old new = refl

pub renamed_listed : (s : InstructionSet) (i : Instruction) (old new : ℕ) → IsListed s i → IsListed s (renamed s i old new)
renamed_listed s i old new is = record {
  inside = rw (place_stays s i old new) is.inside;
  shape = rw (place_stays s i old new, shape_stays s i old new) is.shape;
  numbers = numbers_stay s i old new is.numbers;
}
