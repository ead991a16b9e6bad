-- Lane code whose first items are expanded: files of bytes, prices, one item more.
use Rattle.std.proofs.Common.{◌≡◌, ℕ, zero, suc, ℤ, ◌+◌, ◌*◌, ◌%◌, ◌<◌, Bool, true, false, List, [], ◌∷◌, ◌++◌, length, map, get_or, take, All, Option, Some, None, refl, sym, ap, arith, subst, ◌∙◌, ⊎_elim, length-append, w64, rules}
use mir.Val.{to_z, of_z}
use Rattle.std.proofs.lemmas.Bool.{cases_eq}
use Rattle.std.specs.Prelude.{sum, slice_get, slice_index_or, is_some, int_le, ◌&&◌, FitsSigned}
use Rattle.std.proofs.lemmas.List.{take_more}
use Rattle.std.proofs.lemmas.Int.{ints, to_z-of_z}
use Rattle.std.proofs.lemmas.Option.{slice_get_read, get_or_from_slice_get}
use Rattle.std.proofs.lemmas.List.Sums.{sum-map, sum_by-append}
use Rattle.std.proofs.lemmas.List.Elements.{All-weaker, All-head, All-tail, Contains-get_or}
use Rattle.pf_ints.specs.declared.lane.LaneType.{LaneType}
use Rattle.pf_ints.specs.declared.lane.Bits.{Bits}
use Rattle.pf_ints.specs.declared.lane.Bits.TheVariants.{Eight, Sixteen, ThirtyTwo}
use Rattle.pf_ints.specs.Meaning.Lanes.{least, greatest, IsIn}
use Rattle.pf_ints.specs.declared.target.Target.{Target}
use Rattle.pf_values.specs.Meaning.Terms.{same_type}
use Rattle.pf_values.proofs.NodeRanges.{same_type_is}
use Rattle.pf_machine.specs.declared.block.Item.{Item}
use Rattle.pf_machine.specs.declared.block.Item.TheVariants.{Vector, TapLoad, OutStore, SlotLoad, SlotStore}
use Rattle.pf_machine.specs.Meaning.Tables.{Table, IsTable}
use Rattle.pf_machine.specs.Meaning.Blocks.{Bench, item_step, items_run, IsWithin, AreTaps}
use Rattle.pf_machine.proofs.BlockLaws.{IsItem, IsLoad, IsBench, bench_after}
use Rattle.pf_laneops.specs.declared.lane_name.LaneName.{LaneName}
use Rattle.pf_laneops.specs.declared.lane_item.LaneItem.{LaneItem}
use Rattle.pf_laneops.specs.declared.lane_item.LaneItem.TheVariants.{Tap, Splat, Work}
use Rattle.pf_laneops.specs.Meaning.LaneRows.{row_type, when}
use Rattle.pf_laneops.specs.Meaning.LaneCodes.{IsCode, IsRow, row_value, stated, types_at, item_cost, item_type}
use Rattle.pf_laneops.proofs.LaneLaws.{LVal_tap, LVal_splat, LVal_work}
use Rattle.pf_blocks.specs.declared.kept.Kept.{Kept}
use Rattle.pf_blocks.specs.Meaning.Values.{Start, LeavesFile, tap_number, value_at}
use Rattle.pf_blocks.specs.Meaning.Growth.{IsOperation, IsOperationOrLoad, IsOwn, Continues}
use Rattle.pf_blocks.specs.Meaning.Expansions.{HasTaps}
use Rattle.pf_blocks.specs.Steps.KeptItems.{type_at, IsKept, AreKept}
use Rattle.pf_blocks.specs.Steps.Marks.{AreClosed}
use Rattle.pf_blocks.specs.Steps.Gathered.{IsThere}
use Rattle.pf_blocks.specs.Steps.States.{price_of, price, IsState}
use Rattle.pf_blocks.proofs.GrowthLaws.{within_more, continues_none, continues_on, continues_weaker, holds_on}
use Rattle.pf_blocks.proofs.MarkLaws.{both_first, both_second, all_before, own_item}
use Rattle.pf_blocks.proofs.GatherLaws.{pushed, type_there}

-- files of bytes

as_item : {O : Type 0} (is_op : O → Type 0) (items : List LaneItem) (item : Item O) → IsOperationOrLoad is_op items item → IsItem is_op item
as_item is_op items (Vector op) h = h
as_item is_op items (TapLoad to tap part) h = tt
as_item is_op items (OutStore from part) h = absurd h
as_item is_op items (SlotLoad to slot) h = absurd h
as_item is_op items (SlotStore from slot) h = absurd h

as_load : {O : Type 0} (is_op : O → Type 0) (items : List LaneItem) (widths : List ℕ) → HasTaps items widths → (item : Item O) → IsOperationOrLoad is_op items item → IsLoad widths item
as_load is_op items widths taps (Vector op) h = tt
as_load is_op items widths taps (TapLoad to tap part) h = let at = taps.each h.0 tap h.1 h.2 in (at.0, omega (arith, at.1, h.3))
as_load is_op items widths taps (OutStore from part) h = absurd h
as_load is_op items widths taps (SlotLoad to slot) h = absurd h
as_load is_op items widths taps (SlotStore from slot) h = absurd h

pub operation_too : {O : Type 0} (is_op : O → Type 0) (items : List LaneItem) (item : Item O) → IsOperation is_op item → IsOperationOrLoad is_op items item
operation_too is_op items (Vector op) h = h
operation_too is_op items (TapLoad to tap part) h = absurd h
operation_too is_op items (OutStore from part) h = absurd h
operation_too is_op items (SlotLoad to slot) h = absurd h
operation_too is_op items (SlotStore from slot) h = absurd h

module _ {O : Type 0} (t : Table O) (is_op : O → Type 0) (laws : IsTable t is_op) (items : List LaneItem) where
  abbrev Sound : List ℕ → ℕ → Item O → Type 0
  Sound widths many item = IsItem is_op item × IsWithin t many 0 item × IsLoad widths item

  bench_all : (widths : List ℕ) (many : ℕ) (taps : List (List ℕ)) → AreTaps t.vector widths taps → (xs : List (Item O)) (b : Bench) → All (Sound widths many) xs → IsBench t many 0 b → IsBench t many 0 (items_run t taps xs b)
  bench_all widths many taps are [] b all is = is
  bench_all widths many taps are (x ∷ xs) b all is =
      let one = All-head (Sound widths many) x xs all in
      bench_all widths many taps are xs (item_step t taps x b) (All-tail (Sound widths many) x xs all) (bench_after t is_op laws widths many 0 taps are x b one.0 one.1 one.2 is)

  pub leaves_file : (block : List (Item O)) (names room work : ℕ) → Continues t (IsOperationOrLoad is_op items) [] t.vectors block names room work → (widths : List ℕ) → HasTaps items widths → LeavesFile t widths block names
  leaves_file block names room work one widths taps = record {
    file = λ s start.
        let many = length s.bench.file.vectors in
        let sound : All (Sound widths many) one.steps =
        All-weaker (IsOwn t (IsOperationOrLoad is_op items) t.vectors names) (Sound widths many)
        (λ item own. (as_item is_op items item own.kind, within_more t names many item start.room own.within, as_load is_op items widths taps item own.kind)) one.steps one.own in
        let after = bench_all widths many s.taps start.taps one.steps s.bench sound (record { file = start.file; slots_are = start.slots }) in
        rw one.items after.file;
  }

-- prices

unfoldable price_at : LaneType → Option (LaneType × ℕ) → Option ℕ
price_at ty None = None
price_at ty (Some row) = when (same_type row.0 ty) row.1

when_some : (b : Bool) (n : ℕ) → is_some (when b n) ≡ true → (b ≡ true) × (price_of (when b n) ≡ n)
when_some true n h = (refl, refl)
when_some false n h = absurd (cc)

by_row : (ty : LaneType) (o : Option (LaneType × ℕ)) → is_some (price_at ty o) ≡ true → (cost : ℕ) × (o ≡ Some (ty, cost)) × (price_of (price_at ty o) ≡ cost)
unfolding price_at
by_row ty None h = absurd (cc)
by_row ty (Some row) h = let at = when_some (same_type row.0 ty) row.1 h in (row.1, ap (λ u. Some (u, row.1)) (same_type_is row.0 ty at.0), at.1)

pub row_there : (target : Target) (items : List LaneItem) (op : LaneName) (ty : LaneType) (k : ℕ) (args : List ℕ) → is_some (item_cost target items (Work op ty k args)) ≡ true
    → (cost : ℕ) × IsRow target op ty k (types_at items args) cost × (price target items (Work op ty k args) ≡ cost)
unfolding price_at
row_there target items op ty k args h = by_row ty (row_type target op (stated op ty) (types_at items args) k) h

-- values

pub value_tap : (items : List LaneItem) (widths : List ℕ) (n tap : ℕ) (ty : LaneType) → IsCode items → slice_get items n ≡ Some (Tap tap ty) → (s : Start) (p : ℕ) → tap_number widths s p tap ≡ value_at items widths n s p
unfolding value_at
value_tap items widths n tap ty code is s p = sym (LVal_tap items n tap ty (tap_number widths s p) code is)

pub value_splat : (items : List LaneItem) (widths : List ℕ) (n : ℕ) (m : ℤ) (ty : LaneType) → IsCode items → slice_get items n ≡ Some (Splat m ty) → (s : Start) (p : ℕ) → m ≡ value_at items widths n s p
unfolding value_at
value_splat items widths n m ty code is s p = sym (LVal_splat items n m ty (tap_number widths s p) code is)

pub value_work : (items : List LaneItem) (widths : List ℕ) (n : ℕ) (op : LaneName) (ty : LaneType) (k : ℕ) (args : List ℕ) → IsCode items → slice_get items n ≡ Some (Work op ty k args)
    → (s : Start) (p : ℕ) → row_value op ty k (map (λ a. value_at items widths a s p) args) ≡ value_at items widths n s p
unfolding value_at
value_work items widths n op ty k args code is s p = sym (LVal_work items n op ty k args (tap_number widths s p) code is)

-- one item more

front : {X : Type 0} (xs : List X) (y x : X) (n : ℕ) → slice_get xs n ≡ Some x → slice_get (xs ++ y ∷ []) n ≡ Some x
front [] y x n is = absurd (cc)
front (z ∷ xs) y x zero is = is
front (z ∷ xs) y x (suc n) is = front xs y x n is

back : {X : Type 0} (xs : List X) (y : X) (n : ℕ) → n ≡ length xs → slice_get (xs ++ y ∷ []) n ≡ Some y
back [] y n e = rw e refl
back (z ∷ xs) y zero e = absurd (omega arith)
back (z ∷ xs) y (suc n) e = back xs y n (omega arith)

price_more : (target : Target) (items xs : List LaneItem) (y : LaneItem) → sum (map (price target items) (xs ++ y ∷ [])) ≡ sum (map (price target items) xs) + price target items y
price_more target items xs y =
    let f = price target items in
    let whole = sum-map f (xs ++ y ∷ []) in
    let left = sum-map f xs in
    let parts = sum_by-append f xs (y ∷ []) in
    omega (arith, whole, left, parts)

module _ {O : Type 0} (t : Table O) (is_op : O → Type 0) (ours : List ℕ → Type 0) (items : List LaneItem) (marks : List Bool) (whole : t.vector % 4 ≡ 0) where
  kept_on : (is : Item O → Type 0) (old new : List (Item O)) (a b r c : ℕ) (kept : List (Option Kept)) → Continues t is old a new b r c → AreKept t ours items old a marks kept → AreKept t ours items new b marks kept
  kept_on is old new a b r c kept goes all = record {
    each = λ n k there.
        (let one = all.each n k there in
        record { order = one.order; holds = λ widths taps. holds_on t is widths old new a b r c (type_at items n) k (value_at items widths n) whole goes (one.holds widths taps) });
    there = all.there;
  }

  pub state_skipped : (block : List (Item O)) (names n : ℕ) (kept : List (Option Kept)) (item : LaneItem) → n < length items → item ≡ get_or items n item → slice_index_or marks n false ≡ false
      → IsState t is_op ours items marks block names kept n → IsState t is_op ours items marks block names (kept ++ None ∷ []) (n + 1)
  state_skipped block names n kept item inside is unmarked so =
      let size = length-append kept (None ∷ []) in
      let more = ap (λ xs. sum (map (price t.target items) xs)) (take_more items n item inside) ∙ price_more t.target items (take n items) (get_or items n item) in
      record {
        block_is = continues_weaker t (IsOperationOrLoad is_op items) (IsOperationOrLoad is_op items) (λ i h. h) [] block t.vectors names (64 * n) (64 * (n + 1)) _ _ (omega arith) (omega (arith, more)) so.block_is;
        kept_are = record {
          each = λ m k there. pushed kept None (Some k) m there (IsKept t ours items block names m k) (λ at lt. so.kept_are.each m k at) (λ here same. absurd (cc));
          there = λ m lt marked. none_there kept n so.kept_are.there so.count unmarked m (omega (arith, lt, size)) marked;
        };
        count = omega (arith, size, so.count);
      }
    where
      none_there : (kept : List (Option Kept)) (n : ℕ) → ((m : ℕ) → m < length kept → slice_index_or marks m false ≡ true → (k : Kept) × (slice_get kept m ≡ Some (Some k))) → length kept ≡ n → slice_index_or marks n false ≡ false
          → (m : ℕ) → m < length kept + 1 → slice_index_or marks m false ≡ true → (k : Kept) × (slice_get (kept ++ None ∷ []) m ≡ Some (Some k))
      none_there kept n old count unmarked m lt marked =
          ⊎_elim
          (λ (last : m ≡ length kept). absurd (let here : slice_index_or marks m false ≡ false = ap (λ j. slice_index_or marks j false) (last ∙ count) ∙ unmarked in cc))
          (λ (other : m ≡ length kept → ⊥). let it = old m (omega (arith, lt, other)) marked in (it.0, front kept None (Some it.0) m it.1))
          (cases_eq m (length kept))

  pub state_made : (old new : List (Item O)) (a b n : ℕ) (kept : List (Option Kept)) (k : Kept) (item : LaneItem) → n < length items → item ≡ get_or items n item
      → IsState t is_op ours items marks old a kept n → Continues t (IsOperationOrLoad is_op items) old a new b 64 (price t.target items item) → IsKept t ours items new b n k
      → IsState t is_op ours items marks new b (kept ++ Some k ∷ []) (n + 1)
  state_made old new a b n kept k item inside is so goes one =
      let size = length-append kept (Some k ∷ []) in
      let more = ap (λ xs. sum (map (price t.target items) xs)) (take_more items n item inside) ∙ price_more t.target items (take n items) (get_or items n item) in
      let dear = ap (price t.target items) is in
      let still = kept_on (IsOperationOrLoad is_op items) old new a b 64 (price t.target items item) kept goes so.kept_are in
      record {
        block_is =
            continues_weaker t (IsOperationOrLoad is_op items) (IsOperationOrLoad is_op items) (λ i h. h) [] new t.vectors b (64 * n + 64) (64 * (n + 1)) _ _ (omega arith) (omega (arith, more, dear))
            (continues_on t (IsOperationOrLoad is_op items) [] old new t.vectors a b (64 * n) 64 _ (price t.target items item) so.block_is goes);
        kept_are = record {
          each = λ m v there.
              pushed kept (Some k) (Some v) m there (IsKept t ours items new b m v) (λ at lt. still.each m v at)
              (λ here same.
              let place : n ≡ m = omega (arith, here, so.count) in
              let value : k ≡ v = cc in
              subst (λ j. IsKept t ours items new b j v) place (subst (λ u. IsKept t ours items new b n u) value one));
          there = λ m lt marked.
              ⊎_elim
              (λ (last : m ≡ length kept). (k, back kept (Some k) m last))
              (λ (other : m ≡ length kept → ⊥). let it = so.kept_are.there m (omega (arith, lt, size, other)) marked in (it.0, front kept (Some k) (Some it.0) m it.1))
              (cases_eq m (length kept));
        };
        count = omega (arith, size, so.count);
      }

-- the item at a place

pub item_there : (items : List LaneItem) (n : ℕ) (found item : LaneItem) → n < length items → found ≡ get_or items n found → found ≡ item → slice_get items n ≡ Some item
item_there items n found item inside is same = slice_get_read items (length items) n found refl inside is ∙ ap Some same

pub type_at_there : (items : List LaneItem) (n : ℕ) (item : LaneItem) → n < length items → slice_get items n ≡ Some item → item_type item ≡ type_at items n
type_at_there items n item inside is = type_there items n item inside (sym (get_or_from_slice_get items n item item is))

pub args_there : {O : Type 0} (t : Table O) (is_op : O → Type 0) (ours : List ℕ → Type 0) (items : List LaneItem) (marks : List Bool) (block : List (Item O)) (names : ℕ) (kept : List (Option Kept)) (n : ℕ) (op : LaneName) (ty : LaneType) (k : ℕ) (args : List ℕ)
    → IsCode items → AreClosed items 0 marks → IsState t is_op ours items marks block names kept n → slice_get items n ≡ Some (Work op ty k args) → slice_index_or marks n false ≡ true → All (IsThere kept) args
args_there t is_op ours items marks block names kept n op ty k args code closed so is marked i d lt =
    let before = all_before n args (own_item items n (Work op ty k args) code is) i d lt in
    so.kept_are.there (get_or args i d) (omega (arith, before, so.count)) (closed.each n (get_or args i d) (Work op ty k args) (omega arith) is marked (Contains-get_or args i d lt))

pub args_before : (items : List LaneItem) (n : ℕ) (op : LaneName) (ty : LaneType) (k : ℕ) (args : List ℕ) → IsCode items → n < length items → slice_get items n ≡ Some (Work op ty k args) → All (λ a. a < length items) args
args_before items n op ty k args code inside is i d lt =
    let before = all_before n args (own_item items n (Work op ty k args) code is) i d lt in
    omega (arith, before, inside)

-- a number of a type is one of 64 bits
in_type : (t : LaneType) (n : ℤ) → (int_le (least t) n && int_le n (greatest t)) ≡ true → IsIn t n
in_type t n h =
    let low = both_first (int_le (least t) n) (int_le n (greatest t)) h in
    let high = both_second (int_le (least t) n) (int_le n (greatest t)) h in
    record { low = omega (arith, ints, low); high = omega (arith, ints, high) }

fits_by : (signed : Bool) (bits : Bits) (n : ℤ) → IsIn (record { signed = signed; bits = bits }) n → FitsSigned w64 n
fits_by true Eight n h = let low = h.low in let high = h.high in search (rules, low, high)
fits_by true Sixteen n h = let low = h.low in let high = h.high in search (rules, low, high)
fits_by true ThirtyTwo n h = let low = h.low in let high = h.high in search (rules, low, high)
fits_by false Eight n h = let low = h.low in let high = h.high in search (rules, low, high)
fits_by false Sixteen n h = let low = h.low in let high = h.high in search (rules, low, high)
fits_by false ThirtyTwo n h = let low = h.low in let high = h.high in search (rules, low, high)

pub splat_in : (items : List LaneItem) (k : ℕ) (n : ℤ) (ty : LaneType) → IsCode items → slice_get items k ≡ Some (Splat n ty) → IsIn ty n × (to_z w64 (of_z w64 n) ≡ n)
splat_in items k n ty code is = let at = in_type ty n (own_item items k (Splat n ty) code is) in (at, to_z-of_z w64 n (fits_by ty.signed ty.bits n at))

-- none so far
pub state_none : {O : Type 0} (t : Table O) (is_op : O → Type 0) (ours : List ℕ → Type 0) (items : List LaneItem) (marks : List Bool) → IsState t is_op ours items marks [] t.vectors [] 0
state_none t is_op ours items marks = record {
  block_is = continues_none t (IsOperationOrLoad is_op items) [] t.vectors (64 * 0) (sum (map (price t.target items) (take 0 items)));
  kept_are = record { each = λ n k there. absurd (cc); there = λ n lt marked. absurd (omega (arith, lt)) };
  count = refl;
}
