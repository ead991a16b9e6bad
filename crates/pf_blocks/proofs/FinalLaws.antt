-- A block that makes the output and stores it is an expansion.
use Rattle.std.proofs.Common.{◌≡◌, ℕ, zero, suc, pos, ◌+◌, ◌*◌, ◌/◌, ◌%◌, ◌<◌, ◌≤◌, Bool, true, false, List, [], ◌∷◌, ◌++◌, length, map, take, drop, All, Option, Some, None, refl, sym, ap, arith, subst, ◌∙◌, ◌⊎◌, ⊎_elim}
use Rattle.std.specs.Prelude.{sum, slice_get, slice_index, slice_index_or, replicate, ◌||◌}
use Rattle.std.specs.List.{concat, list_any}
use Rattle.std.proofs.Math.Nat.{mul_comm, mul-add-div, mul-add-mod_self_left, div-eq_of_lt, mod-eq_of_lt}
use Rattle.std.proofs.lemmas.Nat.{column_fits}
use Rattle.std.proofs.lemmas.List.{take_all, get_or_past}
use Rattle.std.proofs.lemmas.List.Folds.{list_any-append}
use Rattle.std.proofs.lemmas.List.Elements.{All-append, All-weaker, All-head, All-tail}
use Rattle.pf_ints.specs.declared.lane.LaneType.{LaneType}
use Rattle.pf_ints.specs.declared.lane.Bits.{Bits}
use Rattle.pf_ints.specs.declared.lane.Bits.TheVariants.{Eight, Sixteen, ThirtyTwo}
use Rattle.pf_ints.specs.declared.target.Target.{Target}
use Rattle.pf_machine.specs.declared.block.Item.{Item}
use Rattle.pf_machine.specs.declared.block.Item.TheVariants.{Vector, TapLoad, OutStore, SlotLoad, SlotStore}
use Rattle.pf_machine.specs.declared.registers.RegFile.{RegFile}
use Rattle.pf_machine.specs.Meaning.Bytes.{number, bytes, AreBytes}
use Rattle.pf_machine.specs.Meaning.Tables.{Table, IsTable, IsFile}
use Rattle.pf_machine.specs.Meaning.Blocks.{Bench, item_step, items_run, BVal, IsWithin, AreTaps, AreSlots, IsClean, IsLanewise, pixel_part}
use Rattle.pf_machine.proofs.BlockLaws.{items_run-append}
use Rattle.pf_machine.proofs.ByteLaws.{number-bytes_rest}
use Rattle.pf_machine.proofs.FileLaws.{vector_are}
use Rattle.pf_lanes.specs.Meaning.Lanes.{lane, bytes_of, byte_count, residue}
use Rattle.pf_layout.specs.Meaning.Orders.{place_of}
use Rattle.pf_laneops.specs.declared.lane_item.LaneItem.{LaneItem}
use Rattle.pf_laneops.specs.Meaning.LaneCodes.{LVal, code_cost}
use Rattle.pf_blocks.specs.declared.kept.Kept.{Kept}
use Rattle.pf_blocks.specs.Meaning.Values.{Start, IsStart, held, per, Stands, Holds, tap_number, value_at}
use Rattle.pf_blocks.specs.Meaning.Growth.{cost_of, IsOperation, IsOperationOrLoad, IsOwn, Continues}
use Rattle.pf_blocks.specs.Meaning.Expansions.{HasTaps, IsStep, stores_part, numbers_in, IsExpansion}
use Rattle.pf_blocks.specs.Steps.KeptItems.{type_at}
use Rattle.pf_blocks.specs.Steps.States.{price, IsState}
use Rattle.pf_blocks.specs.Steps.Stored.{stores_of, IsStored}
use Rattle.pf_blocks.proofs.GrowthLaws.{cost-append, few_vectors, four_names, continues_on, continues_weaker}
use Rattle.pf_blocks.proofs.LoadLaws.{whole_lanes, lane_start, lane_fits, some_lanes}
use Rattle.pf_blocks.proofs.StateLaws.{operation_too, leaves_file}
use Rattle.pf_blocks.proofs.OutputLaws.{same_LVal, lane_bits, lane_bytes, same_vector, parts_of, part_at, same_parts, run_stores, stores_all}

as_step : {O : Type 0} (is_op : O → Type 0) (items : List LaneItem) (widths : List ℕ) (parts : ℕ) → HasTaps items widths → (item : Item O) → IsOperationOrLoad is_op items item → IsStep widths parts item
as_step is_op items widths parts taps (Vector op) h = tt
as_step is_op items widths parts taps (TapLoad to tap part) h = let at = taps.each h.0 tap h.1 h.2 in (at.0, omega (arith, at.1, h.3))
as_step is_op items widths parts taps (OutStore from part) h = absurd h
as_step is_op items widths parts taps (SlotLoad to slot) h = absurd h
as_step is_op items widths parts taps (SlotStore from slot) h = absurd h

or_right : (a b : Bool) → b ≡ true → (a || b) ≡ true
or_right true b h = refl
or_right false b h = h

any_stores : (O : Type 0) (b : Bits) (ns : List ℕ) (part : ℕ) → part < byte_count b → list_any (λ (item : Item O). stores_part part item) (stores_of b ns) ≡ true
any_stores O Eight ns zero lt = refl
any_stores O Eight ns (suc a) lt = absurd (let low : suc a < 1 = lt in omega (arith, low))
any_stores O Sixteen ns zero lt = refl
any_stores O Sixteen ns (suc zero) lt = refl
any_stores O Sixteen ns (suc (suc a)) lt = absurd (let low : suc (suc a) < 2 = lt in omega (arith, low))
any_stores O ThirtyTwo ns zero lt = refl
any_stores O ThirtyTwo ns (suc zero) lt = refl
any_stores O ThirtyTwo ns (suc (suc zero)) lt = refl
any_stores O ThirtyTwo ns (suc (suc (suc zero))) lt = refl
any_stores O ThirtyTwo ns (suc (suc (suc (suc a)))) lt = absurd (let low : suc (suc (suc (suc a))) < 4 = lt in omega (arith, low))

stores_cost : {O : Type 0} (t : Table O) (b : Bits) (ns : List ℕ) → cost_of t (stores_of b ns) ≡ 0
stores_cost t Eight ns = refl
stores_cost t Sixteen ns = refl
stores_cost t ThirtyTwo ns = refl

output_step : {O : Type 0} (t : Table O) (is_op : O → Type 0) (items : List LaneItem) (taps : List (List ℕ)) (x : Item O) (b : Bench) → IsOperationOrLoad is_op items x → (item_step t taps x b).output ≡ b.output
output_step t is_op items taps (Vector op) b h = refl
output_step t is_op items taps (TapLoad to tap part) b h = refl
output_step t is_op items taps (OutStore from part) b h = absurd h
output_step t is_op items taps (SlotLoad to slot) b h = absurd h
output_step t is_op items taps (SlotStore from slot) b h = absurd h

output_kept : {O : Type 0} (t : Table O) (is_op : O → Type 0) (items : List LaneItem) (taps : List (List ℕ)) (xs : List (Item O)) (b : Bench) → All (λ item. IsOperationOrLoad is_op items item) xs → (items_run t taps xs b).output ≡ b.output
output_kept t is_op items taps [] b all = refl
output_kept t is_op items taps (x ∷ xs) b all =
    output_kept t is_op items taps xs (item_step t taps x b) (All-tail (λ item. IsOperationOrLoad is_op items item) x xs all)
    ∙ output_step t is_op items taps x b (All-head (λ item. IsOperationOrLoad is_op items item) x xs all)

stands_plain : (o : Option (List ℕ)) (v j : ℕ) → ((ds : List ℕ) (p : ℕ) → o ≡ Some ds → p < v → place_of ds p ≡ p) → j < v → Stands o j j
stands_plain None v j plain lt = tt
stands_plain (Some ds) v j plain lt = sym (plain ds j refl lt)

all_code : (target : Target) (items : List LaneItem) → sum (map (price target items) items) ≡ code_cost target items
all_code target items = refl

abbrev begun : List (List ℕ) → RegFile → List (List ℕ) → ℕ → Start
begun taps f kept parts = record { taps = taps; bench = record { file = f; slots = kept; output = replicate parts [] } }

module _ {O : Type 0} (t : Table O) (is_op : O → Type 0) (laws : IsTable t is_op) (items : List LaneItem) (out : ℕ) (whole : t.vector % 4 ≡ 0) (mid : List (Item O)) (names room work : ℕ)
    (one : Continues t (IsOperationOrLoad is_op items) [] t.vectors mid names room work) (k : Kept) (plain : (ds : List ℕ) (p : ℕ) → k.order ≡ Some ds → p < t.vector → place_of ds p ≡ p)
    (kept_by : (widths : List ℕ) → HasTaps items widths → Holds t widths mid names (type_at items out) k (value_at items widths out)) where
  abbrev ty : LaneType
  ty = type_at items out

  abbrev block : List (Item O)
  block = mid ++ stores_of ty.bits k.names

  all_mid : (P : Item O → Type 0) → ((item : Item O) → IsOwn t (IsOperationOrLoad is_op items) t.vectors names item → P item) → All P mid
  all_mid P to = subst (All P) (sym one.items) (All-weaker (IsOwn t (IsOperationOrLoad is_op items) t.vectors names) P to one.steps one.own)

  final_output : (taps : List (List ℕ)) (f : RegFile) (kept : List (List ℕ)) → BVal t (bytes_of ty) block taps f kept ≡ parts_of ty.bits (λ j. held t mid (begun taps f kept (bytes_of ty)) (slice_index k.names j))
  unfolding held
  final_output taps f kept =
      let start = begun taps f kept (bytes_of ty) in
      ap (λ b. b.output) (items_run-append t taps mid (stores_of ty.bits k.names) start.bench)
      ∙ run_stores t taps ty.bits k.names (items_run t taps mid start.bench) (output_kept t is_op items taps mid start.bench (all_mid (λ item. IsOperationOrLoad is_op items item) (λ item own. own.kind)))

  module _ (widths : List ℕ) (has : HasTaps items widths) where
    holds : Holds t widths mid names ty k (value_at items widths out)
    holds = kept_by widths has

    start_is : (taps : List (List ℕ)) (f : RegFile) (kept : List (List ℕ)) (parts : ℕ) → AreTaps t.vector widths taps → IsFile t names f → AreSlots t.vector 0 kept → IsStart t widths names (begun taps f kept parts)
    start_is taps f kept parts are file slots = record { taps = are; room = omega (arith, file.count); file = subst (λ n. IsFile t n f) (sym file.count) file; slots = slots }

    held_are : (s : Start) (j : ℕ) → IsStart t widths names s → j < 4 → AreBytes t.vector (held t mid s (slice_index k.names j))
    unfolding held
    held_are s j start lt =
        let file = (leaves_file t is_op laws items mid names room work one widths has).file s start in
        vector_are t (length s.bench.file.vectors) (items_run t s.taps mid s.bench).file file (slice_index k.names j) (let low = holds.old j lt in omega (arith, low, start.room, file.count))

    pixel : (s : Start) (j : ℕ) → IsStart t widths names s → j < t.vector
        → pixel_part (bytes_of ty) j (concat (parts_of ty.bits (λ i. held t mid s (slice_index k.names i)))) ≡ bytes (bytes_of ty) (residue ty (value_at items widths out s j))
    pixel s j start lt =
        let w = bytes_of ty in
        let n = per t ty in
        let f = λ (i : ℕ). held t mid s (slice_index k.names i) in
        let few = few_vectors t ty j whole lt in
        let four = four_names ty in
        let fits = lane_fits t [] 0 ty whole j lt (some_lanes t [] 0 ty whole j lt) in
        ap (λ q. take w (drop q (concat (parts_of ty.bits f)))) (sym (lane_start t [] 0 ty whole j))
        ∙ part_at ty.bits f t.vector (j / n) (w * (j % n)) w (λ i low. (let are = held_are s i start low in are.size)) few fits
        ∙ lane_bytes ty (f (j / n)) (j % n) t.vector (held_are s (j / n) start (omega (arith, few, four))) fits
        ∙ ap (λ z. bytes w (residue ty z)) (holds.each s j j start lt lt (stands_plain k.order t.vector j plain lt))

    same_number : (taps : List (List ℕ)) (f : RegFile) (kept : List (List ℕ)) (parts : ℕ) (numbers : List ℕ) (j : ℕ) → length numbers ≡ length widths
        → ((i : ℕ) → i < length widths → pixel_part (slice_index widths i) j (slice_index_or taps i []) ≡ bytes (slice_index widths i) (slice_index numbers i))
        → (i : ℕ) → tap_number widths (begun taps f kept parts) j i ≡ pos (numbers_in widths numbers i)
    same_number taps f kept parts numbers j count are i =
        ⊎_elim
        (λ (inside : i < length widths). ap (λ bs. pos (number bs)) (are i inside) ∙ ap pos (number-bytes_rest (slice_index widths i) (slice_index numbers i)))
        (λ (past : length widths ≤ i).
        let none : slice_index widths i ≡ 0 = get_or_past widths i 0 past in
        let zero_is : slice_index numbers i ≡ 0 = get_or_past numbers i 0 (omega (arith, count, past)) in
        rw (none, zero_is) refl)
        (below_or i (length widths))
      where
        below_or : (a b : ℕ) → (a < b) ⊎ (b ≤ a)
        below_or a b = grind (arith)

    lanes : IsLanewise t widths names 0 (bytes_of ty) block (λ numbers. residue ty (LVal items out (λ i. pos (numbers_in widths numbers i))))
    unfolding value_at
    lanes = record {
      each = λ taps numbers file kept j taps_are file_is slots_are lt count numbers_are.
          (let s = begun taps file kept (bytes_of ty) in
          ap (λ ps. pixel_part (bytes_of ty) j (concat ps)) (final_output taps file kept)
          ∙ pixel s j (start_is taps file kept (bytes_of ty) taps_are file_is slots_are) lt
          ∙ ap (λ z. bytes (bytes_of ty) (residue ty z))
          (same_LVal (tap_number widths s j) (λ i. pos (numbers_in widths numbers i)) (same_number taps file kept (bytes_of ty) numbers j count numbers_are) items out));
    }

    same_value : (taps : List (List ℕ)) (f g : RegFile) (kept other : List (List ℕ)) (parts q : ℕ) → value_at items widths out (begun taps f kept parts) q ≡ value_at items widths out (begun taps g other parts) q
    unfolding value_at
    same_value taps f g kept other parts q = refl

    -- the lane of a vector is the number at its place
    lane_value : (s : Start) (j i : ℕ) → IsStart t widths names s → j < bytes_of ty → i < per t ty → lane ty (held t mid s (slice_index k.names j)) i ≡ value_at items widths out s (per t ty * j + i)
    lane_value s j i start jn lt =
        let n = per t ty in
        let some : 0 < n = omega (arith, lt) in
        let q = n * j + i in
        let all : n * bytes_of ty ≡ t.vector = whole_lanes t.vector ty.bits whole in
        let room_is = column_fits n j n (bytes_of ty) jn (omega arith) in
        let inside : q < t.vector = omega (arith, room_is, all, lt) in
        let vector : q / n ≡ j = (let none : i / n ≡ 0 = div-eq_of_lt lt in let at = mul-add-div some j i in omega (arith, at, none)) in
        let place : q % n ≡ i = mul-add-mod_self_left n j i ∙ mod-eq_of_lt lt in
        sym (ap (λ a. lane ty (held t mid s (slice_index k.names a)) (q % n)) vector ∙ ap (λ b. lane ty (held t mid s (slice_index k.names j)) b) place)
        ∙ holds.each s q q start inside inside (stands_plain k.order t.vector q plain inside)

    clean : IsClean t widths names 0 (bytes_of ty) block
    clean = record {
      within = All-append (IsWithin t names 0) mid (stores_of ty.bits k.names) (all_mid (IsWithin t names 0) (λ item own. own.within))
          (stores_all (IsWithin t names 0) ty.bits k.names (λ j lt. holds.old j (let four = four_names ty in omega (arith, lt, four))));
      same = λ taps f g kept other taps_are f_is g_is kept_are other_are.
          (let w = bytes_of ty in
          let n = per t ty in
          let s = begun taps f kept w in
          let u = begun taps g other w in
          let s_is = start_is taps f kept w taps_are f_is kept_are in
          let u_is = start_is taps g other w taps_are g_is other_are in
          let all : w * n ≡ t.vector = mul_comm w n ∙ whole_lanes t.vector ty.bits whole in
          let four = four_names ty in
          final_output taps f kept
          ∙ same_parts ty.bits (λ j. held t mid s (slice_index k.names j)) (λ j. held t mid u (slice_index k.names j))
          (λ j lt.
          let a = held t mid s (slice_index k.names j) in
          let b = held t mid u (slice_index k.names j) in
          let a_are = held_are s j s_is (omega (arith, lt, four)) in
          let b_are = held_are u j u_is (omega (arith, lt, four)) in
          same_vector w n a b (subst (λ m. AreBytes m a) (sym all) a_are) (subst (λ m. AreBytes m b) (sym all) b_are)
          (λ i low.
          let room_is = column_fits w i w n low (omega arith) in
          let fits : w * i + w ≤ t.vector = omega (arith, room_is, all) in
          lane_bits ty a i t.vector a_are fits
          ∙ ap (residue ty) (lane_value s j i s_is lt low ∙ same_value taps f g kept other w (n * j + i) ∙ sym (lane_value u j i u_is lt low))
          ∙ sym (lane_bits ty b i t.vector b_are fits)))
          ∙ sym (final_output taps g other));
    }

    steps : All (λ item. IsStep widths (bytes_of ty) item) block
    steps =
        All-append (λ item. IsStep widths (bytes_of ty) item) mid (stores_of ty.bits k.names) (all_mid (λ item. IsStep widths (bytes_of ty) item) (λ item own. as_step is_op items widths (bytes_of ty) has item own.kind))
        (stores_all (λ item. IsStep widths (bytes_of ty) item) ty.bits k.names (λ j lt. lt))

  expansion : names ≤ t.vectors + 64 * (length items + 1) → work ≤ code_cost t.target items → IsExpansion t items out block
  expansion few low = record {
    names = names;
    few = few;
    steps = steps;
    stores = λ part lt. list_any-append (λ item. stores_part part item) mid (stores_of ty.bits k.names) ∙ or_right _ _ (any_stores O ty.bits k.names part lt);
    lanes = lanes;
    clean = clean;
    cost = (let sums = cost-append t mid (stores_of ty.bits k.names) in
        let none = stores_cost t ty.bits k.names in
        let same = ap (cost_of t) one.items in
        omega (arith, sums, none, same, one.cost, low));
  }

-- the output of lane code whose items are expanded, stored
pub expanded : {O : Type 0} (t : Table O) (is_op : O → Type 0) → IsTable t is_op → t.vector % 4 ≡ 0 → (ours : List ℕ → Type 0) (items : List LaneItem) (marks : List Bool) (out : ℕ) (old : List (Item O)) (older : ℕ) (kept : List (Option Kept)) (value : Kept)
    (new : List (Item O)) → IsState t is_op ours items marks old older kept (length items) → slice_get kept out ≡ Some (Some value) → IsStored t is_op old older (type_at items out) value new → IsExpansion t items out new
expanded t is_op laws whole ours items marks out old older kept value new so there stored =
    let both = IsOperationOrLoad is_op items in
    let n = length items in
    let spent = sum (map (price t.target items) (take n items)) in
    let behind = continues_weaker t (IsOperation is_op) both (operation_too is_op items) old stored.middle older stored.names 12 12 0 0 (omega arith) (omega arith) stored.goes in
    let one = continues_on t both [] old stored.middle t.vectors older stored.names (64 * n) 12 spent 0 so.block_is behind in
    let dear : spent ≡ code_cost t.target items = ap (λ xs. sum (map (price t.target items) xs)) (take_all n items (omega arith)) ∙ all_code t.target items in
    let is = so.kept_are.each out value there in
    rw stored.stores
    (expansion t is_op laws items out whole stored.middle stored.names (64 * n + 12) (spent + 0) one stored.kept stored.plain (λ widths has. stored.holds widths (value_at items widths out) (is.holds widths has))
    (omega (arith, one.few)) (omega (arith, dear)))
