-- Items that come later change no value, and each item has the value and the type that its kind says.
use Rattle.std.proofs.Math.Path.{ap₂}
use Rattle.std.proofs.Common.{◌≡◌, refl, sym, ap, ◌∙◌, subst, ℕ, zero, suc, ◌+◌, ◌<◌, ◌≤◌, ℤ, pos, Bool, true, false, List, [], ◌∷◌, ◌++◌, length, map, get_or, Option, Some, None, inl, inr, ⊎_elim, ◌⊎◌, arith}
use Rattle.std.specs.Prelude.{slice_get, slice_index_or, nat_lt, is_some, ◌||◌, ◌&&◌}
use Rattle.std.proofs.lemmas.Bool.{and_parts}
use Rattle.std.proofs.lemmas.Bool.Decides.{nat_tests}
use Rattle.std.proofs.lemmas.Int.{ints}
use Rattle.std.proofs.lemmas.List.{length-append, get_or_append_left, get_or-map}
use Rattle.std.proofs.Math.Seq.{get_or-append_seam}
use Rattle.std.proofs.lemmas.Option.{slice_get_past, slice_get_within, slice_get-get_or, get_or_from_slice_get}
use Rattle.pf_ints.specs.declared.lane.LaneType.{LaneType}
use Rattle.pf_ints.specs.declared.lane.Bits.TheVariants.{Eight}
use Rattle.pf_ints.specs.declared.target.Target.{Target}
use Rattle.pf_ints.specs.declared.target.Target.TheVariants.{Neon, Avx2, Hvx}
use Rattle.pf_ints.specs.Meaning.Lanes.{IsIn, is_in, least, greatest}
use Rattle.std.specs.Prelude.{int_le}
use Rattle.pf_values.specs.Meaning.Terms.{all_true, same_type, typed_as}
use Rattle.pf_values.proofs.NodeRanges.{same_type_is}
use Rattle.pf_laneops.specs.declared.lane_name.LaneName.{LaneName}
use Rattle.pf_laneops.specs.declared.lane_item.LaneItem.{LaneItem}
use Rattle.pf_laneops.specs.declared.lane_item.LaneItem.TheVariants.{Tap, Splat, Work}
use Rattle.pf_laneops.specs.Meaning.LaneRows.{row_type, when}
use Rattle.pf_laneops.specs.Meaning.LaneCodes.{LVal, IsCode, IsRow, row_value, values_at, values_from, item_value, item_type, types_at, stated, item_cost, cost_at, has_row, is_own, is_item}
use Rattle.pf_laneops.proofs.RowRanges.{AreOf, row_in}

-- arguments below n are treated alike by what agrees there
pub map_under : {A : Type 0} (f g : ℕ → A) (n : ℕ) (args : List ℕ) → all_true (map (λ a. nat_lt a n) args) ≡ true → ((a : ℕ) → a < n → f a ≡ g a) → map f args ≡ map g args
map_under f g n [] h same = refl
map_under f g n (a ∷ args) h same =
    let p = and_parts (nat_lt a n) (all_true (map (λ b. nat_lt b n) args)) h in
    ap₂ (λ x xs. x ∷ xs) (same a (grind (arith, nat_tests, p.0))) (map_under f g n args p.1 same)

-- ---- values
module _ (taps : ℕ → ℤ) where
  from_split : (before : List ℤ) (xs ys : List LaneItem) → values_from taps before (xs ++ ys) ≡ values_from taps (values_from taps before xs) ys
  from_split before [] ys = refl
  from_split before (x ∷ xs) ys = from_split (before ++ item_value taps before x ∷ []) xs ys

  from_keeps : (before : List ℤ) (xs : List LaneItem) (n : ℕ) → n < length before → get_or (values_from taps before xs) n (pos 0) ≡ get_or before n (pos 0)
  from_keeps before [] n less = refl
  from_keeps before (x ∷ xs) n less =
      let v = item_value taps before x ∷ [] in
      from_keeps (before ++ v) xs n (omega (arith, less, length-append before v)) ∙ get_or_append_left before v (pos 0) n less

  from_length : (before : List ℤ) (xs : List LaneItem) → length (values_from taps before xs) ≡ length before + length xs
  from_length before [] = omega arith
  from_length before (x ∷ xs) =
      let v = item_value taps before x ∷ [] in omega (arith, from_length (before ++ v) xs, length-append before v)

  value_kept : (all before : List ℤ) (item : LaneItem) → is_own (length before) item ≡ true → ((a : ℕ) → a < length before → get_or all a (pos 0) ≡ get_or before a (pos 0)) → item_value taps all item ≡ item_value taps before item
  value_kept all before (Tap tap ty) own same = refl
  value_kept all before (Splat n ty) own same = refl
  value_kept all before (Work op ty k args) own same = ap (row_value op ty k) (map_under (λ a. get_or all a (pos 0)) (λ a. get_or before a (pos 0)) (length before) args own same)

  at_first : (more : List LaneItem) (before : List ℤ) (x : LaneItem) → is_own (length before) x ≡ true →
      get_or (values_from taps before (x ∷ more)) (length before) (pos 0) ≡ item_value taps (values_from taps before (x ∷ more)) x
  at_first more before x own =
      let v = item_value taps before x in
      from_keeps (before ++ v ∷ []) more (length before) (omega (arith, length-append before (v ∷ []))) ∙ get_or-append_seam before v [] (pos 0) ∙
      sym (value_kept (values_from taps before (x ∷ more)) before x own (λ a less. from_keeps before (x ∷ more) a less))

  at_from : (items : List LaneItem) (before : List ℤ) (n m : ℕ) (item : LaneItem) → m ≡ length before + n → slice_get items n ≡ Some item → is_own m item ≡ true →
      get_or (values_from taps before items) m (pos 0) ≡ item_value taps (values_from taps before items) item
  at_from [] before n m item is e own = absurd (cc (e, slice_get_past {X = LaneItem} [] n (omega arith)))
  at_from (x ∷ more) before zero m item is e own =
      let first : length before ≡ m = omega (arith, is) in
      let same : x ≡ item = cc in
      subst (λ y. get_or (values_from taps before (x ∷ more)) m (pos 0) ≡ item_value taps (values_from taps before (x ∷ more)) y) same
      (subst (λ j. get_or (values_from taps before (x ∷ more)) j (pos 0) ≡ item_value taps (values_from taps before (x ∷ more)) x) first
      (at_first more before x (subst (λ j. is_own j x ≡ true) (sym first) (subst (λ y. is_own m y ≡ true) (sym same) own))))
  at_from (x ∷ more) before (suc n) m item is e own =
      let v = item_value taps before x ∷ [] in at_from more (before ++ v) n m item (omega (arith, is, length-append before v)) e own

  pub LVal_kept : (items more : List LaneItem) (n : ℕ) → n < length items → LVal (items ++ more) n taps ≡ LVal items n taps
  unfolding LVal
  LVal_kept items more n less =
      ap (λ xs. get_or xs n (pos 0)) (from_split [] items more) ∙ from_keeps (values_from taps [] items) more n (omega (arith, less, from_length [] items))

  pub LVal_item : (items : List LaneItem) (n : ℕ) (item : LaneItem) → slice_get items n ≡ Some item → is_own n item ≡ true → LVal items n taps ≡ item_value taps (values_from taps [] items) item
  unfolding LVal
  LVal_item items n item e own = at_from items [] n n item (omega arith) e own

own_of : (items : List LaneItem) (n : ℕ) (item : LaneItem) → IsCode items → slice_get items n ≡ Some item → is_own n item ≡ true
own_of items n item code e = (and_parts (is_own n item) (has_row items item) (code.each n item e)).0

pub LVal_tap : (items : List LaneItem) (n tap : ℕ) (ty : LaneType) (taps : ℕ → ℤ) → IsCode items → slice_get items n ≡ Some (Tap tap ty) → LVal items n taps ≡ taps tap
LVal_tap items n tap ty taps code e = LVal_item taps items n (Tap tap ty) e (own_of items n (Tap tap ty) code e)

pub LVal_splat : (items : List LaneItem) (n : ℕ) (m : ℤ) (ty : LaneType) (taps : ℕ → ℤ) → IsCode items → slice_get items n ≡ Some (Splat m ty) → LVal items n taps ≡ m
LVal_splat items n m ty taps code e = LVal_item taps items n (Splat m ty) e (own_of items n (Splat m ty) code e)

pub LVal_work : (items : List LaneItem) (n : ℕ) (op : LaneName) (ty : LaneType) (k : ℕ) (args : List ℕ) (taps : ℕ → ℤ) → IsCode items → slice_get items n ≡ Some (Work op ty k args) →
    LVal items n taps ≡ row_value op ty k (map (λ a. LVal items a taps) args)
unfolding LVal
LVal_work items n op ty k args taps code e = LVal_item taps items n (Work op ty k args) e (own_of items n (Work op ty k args) code e)

-- ---- rows
is_when : {A : Type 0} (b : Bool) (x : A) → is_some (when b x) ≡ true → b ≡ true
is_when true x h = refl
is_when false x h = absurd (cc)

row_at : (ty : LaneType) (o : Option (LaneType × ℕ)) → is_some (cost_at ty o) ≡ true → (cost : ℕ) × (o ≡ Some (ty, cost))
row_at ty None h = absurd (cc)
row_at ty (Some row) h = (row.1, ap (λ t. Some (t, row.1)) (same_type_is row.0 ty (is_when (same_type row.0 ty) row.1 h)))

or_parts : (a b : Bool) → (a || b) ≡ true → (a ≡ true) ⊎ (b ≡ true)
or_parts true b h = inl refl
or_parts false b h = inr h

pub row_of_item : (items : List LaneItem) (op : LaneName) (ty : LaneType) (k : ℕ) (args : List ℕ) → has_row items (Work op ty k args) ≡ true →
    (target : Target) × (cost : ℕ) × IsRow target op ty k (types_at items args) cost
row_of_item items op ty k args h =
    ⊎_elim (λ one. on Neon one) (λ more. ⊎_elim (λ one. on Avx2 one) (λ one. on Hvx one) (or_parts (there Avx2) (there Hvx) more)) (or_parts (there Neon) (there Avx2 || there Hvx) h)
  where
    there : Target → Bool
    there target = is_some (cost_at ty (row_type target op (stated op ty) (types_at items args) k))

    on : (target : Target) → is_some (cost_at ty (row_type target op (stated op ty) (types_at items args) k)) ≡ true → (t : Target) × (cost : ℕ) × IsRow t op ty k (types_at items args) cost
    on target one = let row = row_at ty (row_type target op (stated op ty) (types_at items args) k) one in (target, row.0, row.1)

-- ---- an item's value lies in its type where the taps' numbers lie in theirs
in_of : (ty : LaneType) (n : ℤ) → is_in ty n ≡ true → IsIn ty n
in_of ty n h = let p = and_parts (int_le (least ty) n) (int_le n (greatest ty)) h in record { low = omega (arith, ints, p.0); high = omega (arith, ints, p.1) }

module _ (items : List LaneItem) (code : IsCode items) (taps : ℕ → ℤ) (taps_in : (n tap : ℕ) (ty : LaneType) → slice_get items n ≡ Some (Tap tap ty) → IsIn ty (taps tap)) where
  abbrev Lies : ℕ → Type 0
  Lies n = (item : LaneItem) → slice_get items n ≡ Some item → IsIn (item_type item) (LVal items n taps)

  args_in : (n : ℕ) → n < length items → ((m : ℕ) → m < n → Lies m) → (args : List ℕ) → all_true (map (λ a. nat_lt a n) args) ≡ true → AreOf (types_at items args) (map (λ a. LVal items a taps) args)
  args_in n less below [] h = tt
  args_in n less below (a ∷ args) h =
      let p = and_parts (nat_lt a n) (all_true (map (λ b. nat_lt b n) args)) h in
      let under : a < n = grind (arith, nat_tests, p.0) in
      let d = Tap 0 (typed_as false Eight) in
      let there : a < length items = omega (arith, under, less) in
      let type : get_or (map item_type items) a (typed_as false Eight) ≡ item_type (get_or items a d) = get_or-map item_type items a d (typed_as false Eight) there in
      (subst (λ t. IsIn t (LVal items a taps)) (sym type) (below a under (get_or items a d) (slice_get-get_or items a d there)), args_in n less below args p.1)

  lies_next : (n : ℕ) → ((m : ℕ) → m < n → Lies m) → Lies n
  lies_next n below (Tap tap ty) e = subst (IsIn ty) (sym (LVal_tap items n tap ty taps code e)) (taps_in n tap ty e)
  lies_next n below (Splat m ty) e =
      subst (IsIn ty) (sym (LVal_splat items n m ty taps code e)) (in_of ty m (own_of items n (Splat m ty) code e))
  lies_next n below (Work op ty k args) e =
      let row = row_of_item items op ty k args (and_parts (is_own n (Work op ty k args)) (has_row items (Work op ty k args)) (code.each n (Work op ty k args) e)).1 in
      let inside = args_in n (slice_get_within items n (Work op ty k args) e) below args (own_of items n (Work op ty k args) code e) in
      subst (IsIn ty) (sym (LVal_work items n op ty k args taps code e)) (row_in row.0 op ty k (types_at items args) row.1 (map (λ a. LVal items a taps) args) row.2 inside)

  lies_below : (most n : ℕ) → n < most → Lies n
  lies_below zero n less = absurd (omega (arith, less))
  lies_below (suc most) n less = lies_next n (λ m under. lies_below most m (omega (arith, less, under)))

  pub LVal_in : (n : ℕ) (item : LaneItem) → slice_get items n ≡ Some item → IsIn (item_type item) (LVal items n taps)
  LVal_in n = lies_below (n + 1) n (omega arith)
