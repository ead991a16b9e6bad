-- Lane code stays lane code when an item is added.
use Rattle.std.proofs.Math.Path.{ap₂}
use Rattle.std.proofs.Common.{◌≡◌, refl, sym, ap, ◌∙◌, subst, ℕ, zero, suc, ◌+◌, ◌<◌, ◌≤◌, Bool, true, false, List, [], ◌∷◌, ◌++◌, length, map, get_or, Some, inl, inr, ⊎_elim, ◌⊎◌, zero-add, arith}
use Rattle.std.specs.Prelude.{slice_get, sum, nat_lt, is_some, ◌||◌, ◌&&◌, if◌then◌else◌}
use Rattle.std.specs.Cmp.Derive.{both_true}
use Rattle.std.specs.List.{list_any}
use Rattle.std.proofs.lemmas.Bool.{and_parts}
use Rattle.std.proofs.lemmas.List.{length-append, length-map, map-append, get_or_append_left}
use Rattle.std.proofs.lemmas.List.Sums.{sum_by-append}
use Rattle.std.proofs.lemmas.Option.{slice_get_within}
use Rattle.pf_ints.specs.declared.lane.Bits.TheVariants.{Eight}
use Rattle.pf_ints.specs.declared.target.Target.{Target}
use Rattle.pf_ints.specs.declared.target.Target.TheVariants.{Neon, Avx2, Hvx}
use Rattle.pf_values.specs.Meaning.Terms.{all_true, typed_as}
use Rattle.pf_laneops.specs.declared.lane_item.LaneItem.{LaneItem}
use Rattle.pf_laneops.specs.declared.lane_item.LaneItem.TheVariants.{Tap, Splat, Work}
use Rattle.pf_laneops.specs.Meaning.LaneRows.{row_type}
use Rattle.pf_laneops.specs.Meaning.LaneCodes.{IsCode, CanAdd, item_type, types_at, stated, item_cost, cost_at, has_row, is_own, is_item, tap_agrees, cost_or, code_cost}
use Rattle.pf_laneops.proofs.ItemLaws.{item_eq, same_item, self_item}
use Rattle.pf_laneops.proofs.LaneLaws.{map_under}
use Rattle.indexmap.specs.IndexSet.{insert_key}

at_more : {A : Type 0} (xs : List A) (x : A) (n : ℕ) (y : A) → slice_get (xs ++ x ∷ []) n ≡ Some y → (slice_get xs n ≡ Some y) ⊎ ((n ≡ length xs) × (x ≡ y))
at_more [] x zero y e = inr (omega arith, cc)
at_more [] x (suc n) y e = absurd (cc)
at_more (z ∷ xs) x zero y e = inl e
at_more (z ∷ xs) x (suc n) y e = ⊎_elim (λ p. inl p) (λ p. inr (omega (arith, p.0), p.1)) (at_more xs x n y e)

-- ---- items that come later change no type and no cost
pub types_kept : (items more : List LaneItem) (n : ℕ) (args : List ℕ) → all_true (map (λ a. nat_lt a n) args) ≡ true → n ≤ length items → types_at (items ++ more) args ≡ types_at items args
types_kept items more n args own less =
    let byte = typed_as false Eight in
    map_under (λ a. get_or (map item_type (items ++ more)) a byte) (λ a. get_or (map item_type items) a byte) n args own
    (λ a under. ap (λ ts. get_or ts a byte) (map-append item_type items more) ∙ get_or_append_left (map item_type items) (map item_type more) byte a (omega (arith, under, less, length-map items item_type)))

pub cost_kept : (target : Target) (items more : List LaneItem) (n : ℕ) (item : LaneItem) → is_own n item ≡ true → n ≤ length items → item_cost target (items ++ more) item ≡ item_cost target items item
cost_kept target items more n (Tap tap ty) own less = refl
cost_kept target items more n (Splat m ty) own less = refl
cost_kept target items more n (Work op ty k args) own less = ap (λ ts. cost_at ty (row_type target op (stated op ty) ts k)) (types_kept items more n args own less)

item_kept : (items more : List LaneItem) (n : ℕ) (item : LaneItem) → is_item items n item ≡ true → n ≤ length items → is_item (items ++ more) n item ≡ true
item_kept items more n item h less =
    let p = and_parts (is_own n item) (has_row items item) h in
    both_true p.0 (rw (cost_kept Neon items more n item p.0 less, cost_kept Avx2 items more n item p.0 less, cost_kept Hvx items more n item p.0 less) p.1)

-- what an added item costs is added
map_at : {A : Type 0} (f g : LaneItem → A) (xs : List LaneItem) → ((n : ℕ) (x : LaneItem) → slice_get xs n ≡ Some x → f x ≡ g x) → map f xs ≡ map g xs
map_at f g [] h = refl
map_at f g (x ∷ xs) h = ap₂ (λ y ys. y ∷ ys) (h zero x refl) (map_at f g xs (λ n y e. h (suc n) y e))

pub code_cost_more : (target : Target) (items : List LaneItem) (item : LaneItem) → IsCode items → is_own (length items) item ≡ true →
    code_cost target (items ++ item ∷ []) ≡ code_cost target items + cost_or (item_cost target items item)
code_cost_more target items item code own =
    let longer = items ++ item ∷ [] in
    let f : LaneItem → ℕ = λ it. cost_or (item_cost target longer it) in
    let g : LaneItem → ℕ = λ it. cost_or (item_cost target items it) in
    let same : map f items ≡ map g items = map_at f g items (λ n x e.
    let p = and_parts (is_own n x) (has_row items x) (code.each n x e) in
    let within = slice_get_within items n x e in ap cost_or (cost_kept target items (item ∷ []) n x p.0 (omega (arith, within)))) in
    let last : f item ≡ g item = ap cost_or (cost_kept target items (item ∷ []) (length items) item own (omega arith)) in
    ap sum (map-append f items (item ∷ [])) ∙ sum_by-append (λ x. x) (map f items) (f item ∷ []) ∙ ap₂ (λ x y. x + y) (ap sum same) (ap (λ c. sum (c ∷ [])) last ∙ sum_one (g item))
  where
    sum_one : (n : ℕ) → sum (n ∷ []) ≡ n
    sum_one n = zero-add n

-- ---- one item more
module _ (items : List LaneItem) (item : LaneItem) (code : IsCode items) (can : CanAdd items item) where
  abbrev longer : List LaneItem
  longer = items ++ item ∷ []

  module _ (fresh : (n : ℕ) (y : LaneItem) → slice_get items n ≡ Some y → y ≡ item → ⊥) where
    once_more : (m n : ℕ) (it : LaneItem) → m < n → slice_get longer m ≡ Some it → slice_get longer n ≡ Some it → ⊥
    once_more m n it less em en =
        ⊎_elim (λ in_n. ⊎_elim (λ in_m. code.once m n it less in_m in_n) (λ last. absurd (omega (arith, less, last.0, slice_get_within items n it in_n))) (at_more items item m it em))
        (λ is_n. ⊎_elim (λ in_m. fresh m it in_m (sym is_n.1)) (λ last. absurd (omega (arith, less, last.0, is_n.0))) (at_more items item m it em))
        (at_more items item n it en)

    each_more : (n : ℕ) (it : LaneItem) → slice_get longer n ≡ Some it → is_item longer n it ≡ true
    each_more n it e =
        ⊎_elim (λ in_n. let within = slice_get_within items n it in_n in item_kept items (item ∷ []) n it (code.each n it in_n) (omega (arith, within)))
        (λ is_n. subst (λ y. is_item longer n y ≡ true) is_n.1 (subst (λ m. is_item longer m item ≡ true) (sym is_n.0) (item_kept items (item ∷ []) (length items) item can.own (omega arith))))
        (at_more items item n it e)

    taps_more : (m n : ℕ) (a b : LaneItem) → m < n → slice_get longer m ≡ Some a → slice_get longer n ≡ Some b → tap_agrees a b ≡ true
    taps_more m n a b less em en =
        ⊎_elim (λ in_n. ⊎_elim (λ in_m. code.taps m n a b less in_m in_n) (λ last. absurd (omega (arith, less, last.0, slice_get_within items n b in_n))) (at_more items item m a em))
        (λ is_n. ⊎_elim (λ in_m. subst (λ y. tap_agrees a y ≡ true) is_n.1 (can.taps m a in_m)) (λ last. absurd (omega (arith, less, last.0, is_n.0))) (at_more items item m a em))
        (at_more items item n b en)

    code_more : IsCode longer
    code_more = record { few = let room = can.room in omega (arith, room, length-append items (item ∷ [])); once = once_more; each = each_more; taps = taps_more }

-- an item that equals none is new
is_fresh : (items : List LaneItem) (item : LaneItem) → list_any (item_eq item) items ≡ false → (n : ℕ) (y : LaneItem) → slice_get items n ≡ Some y → y ≡ item → ⊥
is_fresh [] item none n y e same = absurd (cc)
is_fresh (x ∷ xs) item none zero y e same =
    let is : x ≡ item = cc in
    let first = (or_false (item_eq item x) (list_any (item_eq item) xs) none).0 in
    absurd (cc (subst (λ z. item_eq item z ≡ false) is first, self_item item))
  where
    or_false : (a b : Bool) → (a || b) ≡ false → (a ≡ false) × (b ≡ false)
    or_false true b h = absurd (cc)
    or_false false b h = (refl, h)
is_fresh (x ∷ xs) item none (suc n) y e same = is_fresh xs item (rest (item_eq item x) (list_any (item_eq item) xs) none) n y e same
  where
    rest : (a b : Bool) → (a || b) ≡ false → b ≡ false
    rest true b h = absurd (cc)
    rest false b h = h

-- what an insertion makes of the items
by_any : (b : Bool) (items new : List LaneItem) (item : LaneItem) → new ≡ (if b then items else items ++ item ∷ []) → ((b ≡ true) × (new ≡ items)) ⊎ ((b ≡ false) × (new ≡ items ++ item ∷ []))
by_any true items new item e = inl (refl, e)
by_any false items new item e = inr (refl, e)

pub inserted : (items new : List LaneItem) (item : LaneItem) → new ≡ insert_key item_eq items item → (new ≡ items) ⊎ (new ≡ items ++ item ∷ [])
inserted items new item e = ⊎_elim (λ p. inl p.1) (λ p. inr p.1) (by_any (list_any (item_eq item) items) items new item e)

pub inserted_code : (items new : List LaneItem) (item : LaneItem) → IsCode items → CanAdd items item → new ≡ insert_key item_eq items item → IsCode new
inserted_code items new item code can e =
    ⊎_elim (λ p. subst IsCode (sym p.1) code) (λ p. subst IsCode (sym p.1) (code_more items item code can (is_fresh items item p.0)))
    (by_any (list_any (item_eq item) items) items new item e)

pub empty_code : IsCode []
empty_code = record { few = omega arith; once = λ m n item less em en. absurd (cc); each = λ n item e. absurd (cc); taps = λ m n a b less em en. absurd (cc) }
