-- Marks of items that others need.
use Rattle.std.proofs.Common.{◌≡◌, ℕ, ◌+◌, ◌<◌, ◌≤◌, Bool, true, false, List, [], ◌∷◌, map, All, Some, refl, sym, ap, arith, ◌∙◌, ⊎_elim, subst}
use Rattle.std.specs.Prelude.{nat_lt, Contains, ◌&&◌, slice_get, slice_index_or}
use Rattle.std.proofs.lemmas.Bool.{cases_eq}
use Rattle.std.proofs.lemmas.Bool.Decides.{nat_tests}
use Rattle.std.proofs.lemmas.List.Elements.{All-nil, All-cons}
use Rattle.pf_values.specs.Meaning.Terms.{all_true}
use Rattle.pf_laneops.specs.declared.lane_item.LaneItem.{LaneItem}
use Rattle.pf_laneops.specs.Meaning.LaneCodes.{IsCode, is_own, has_row}
use Rattle.pf_blocks.specs.Steps.Marks.{arguments, AreClosed}

pub both_first : (b c : Bool) → (b && c) ≡ true → b ≡ true
both_first true c h = refl
both_first false c h = h

pub both_second : (b c : Bool) → (b && c) ≡ true → c ≡ true
both_second true c h = h
both_second false c h = absurd (cc)

pub all_before : (n : ℕ) (args : List ℕ) → all_true (map (λ a. nat_lt a n) args) ≡ true → All (λ a. a < n) args
all_before n [] h = All-nil (λ a. a < n)
all_before n (a ∷ args) h =
    let test = both_first (nat_lt a n) (all_true (map (λ a. nat_lt a n) args)) h in
    All-cons (λ a. a < n) a args (grind (arith, nat_tests, test)) (all_before n args (both_second (nat_lt a n) (all_true (map (λ a. nat_lt a n) args)) h))

pub own_item : (items : List LaneItem) (n : ℕ) (item : LaneItem) → IsCode items → slice_get items n ≡ Some item → is_own n item ≡ true
own_item items n item code is = both_first (is_own n item) (has_row items item) (code.each n item is)

pub closed_unmarked : (items : List LaneItem) (n : ℕ) (marks : List Bool) → slice_index_or marks n false ≡ false → AreClosed items (n + 1) marks → AreClosed items n marks
closed_unmarked items n marks none closed = record {
  each = λ m a item le is marked arg.
      ⊎_elim
      (λ (same : m ≡ n). absurd (let here : slice_index_or marks m false ≡ false = ap (λ k. slice_index_or marks k false) same ∙ none in cc))
      (λ (other : m ≡ n → ⊥). closed.each m a item (omega arith) is marked arg)
      (cases_eq m n);
}

some_item : (items : List LaneItem) (m n : ℕ) (a b : LaneItem) → m ≡ n → slice_get items m ≡ Some a → slice_get items n ≡ Some b → a ≡ b
some_item items m n a b same one two = let e : slice_get items m ≡ slice_get items n = ap (λ k. slice_get items k) same in cc

pub closed_marked : (items : List LaneItem) (n : ℕ) (item : LaneItem) (old new : List Bool) → slice_get items n ≡ Some item
    → ((a : ℕ) → Contains (arguments item) a → slice_index_or new a false ≡ true) → ((a : ℕ) → slice_index_or old a false ≡ true → slice_index_or new a false ≡ true)
    → ((a : ℕ) → n ≤ a → slice_index_or new a false ≡ slice_index_or old a false) → AreClosed items (n + 1) old → AreClosed items n new
closed_marked items n item old new is args kept later closed = record {
  each = λ m a other le there marked arg.
      ⊎_elim
      (λ (same : m ≡ n). args a (subst (λ i. Contains (arguments i) a) (some_item items m n other item same there is) arg))
      (λ (apart : m ≡ n → ⊥). kept a (closed.each m a other (omega arith) there (sym (later m le) ∙ marked) arg))
      (cases_eq m n);
}
