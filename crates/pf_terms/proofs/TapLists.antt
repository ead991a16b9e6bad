-- Taps, one after another, each once.
use Rattle.std.proofs.Common.{◌≡◌, refl, ap, ◌∙◌, ℕ, ◌+◌, ◌<◌, zero, suc, arith, Bool, true, false, ◌&&◌, ◌||◌, ◌==◌, ℤ, List, [], ◌∷◌, ◌++◌, length, get_or, eqb-true}
use Rattle.std.specs.Prelude.{◌≢◌, All, if◌then◌else◌, cond, not, int_le, ◌≤ℤ◌}
use Rattle.std.specs.List.{AllPairs, list_any, position_or_len}
use Rattle.std.proofs.lemmas.Bool.{eq-eqb}
use Rattle.std.proofs.lemmas.Int.{ints}
use Rattle.std.proofs.lemmas.List.Folds.{list_any-append, list_any_at}
use Rattle.std.proofs.lemmas.List.Quantifiers.{all_pairs_push}
use Rattle.pf_values.specs.declared.names.Tap.{Tap}
use Rattle.pf_values.specs.Meaning.Operators.{int_same}
use Rattle.pf_terms.specs.Meaning.Meanings.{same_tap, with_tap, with_taps}
use Rattle.pf_values.proofs.Typing.{and_left, and_right}

-- something is said of each
abbrev pub Each : {A : Type 0} → (A → Type 0) → List A → Type 0
Each P [] = Unit {0}
Each P (x ∷ xs) = P x × Each P xs

pub each_append : {A : Type 0} (P : A → Type 0) (xs ys : List A) → Each P xs → Each P ys → Each P (xs ++ ys)
each_append P [] ys h k = k
each_append P (x ∷ xs) ys h k = (h.0, each_append P xs ys h.1 k)

pub each_front : {A : Type 0} (P : A → Type 0) (xs ys : List A) → Each P (xs ++ ys) → Each P xs
each_front P [] ys h = tt
each_front P (x ∷ xs) ys h = (h.0, each_front P xs ys h.1)

pub each_behind : {A : Type 0} (P : A → Type 0) (xs ys : List A) → Each P (xs ++ ys) → Each P ys
each_behind P [] ys h = h
each_behind P (x ∷ xs) ys h = each_behind P xs ys h.1

pub all_of_each : {A : Type 0} (P : A → Type 0) (xs : List A) → Each P xs → All P xs
all_of_each P [] h k d below = absurd (omega arith)
all_of_each P (x ∷ xs) h zero d below = h.0
all_of_each P (x ∷ xs) h (suc k) d below = all_of_each P xs h.1 k d (omega arith)

pub each_of_all : {A : Type 0} (P : A → Type 0) (xs : List A) → All P xs → Each P xs
each_of_all P [] h = tt
each_of_all P (x ∷ xs) h = (h 0 x (omega arith), each_of_all P xs (λ k d below. h (suc k) d (omega arith)))

same_int : (a b : ℤ) → int_same a b ≡ true → a ≡ b
same_int a b h = both a b (and_left _ (int_le b a) h) (and_right (int_le a b) _ h) where
  at_most : (a b : ℤ) → int_le a b ≡ true → a ≤ℤ b
  at_most a b h = grind (arith, ints)

  both : (a b : ℤ) → int_le a b ≡ true → int_le b a ≡ true → a ≡ b
  both a b h k = let l = at_most a b h in let r = at_most b a k in omega (arith, ints)

int_self : (a : ℤ) → int_same a a ≡ true
int_self a = grind (arith, ints)

tap_is : (i j : ℕ) (a b c d : ℤ) → i ≡ j → a ≡ b → c ≡ d → ◌≡◌ {A = Tap} (record { image = i; dx = a; dy = c }) (record { image = j; dx = b; dy = d })
tap_is i j a b c d e f g = rw (e, f, g) refl

pub same_tap_is : (t u : Tap) → same_tap t u ≡ true → t ≡ u
same_tap_is t u h =
    let first = and_left (t.image == u.image && int_same t.dx u.dx) (int_same t.dy u.dy) h in
    tap_is t.image u.image t.dx u.dx t.dy u.dy (eqb-true t.image u.image (and_left (t.image == u.image) _ first)) (same_int t.dx u.dx (and_right (t.image == u.image) _ first))
    (same_int t.dy u.dy (and_right (t.image == u.image && int_same t.dx u.dx) _ h))

pub same_tap_self : (t : Tap) → same_tap t t ≡ true
same_tap_self t = rw (eq-eqb t.image t.image refl, int_self t.dx, int_self t.dy) refl

-- the tap is among the taps
abbrev pub IsAmong : List Tap → Tap → Type 0
IsAmong taps t = list_any (same_tap t) taps ≡ true

or_true : (b : Bool) → b || true ≡ true
or_true true = refl
or_true false = refl

kept_by : (t : Tap) (taps : List Tap) (u : Tap) (b : Bool) → IsAmong taps t → IsAmong (if b then taps else taps ++ u ∷ []) t
kept_by t taps u true h = h
kept_by t taps u false h = list_any-append (same_tap t) taps (u ∷ []) ∙ ap (λ b. b || list_any (same_tap t) (u ∷ [])) h

added_by : (t : Tap) (taps : List Tap) (b : Bool) → list_any (same_tap t) taps ≡ b → IsAmong (if b then taps else taps ++ t ∷ []) t
added_by t taps true h = h
added_by t taps false h = list_any-append (same_tap t) taps (t ∷ []) ∙ ap (λ b. list_any (same_tap t) taps || (b || false)) (same_tap_self t) ∙ or_true (list_any (same_tap t) taps)

pub among_kept : (t : Tap) (taps ts : List Tap) → IsAmong taps t → IsAmong (with_taps taps ts) t
among_kept t taps [] h = h
among_kept t taps (u ∷ ts) h = among_kept t (with_tap taps u) ts (kept_by t taps u (list_any (same_tap u) taps) h)

pub all_among : (taps ts : List Tap) → Each (IsAmong (with_taps taps ts)) ts
all_among taps [] = tt
all_among taps (t ∷ ts) = (among_kept t (with_tap taps t) ts (added_by t taps (list_any (same_tap t) taps) refl), all_among (with_tap taps t) ts)

each_with : (P : Tap → Type 0) (taps : List Tap) (t : Tap) (b : Bool) → Each P taps → P t → Each P (if b then taps else taps ++ t ∷ [])
each_with P taps t true h p = h
each_with P taps t false h p = each_append P taps (t ∷ []) h (p, tt)

pub each_with_taps : (P : Tap → Type 0) (taps ts : List Tap) → Each P taps → Each P ts → Each P (with_taps taps ts)
each_with_taps P taps [] h k = h
each_with_taps P taps (t ∷ ts) h k = each_with_taps P (with_tap taps t) ts (each_with P taps t (list_any (same_tap t) taps) h k.0) k.1

not_there : (t : Tap) (taps : List Tap) (k : ℕ) (d : Tap) → list_any (same_tap t) taps ≡ false → k < length taps → get_or taps k d ≢ t
not_there t taps k d h below e =
    let found : list_any (same_tap t) taps ≡ true = list_any_at (same_tap t) taps k d below (ap (same_tap t) e ∙ same_tap_self t) in
    absurd (cc)

distinct_with : (taps : List Tap) (t : Tap) (b : Bool) → list_any (same_tap t) taps ≡ b → AllPairs (λ t u. t ≢ u) taps → AllPairs (λ t u. t ≢ u) (if b then taps else taps ++ t ∷ [])
distinct_with taps t true h d = d
distinct_with taps t false h d = all_pairs_push (λ t u. t ≢ u) taps t d (λ k e below. not_there t taps k e h below)

pub distinct_taps : (taps ts : List Tap) → AllPairs (λ t u. t ≢ u) taps → AllPairs (λ t u. t ≢ u) (with_taps taps ts)
distinct_taps taps [] d = d
distinct_taps taps (t ∷ ts) d = distinct_taps (with_tap taps t) ts (distinct_with taps t (list_any (same_tap t) taps) refl d)

-- what passes a test stands at the place that is found
pub place_of_any : {A : Type 0} (p : A → Bool) (xs : List A) → list_any p xs ≡ true → position_or_len p xs < length xs
place_of_any p [] h = absurd (cc)
place_of_any p (x ∷ xs) h = by (p x) h (place_of_any p xs) where
  by : (b : Bool) → b || list_any p xs ≡ true → (list_any p xs ≡ true → position_or_len p xs < length xs) → cond (not b) (1 + position_or_len p xs) 0 < suc (length xs)
  by true h more = omega arith
  by false h more = let below : position_or_len p xs < length xs = more h in omega arith
