-- Positions with an inverse are an order, and what two of them make together.
use Rattle.std.proofs.Common.{◌≡◌, ◌≢◌, ℕ, zero, suc, ◌+◌, ◌*◌, ◌/◌, ◌%◌, ◌^◌, ◌<◌, ◌≤◌, List, [], ◌∷◌, length, map, get_or, take, refl, sym, ap, arith, ◌∙◌, zero-add, length-take, set, ⊎_elim}
use Rattle.std.proofs.lemmas.Bool.{cases_eq}
use Rattle.std.proofs.lemmas.Bool.Decides.{nat_tests}
use Rattle.std.proofs.Math.Nat.{div-div-eq-div-mul, one-le-pow}
use Rattle.std.proofs.Math.Arith.{mod-mul}
use Rattle.std.proofs.lemmas.List.{get_or-take, get_or-map, get_or-set_same, get_or-set_other, length-set, ext_get_or, length-map}
use Rattle.std.proofs.lemmas.List.FromFn.{length-range_with_len, get_or-range_with_len}
use Rattle.std.specs.List.{range_with_len}
use Rattle.std.proofs.lemmas.Grind.{get_or_default_zero}
use Rattle.pf_layout.specs.Meaning.Orders.{IsOrder, place_of, exchanged}
use Rattle.pf_layout.specs.Steps.Inverses.{IsInverse, transposed}
use Rattle.pf_layout.proofs.OrderLaws.{bit, next, twice, Below, Moves, moved, below, distinct, compose_place}

pub length_taken : (count : ℕ) (ds es : List ℕ) → IsInverse count ds es → length (take count ds) ≡ count
length_taken count ds es is = let size = length-take count ds in omega (arith, size, is.few, is.size)

-- no two digits go to one position
apart : (count : ℕ) (ds es : List ℕ) → IsInverse count ds es → (i j : ℕ) → i < count → j < count → get_or ds i 0 ≡ get_or ds j 0 → i ≡ j
apart count ds es is i j one other same = sym (is.back i one) ∙ ap (λ n. get_or es n 0) same ∙ is.back j other

-- any default
entry : (count : ℕ) (ds es : List ℕ) → IsInverse count ds es → (i d : ℕ) → i < count → get_or (take count ds) i d ≡ get_or ds i 0
entry count ds es is i d lt = get_or-take count ds i d lt ∙ get_or_default_zero ds i d (omega (arith, lt, is.few, is.size))

pub is_order : (count : ℕ) (ds es : List ℕ) → IsInverse count ds es → IsOrder (take count ds)
is_order count ds es is =
    let size = length_taken count ds es is in
    record {
      few = omega (arith, size, is.few);
      below = λ i d lt. (let at = entry count ds es is i d (omega (arith, size, lt)) in let low = is.below i (omega (arith, size, lt)) in omega (arith, size, at, low));
      distinct = λ i j d lt inside same.
          let one = entry count ds es is i d (omega (arith, size, lt, inside)) in
          let other = entry count ds es is j d (omega (arith, size, inside)) in
          let here : i ≡ j = apart count ds es is i j (omega (arith, size, lt, inside)) (omega (arith, size, inside)) (sym one ∙ same ∙ other) in
          absurd (omega (arith, lt, here));
    }

-- digits of the weights e and 2e, one digit further
exchanged_next : (e q : ℕ) → 0 < e → exchanged (2 * e) q ≡ q % 2 + 2 * exchanged e (q / 2)
exchanged_next e q some =
    let whole : q / 2 / (4 * e) ≡ q / (4 * (2 * e)) = (let same : 2 * (4 * e) ≡ 4 * (2 * e) = omega arith in div-div-eq-div-mul q 2 (4 * e) ∙ ap (λ m. q / m) same) in
    let high : q / 2 / e ≡ q / (2 * e) = div-div-eq-div-mul q 2 e in
    let low : q / 2 / (2 * e) ≡ q / (2 * (2 * e)) = div-div-eq-div-mul q 2 (2 * e) in
    let rest : q % (2 * e) ≡ q / 2 % e * 2 + q % 2 = (let same : 2 * e ≡ e * 2 = omega arith in ap (λ m. q % m) same ∙ mod-mul q some (omega arith)) in
    rw (whole, high, low, rest) (omega arith)

transposed_next : (i d : ℕ) → transposed (suc i) (suc d) ≡ suc (transposed i d)
transposed_next i d = grind (arith, nat_tests)

transposed_far : (d : ℕ) → transposed 0 (suc (suc d)) ≡ suc (suc d)
transposed_far d = grind (arith, nat_tests)

one_exchanged : (i d b n : ℕ) → b < 2 → bit d n ≡ 0 → exchanged (2 ^ i) (b * 2 ^ d + n) ≡ b * 2 ^ transposed i d + exchanged (2 ^ i) n
one_exchanged zero zero b n small none = omega arith
one_exchanged zero (suc zero) b n small none = omega arith
one_exchanged zero (suc (suc d)) b n small none =
    let four : 2 ^ suc (suc d) ≡ 4 * 2 ^ d = (let one = twice (suc d) in let other = twice d in omega (arith, one, other)) in
    rw (transposed_far d, four) (omega arith)
one_exchanged (suc i) zero b n small none =
    let some : 0 < 2 ^ i = one-le-pow i 2 (omega arith) in
    let power = twice i in
    let left = exchanged_next (2 ^ i) (b * 2 ^ 0 + n) some in
    let right = exchanged_next (2 ^ i) n some in
    let digit : (b * 2 ^ 0 + n) % 2 ≡ b = omega arith in
    let half : (b * 2 ^ 0 + n) / 2 ≡ n / 2 = omega arith in
    let low : transposed (suc i) 0 ≡ 0 = grind (arith, nat_tests) in
    rw (power, left, right, digit, half, none, low) (omega arith)
one_exchanged (suc i) (suc d) b n small none =
    let some : 0 < 2 ^ i = one-le-pow i 2 (omega arith) in
    let power = twice i in
    let left = exchanged_next (2 ^ i) (b * 2 ^ suc d + n) some in
    let right = exchanged_next (2 ^ i) n some in
    let step = next d b n in
    let rest = one_exchanged i d b (n / 2) small none in
    let up : 2 ^ transposed (suc i) (suc d) ≡ 2 * 2 ^ transposed i d = ap (λ m. 2 ^ m) (transposed_next i d) ∙ twice (transposed i d) in
    rw (power, left, right, step.0, step.1, rest, up) (omega arith)

pub transposed_moves : (m i : ℕ) → Moves m (λ q. exchanged (2 ^ i) q) (transposed i)
transposed_moves m i = record { none = nothing i; one = λ d b n inside small none. one_exchanged i d b n small none }
  where
    nothing : (i : ℕ) → exchanged (2 ^ i) 0 ≡ 0
    nothing zero = refl
    nothing (suc i) =
        let some : 0 < 2 ^ i = one-le-pow i 2 (omega arith) in
        let power = twice i in
        let step = exchanged_next (2 ^ i) 0 some in
        let rest = nothing i in
        rw (power, step) (omega (arith, rest))

-- the list that an order is seen as
pub view_order : (count : ℕ) (ds es ls : List ℕ) → IsInverse count ds es → take count ds ≡ ls → IsOrder ls
view_order count ds es ls is same = rw (← same) (is_order count ds es is)

pub view_count : (count : ℕ) (ds es ls : List ℕ) → IsInverse count ds es → take count ds ≡ ls → count ≡ length ls
view_count count ds es ls is same = sym (length_taken count ds es is) ∙ ap length same

pub flipped : (count : ℕ) (ds es : List ℕ) → IsInverse count ds es → IsInverse count es ds
flipped count ds es is = record { few = is.few; size = is.other_size; other_size = is.size; below = is.other_below; other_below = is.below; back = is.forth; forth = is.back }

-- f and g read a through c, and d through b
pub record Reads (n : ℕ) (a b c d f g : List ℕ) : Type 0 where
  pub size : length f ≡ 7
  pub other_size : length g ≡ 7
  pub first : (i : ℕ) → i < n → get_or f i 0 ≡ get_or c (get_or a i 0) 0
  pub second : (i : ℕ) → i < n → get_or g i 0 ≡ get_or b (get_or d i 0) 0

pub composed : (n : ℕ) (a b c d f g : List ℕ) → IsInverse n a b → IsInverse n c d → Reads n a b c d f g → IsInverse n f g
composed n a b c d f g one two reads = record {
  few = one.few;
  size = reads.size;
  other_size = reads.other_size;
  below = λ i lt. subst_below (reads.first i lt) (two.below (get_or a i 0) (one.below i lt));
  other_below = λ i lt. subst_below (reads.second i lt) (one.other_below (get_or d i 0) (two.other_below i lt));
  back = λ i lt.
      (let inside = two.below (get_or a i 0) (one.below i lt) in
      ap (λ k. get_or g k 0) (reads.first i lt) ∙ reads.second (get_or c (get_or a i 0) 0) inside ∙ ap (λ k. get_or b k 0) (two.back (get_or a i 0) (one.below i lt)) ∙ one.back i lt);
  forth = λ i lt.
      (let inside = one.other_below (get_or d i 0) (two.other_below i lt) in
      ap (λ k. get_or f k 0) (reads.second i lt) ∙ reads.first (get_or b (get_or d i 0) 0) inside ∙ ap (λ k. get_or c k 0) (one.forth (get_or d i 0) (two.other_below i lt)) ∙ two.forth i lt);
}
  where
    subst_below : {x y m : ℕ} → x ≡ y → y < m → x < m
    subst_below e lt = omega (arith, e, lt)

pub composed_list : (n : ℕ) (a b c d f g : List ℕ) → IsInverse n a b → IsInverse n c d → Reads n a b c d f g → take n f ≡ map (λ x. get_or (take n c) x 0) (take n a)
composed_list n a b c d f g one two reads =
    let left : length (take n f) ≡ n = length_taken n f g (composed n a b c d f g one two reads) in
    let right = length_taken n a b one in
    let mapped = length-map (take n a) (λ x. get_or (take n c) x 0) in
    ext_get_or 0 (take n f) (map (λ x. get_or (take n c) x 0) (take n a)) (omega (arith, left, right, mapped))
    (λ i inside.
    let lt : i < n = omega (arith, inside, left) in
    let within : i < length (take n a) = omega (arith, lt, right) in
    get_or-take n f i 0 lt ∙ reads.first i lt
    ∙ sym (get_or-map (λ x. get_or (take n c) x 0) (take n a) i 0 0 within ∙ ap (λ k. get_or (take n c) k 0) (get_or-take n a i 0 lt) ∙ get_or-take n c (get_or a i 0) 0 (one.below i lt)))

-- what leads from one order to another
pub repaired_list : (n : ℕ) (a b c d f g : List ℕ) → IsInverse n a b → IsInverse n c d → Reads n b a c d f g → map (λ x. get_or (take n f) x 0) (take n a) ≡ take n c
repaired_list n a b c d f g one two reads =
    let left = length_taken n a b one in
    let right = length_taken n c d two in
    let mapped = length-map (take n a) (λ x. get_or (take n f) x 0) in
    ext_get_or 0 (map (λ x. get_or (take n f) x 0) (take n a)) (take n c) (omega (arith, left, right, mapped))
    (λ i inside.
    let lt : i < n = omega (arith, inside, left, mapped) in
    let within : i < length (take n a) = omega (arith, lt, left) in
    get_or-map (λ x. get_or (take n f) x 0) (take n a) i 0 0 within ∙ ap (λ k. get_or (take n f) k 0) (get_or-take n a i 0 lt) ∙ get_or-take n f (get_or a i 0) 0 (one.below i lt)
    ∙ reads.first (get_or a i 0) (one.below i lt) ∙ ap (λ k. get_or c k 0) (one.back i lt) ∙ sym (get_or-take n c i 0 lt))

pub repaired_place : (n : ℕ) (a b c d f g from to r : List ℕ) → IsInverse n a b → IsInverse n c d → Reads n b a c d f g → take n a ≡ from → take n c ≡ to → take n f ≡ r
    → (p : ℕ) → place_of r (place_of from p) ≡ place_of to p
repaired_place n a b c d f g from to r one two reads from_is to_is r_is p =
    let whole = composed n b a c d f g (flipped n a b one) two reads in
    let count : length (take n f) ≡ length (take n a) = length_taken n f g whole ∙ sym (length_taken n a b one) in
    rw (← from_is, ← to_is, ← r_is)
    (sym (compose_place (take n f) (take n a) (is_order n a b one) count p) ∙ ap (λ ds. place_of ds p) (repaired_list n a b c d f g one two reads))

-- the plain order
abbrev pub seven : List ℕ
seven = 0 ∷ 1 ∷ 2 ∷ 3 ∷ 4 ∷ 5 ∷ 6 ∷ []

pub itself : (i : ℕ) → i < 7 → get_or seven i 0 ≡ i
itself zero lt = refl
itself (suc zero) lt = refl
itself (suc (suc zero)) lt = refl
itself (suc (suc (suc zero))) lt = refl
itself (suc (suc (suc (suc zero)))) lt = refl
itself (suc (suc (suc (suc (suc zero))))) lt = refl
itself (suc (suc (suc (suc (suc (suc zero)))))) lt = refl
itself (suc (suc (suc (suc (suc (suc (suc i))))))) lt = absurd (omega arith)

pub plain_inverse : (n : ℕ) → n ≤ 7 → IsInverse n seven seven
plain_inverse n few = record {
  few = few;
  size = refl;
  other_size = refl;
  below = λ i lt. (let at = itself i (omega (arith, lt, few)) in omega (arith, at, lt));
  other_below = λ i lt. (let at = itself i (omega (arith, lt, few)) in omega (arith, at, lt));
  back = λ i lt. (let at = itself i (omega (arith, lt, few)) in ap (λ k. get_or seven k 0) at ∙ at);
  forth = λ i lt. (let at = itself i (omega (arith, lt, few)) in ap (λ k. get_or seven k 0) at ∙ at);
}

pub plain_list : (n : ℕ) → n ≤ 7 → take n seven ≡ range_with_len 0 n
plain_list n few =
    let left = length_taken n seven seven (plain_inverse n few) in
    let right = length-range_with_len 0 n in
    ext_get_or 0 (take n seven) (range_with_len 0 n) (omega (arith, left, right))
    (λ i inside. (let lt : i < n = omega (arith, inside, left) in get_or-take n seven i 0 lt ∙ itself i (omega (arith, lt, few)) ∙ sym (get_or-range_with_len 0 n i 0 lt ∙ zero-add i)))

-- two digits that change places
abbrev pub crossed : ℕ → List ℕ
crossed i = set (set seven i (i + 1)) (i + 1) i

crossed_at : (i d : ℕ) → i + 1 < 7 → d < 7 → get_or (crossed i) d 0 ≡ transposed i d
crossed_at i d room lt =
    ⊎_elim
    (λ (upper : d ≡ i + 1). rw upper (get_or-set_same (set seven i (i + 1)) (i + 1) i 0 (omega (arith, length-set seven i (i + 1), room)) ∙ grind (arith, nat_tests)))
    (λ (other : d ≢ i + 1).
    get_or-set_other (set seven i (i + 1)) (i + 1) d i 0 other
    ∙ ⊎_elim
    (λ (lower : d ≡ i). rw lower (get_or-set_same seven i (i + 1) 0 (omega arith) ∙ grind (arith, nat_tests)))
    (λ (far : d ≢ i). get_or-set_other seven i d (i + 1) 0 far ∙ itself d lt ∙ grind (arith, nat_tests))
    (cases_eq d i))
    (cases_eq d (i + 1))

turned_back : (i d : ℕ) → transposed i (transposed i d) ≡ d
turned_back i d = grind (arith, nat_tests)

turned_below : (i d n : ℕ) → i + 1 < n → d < n → transposed i d < n
turned_below i d n room lt = grind (arith, nat_tests)

pub crossed_inverse : (i n : ℕ) → i + 1 < n → n ≤ 7 → IsInverse n (crossed i) (crossed i)
crossed_inverse i n room few =
    let size : length (crossed i) ≡ 7 = length-set (set seven i (i + 1)) (i + 1) i ∙ length-set seven i (i + 1) in
    let at : (d : ℕ) → d < n → get_or (crossed i) d 0 ≡ transposed i d = λ d lt. crossed_at i d (omega (arith, room, few)) (omega (arith, lt, few)) in
    let inside : (d : ℕ) → d < n → get_or (crossed i) d 0 < n = λ d lt. (let is = at d lt in let low = turned_below i d n room lt in omega (arith, is, low)) in
    let again : (d : ℕ) → d < n → get_or (crossed i) (get_or (crossed i) d 0) 0 ≡ d = λ d lt. ap (λ k. get_or (crossed i) k 0) (at d lt) ∙ at (transposed i d) (turned_below i d n room lt) ∙ turned_back i d in
    record { few = few; size = size; other_size = size; below = inside; other_below = inside; back = again; forth = again }

pub crossed_view : (i n : ℕ) → i + 1 < n → n ≤ 7 → (d : ℕ) → d < n → get_or (take n (crossed i)) d 0 ≡ transposed i d
crossed_view i n room few d lt = get_or-take n (crossed i) d 0 lt ∙ crossed_at i d (omega (arith, room, few)) (omega (arith, lt, few))

same_map : (f g : ℕ → ℕ) (m : ℕ) (ds : List ℕ) → Below m ds → ((d : ℕ) → d < m → f d ≡ g d) → map f ds ≡ map g ds
same_map f g m [] inside same = refl
same_map f g m (d ∷ ds) inside same = rw (same d inside.0, same_map f g m ds inside.1 same) refl

pub swapped_place : (i : ℕ) (tr ds : List ℕ) → IsOrder ds → ((d : ℕ) → d < length ds → get_or tr d 0 ≡ transposed i d) → (p : ℕ)
    → place_of (map (λ d. get_or tr d 0) ds) p ≡ exchanged (2 ^ i) (place_of ds p)
swapped_place i tr ds order each p =
    let inside = below (length ds) ds order.below in
    ap (λ es. place_of es p) (same_map (λ d. get_or tr d 0) (transposed i) (length ds) ds inside each)
    ∙ moved (length ds) (λ q. exchanged (2 ^ i) q) (transposed i) (transposed_moves (length ds) i) ds p inside (distinct ds order.distinct)
