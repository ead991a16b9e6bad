-- Numbers and lanes as bytes, there and back.
use Rattle.std.proofs.Common.{◌≡◌, ℕ, zero, suc, ◌+◌, ◌*◌, ◌/◌, ◌%◌, ◌^◌, ◌<◌, List, [], ◌∷◌, ◌++◌, length, take, drop, get_or, min, All, refl, sym, ap, arith, length-append, length-drop, take-append-drop}
use Rattle.std.proofs.Math.Nat.{pow-suc, mod-eq_of_lt, one-le-pow}
use Rattle.std.proofs.Math.Arith.{mod-mul}
use Rattle.std.proofs.Math.Seq.{take-add}
use Rattle.std.proofs.lemmas.List.{take_at, drop_at, drop-drop, drop_more, length-take-le, nil_from_length, take_all, drop_all}
use Rattle.std.proofs.lemmas.List.Concat.{flat_map-append}
use Rattle.std.proofs.lemmas.List.Elements.{All-nil, All-cons, All-head, All-tail, All-append, All-take, All-drop}
use Rattle.std.proofs.lemmas.Nat.{div_below}
use Rattle.pf_machine.specs.Meaning.Bytes.{number, bytes, lanes, packed, map2}

-- Numbers as bytes

pub length-bytes : (count n : ℕ) → length (bytes count n) ≡ count
length-bytes zero n = refl
length-bytes (suc count) n = ap suc (length-bytes count (n / 256))

pub bytes_below : (count n : ℕ) → All (λ b. b < 256) (bytes count n)
bytes_below zero n = All-nil (λ b. b < 256)
bytes_below (suc count) n = All-cons (λ b. b < 256) (n % 256) (bytes count (n / 256)) (omega arith) (bytes_below count (n / 256))

pub number-bytes : (count n : ℕ) → n < 256 ^ count → number (bytes count n) ≡ n
number-bytes zero n below = omega arith
number-bytes (suc count) n below =
    let less : n / 256 < 256 ^ count = div_below n 256 (256 ^ count) (omega arith) (rw pow-suc at below) in
    let rest : number (bytes count (n / 256)) ≡ n / 256 = number-bytes count (n / 256) less in
    rw rest (omega arith)

pub number_below : (bs : List ℕ) → All (λ b. b < 256) bs → number bs < 256 ^ length bs
number_below [] small = omega arith
number_below (b ∷ bs) small =
    let first : b < 256 = All-head (λ b. b < 256) b bs small in
    let rest : number bs < 256 ^ length bs = number_below bs (All-tail (λ b. b < 256) b bs small) in
    rw (pow-suc 256 (length bs)) (omega arith)

pub bytes-number : (count : ℕ) (bs : List ℕ) → length bs ≡ count → All (λ b. b < 256) bs → bytes count (number bs) ≡ bs
bytes-number zero [] long small = refl
bytes-number (suc count) (b ∷ bs) long small =
    let first : b < 256 = All-head (λ b. b < 256) b bs small in
    let low : (b + 256 * number bs) % 256 ≡ b = omega arith in
    let high : (b + 256 * number bs) / 256 ≡ number bs = omega arith in
    let rest : bytes count (number bs) ≡ bs = bytes-number count bs (omega arith) (All-tail (λ b. b < 256) b bs small) in
    rw (low, high, rest) refl
bytes-number zero (b ∷ bs) long small = absurd (omega arith)
bytes-number (suc count) [] long small = absurd (omega arith)

-- what fits into fewer bytes is the number's rest
pub number-bytes_rest : (count n : ℕ) → number (bytes count n) ≡ n % 256 ^ count
number-bytes_rest zero n =
    let none : n % 1 ≡ 0 = omega arith in
    sym none
number-bytes_rest (suc count) n =
    let some : 0 < 256 ^ count = one-le-pow count 256 (omega arith) in
    let split : n % (256 ^ count * 256) ≡ (n / 256 % 256 ^ count) * 256 + n % 256 = mod-mul n some (omega arith) in
    let rest : number (bytes count (n / 256)) ≡ n / 256 % 256 ^ count = number-bytes_rest count (n / 256) in
    rw (pow-suc, split, rest) (omega arith)

-- the lowest bytes are those of the rest, and the first of more
pub bytes-mod : (count n : ℕ) → bytes count (n % 256 ^ count) ≡ bytes count n
bytes-mod count n = rw (← number-bytes_rest) (bytes-number count (bytes count n) (length-bytes count n) (bytes_below count n))

pub take-bytes : (count more n : ℕ) → take count (bytes (count + more) n) ≡ bytes count n
take-bytes zero more n = refl
take-bytes (suc count) more n =
    let size : suc count + more ≡ suc (count + more) = omega arith in
    rw size (ap (λ bs. n % 256 ∷ bs) (take-bytes count more (n / 256)))

pub bytes_one : (n : ℕ) → n < 256 → bytes 1 n ≡ n ∷ []
bytes_one n below = rw (mod-eq_of_lt below) refl

-- Lanes as bytes

pub packed-append : (w : ℕ) (xs ys : List ℕ) → packed w (xs ++ ys) ≡ packed w xs ++ packed w ys
packed-append w xs ys = flat_map-append (λ x. bytes w x) xs ys

pub length-packed : (w : ℕ) (xs : List ℕ) → length (packed w xs) ≡ w * length xs
length-packed w [] = omega arith
length-packed w (x ∷ xs) =
    let rest : length (packed w xs) ≡ w * length xs = length-packed w xs in
    let first : length (bytes w x) ≡ w = length-bytes w x in
    rw (length-append, first, rest) (omega arith)

pub packed_below : (w : ℕ) (xs : List ℕ) → All (λ b. b < 256) (packed w xs)
packed_below w [] = All-nil (λ b. b < 256)
packed_below w (x ∷ xs) = All-append (λ b. b < 256) (bytes w x) (packed w xs) (bytes_below w x) (packed_below w xs)

pub length-lanes : (w count : ℕ) (v : List ℕ) → length (lanes w count v) ≡ count
length-lanes w zero v = refl
length-lanes w (suc count) v = ap suc (length-lanes w count (drop w v))

pub lanes-packed : (w count : ℕ) (xs : List ℕ) → length xs ≡ count → All (λ x. x < 256 ^ w) xs → lanes w count (packed w xs) ≡ xs
lanes-packed w zero [] long small = refl
lanes-packed w (suc count) (x ∷ xs) long small =
    let front : take w (bytes w x ++ packed w xs) ≡ bytes w x = take_at (bytes w x) (packed w xs) w (length-bytes w x) in
    let back : drop w (bytes w x ++ packed w xs) ≡ packed w xs = drop_at (bytes w x) (packed w xs) w (length-bytes w x) in
    let first : number (bytes w x) ≡ x = number-bytes w x (All-head (λ x. x < 256 ^ w) x xs small) in
    let rest : lanes w count (packed w xs) ≡ xs = lanes-packed w count xs (omega arith) (All-tail (λ x. x < 256 ^ w) x xs small) in
    rw (front, back, first, rest) refl
lanes-packed w zero (x ∷ xs) long small = absurd (omega arith)
lanes-packed w (suc count) [] long small = absurd (omega arith)

pub packed-lanes : (w count : ℕ) (v : List ℕ) → length v ≡ w * count → All (λ b. b < 256) v → packed w (lanes w count v) ≡ v
packed-lanes w zero v long small = sym (nil_from_length v (omega arith))
packed-lanes w (suc count) v long small =
    let size : w * suc count ≡ w + w * count = omega arith in
    let front : length (take w v) ≡ w = length-take-le w v (omega arith) in
    let first : bytes w (number (take w v)) ≡ take w v = bytes-number w (take w v) front (All-take (λ b. b < 256) w v small) in
    let rest : packed w (lanes w count (drop w v)) ≡ drop w v = packed-lanes w count (drop w v) (rw length-drop (omega arith)) (All-drop (λ b. b < 256) w v small) in
    rw (first, rest, take-append-drop) refl

pub lanes_below : (w count : ℕ) (v : List ℕ) → length v ≡ w * count → All (λ b. b < 256) v → All (λ x. x < 256 ^ w) (lanes w count v)
lanes_below w zero v long small = All-nil (λ x. x < 256 ^ w)
lanes_below w (suc count) v long small =
    let size : w * suc count ≡ w + w * count = omega arith in
    let front : length (take w v) ≡ w = length-take-le w v (omega arith) in
    let below : number (take w v) < 256 ^ w = rw front at (number_below (take w v) (All-take (λ b. b < 256) w v small)) in
    All-cons (λ x. x < 256 ^ w) (number (take w v)) (lanes w count (drop w v)) below (lanes_below w count (drop w v) (rw length-drop (omega arith)) (All-drop (λ b. b < 256) w v small))

-- whole lanes at the front, and behind them
pub take-packed : (w k : ℕ) (xs : List ℕ) → take (w * k) (packed w xs) ≡ packed w (take k xs)
take-packed w zero xs =
    let none : w * 0 ≡ 0 = omega arith in
    rw none refl
take-packed w (suc k) [] = take_all (w * suc k) [] (omega arith)
take-packed w (suc k) (x ∷ xs) =
    let size : w * suc k ≡ w + w * k = omega arith in
    let front : take w (bytes w x ++ packed w xs) ≡ bytes w x = take_at (bytes w x) (packed w xs) w (length-bytes w x) in
    let back : drop w (bytes w x ++ packed w xs) ≡ packed w xs = drop_at (bytes w x) (packed w xs) w (length-bytes w x) in
    rw (size, take-add, front, back, take-packed w k xs) refl

pub drop-packed : (w k : ℕ) (xs : List ℕ) → drop (w * k) (packed w xs) ≡ packed w (drop k xs)
drop-packed w zero xs =
    let none : w * 0 ≡ 0 = omega arith in
    rw none refl
drop-packed w (suc k) [] = drop_all (w * suc k) [] (omega arith)
drop-packed w (suc k) (x ∷ xs) =
    let size : w * suc k ≡ w + w * k = omega arith in
    let back : drop w (bytes w x ++ packed w xs) ≡ packed w xs = drop_at (bytes w x) (packed w xs) w (length-bytes w x) in
    rw (size, ← drop-drop, back) (drop-packed w k xs)

-- the bytes of one lane
pub lane_at : (w k : ℕ) (xs : List ℕ) → k < length xs → take w (drop (w * k) (packed w xs)) ≡ bytes w (get_or xs k 0)
lane_at w k xs inside = rw (drop-packed w k xs, drop_more xs k 0 inside) (take_at (bytes w (get_or xs k 0)) (packed w (drop (k + 1) xs)) w (length-bytes w (get_or xs k 0)))

-- entry k of a table
pub entry_at : (entries : List ℕ) (k : ℕ) → k < length entries → take 8 (drop (8 * k) (packed 8 entries)) ≡ bytes 8 (get_or entries k 0)
entry_at entries k inside = lane_at 8 k entries inside

-- the lanes at an index, at the front and behind
pub get_or-lanes : (w count k : ℕ) (v : List ℕ) → k < count → get_or (lanes w count v) k 0 ≡ number (take w (drop (w * k) v))
get_or-lanes w (suc count) zero v inside =
    let none : w * 0 ≡ 0 = omega arith in
    rw none refl
get_or-lanes w (suc count) (suc k) v inside =
    let size : w * suc k ≡ w + w * k = omega arith in
    rw (size, ← drop-drop) (get_or-lanes w count k (drop w v) (omega arith))
get_or-lanes w zero k v inside = absurd (omega arith)

pub drop-lanes : (w count k : ℕ) (v : List ℕ) → drop k (lanes w (k + count) v) ≡ lanes w count (drop (w * k) v)
drop-lanes w count zero v =
    let none : w * 0 ≡ 0 = omega arith in
    let all : 0 + count ≡ count = omega arith in
    rw (none, all) refl
drop-lanes w count (suc k) v =
    let size : w * suc k ≡ w + w * k = omega arith in
    let more : suc k + count ≡ suc (k + count) = omega arith in
    rw (size, more, ← drop-drop) (drop-lanes w count k (drop w v))

pub take-lanes : (w count k : ℕ) (v : List ℕ) → take k (lanes w (k + count) v) ≡ lanes w k v
take-lanes w count zero v = refl
take-lanes w count (suc k) v =
    let more : suc k + count ≡ suc (k + count) = omega arith in
    rw more (ap (λ ls. number (take w v) ∷ ls) (take-lanes w count k (drop w v)))

-- A function of two lanes, lane by lane

pub length-map2 : (f : ℕ → ℕ → ℕ) (xs ys : List ℕ) → length (map2 f xs ys) ≡ min (length xs) (length ys)
length-map2 f [] ys = omega arith
length-map2 f (x ∷ xs) [] = omega arith
length-map2 f (x ∷ xs) (y ∷ ys) = omega (arith, length-map2 f xs ys)

pub take-map2 : (f : ℕ → ℕ → ℕ) (k : ℕ) (xs ys : List ℕ) → take k (map2 f xs ys) ≡ map2 f (take k xs) (take k ys)
take-map2 f zero xs ys = refl
take-map2 f (suc k) [] ys = refl
take-map2 f (suc k) (x ∷ xs) [] = refl
take-map2 f (suc k) (x ∷ xs) (y ∷ ys) = ap (λ zs. f x y ∷ zs) (take-map2 f k xs ys)

pub map2-nil : (f : ℕ → ℕ → ℕ) (xs : List ℕ) → map2 f xs [] ≡ []
map2-nil f [] = refl
map2-nil f (x ∷ xs) = refl

pub drop-map2 : (f : ℕ → ℕ → ℕ) (k : ℕ) (xs ys : List ℕ) → drop k (map2 f xs ys) ≡ map2 f (drop k xs) (drop k ys)
drop-map2 f zero xs ys = refl
drop-map2 f (suc k) [] ys = refl
drop-map2 f (suc k) (x ∷ xs) [] = sym (map2-nil f (drop k xs))
drop-map2 f (suc k) (x ∷ xs) (y ∷ ys) = drop-map2 f k xs ys

pub map2-append : (f : ℕ → ℕ → ℕ) (xs xs' ys ys' : List ℕ) → length xs ≡ length ys → map2 f (xs ++ xs') (ys ++ ys') ≡ map2 f xs ys ++ map2 f xs' ys'
map2-append f [] xs' [] ys' same = refl
map2-append f (x ∷ xs) xs' (y ∷ ys) ys' same = ap (λ zs. f x y ∷ zs) (map2-append f xs xs' ys ys' (omega arith))
map2-append f [] xs' (y ∷ ys) ys' same = absurd (omega arith)
map2-append f (x ∷ xs) xs' [] ys' same = absurd (omega arith)

pub get_or-map2 : (f : ℕ → ℕ → ℕ) (xs ys : List ℕ) (k d e : ℕ) → k < length xs → k < length ys → get_or (map2 f xs ys) k d ≡ f (get_or xs k e) (get_or ys k e)
get_or-map2 f [] ys k d e left right = absurd (omega arith)
get_or-map2 f (x ∷ xs) [] k d e left right = absurd (omega arith)
get_or-map2 f (x ∷ xs) (y ∷ ys) zero d e left right = refl
get_or-map2 f (x ∷ xs) (y ∷ ys) (suc k) d e left right = get_or-map2 f xs ys k d e (omega arith) (omega arith)
