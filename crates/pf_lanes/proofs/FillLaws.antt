-- One lane more is written.
use Rattle.std.proofs.Common.{◌≡◌, ℕ, zero, suc, ℤ, ◌+◌, ◌*◌, ◌<◌, ◌≤◌, List, [], ◌∷◌, ◌++◌, take, drop, length, set, zero-add, refl, arith, ap, sym, ◌∙◌, append_assoc, length-append, length-take, length-drop}
use Rattle.std.proofs.Math.Nat.{mul-le-mul_left}
use Rattle.std.proofs.lemmas.List.{take_at, take_all, append-nil}
use Rattle.pf_ints.specs.declared.lane.LaneType.{LaneType}
use Rattle.pf_machine.specs.Meaning.Bytes.{bytes}
use Rattle.pf_machine.proofs.ByteLaws.{length-bytes}
use Rattle.pf_lanes.specs.Meaning.Lanes.{bytes_of, residue, made_from, made}

set_four : (xs : List ℕ) (n a b c d : ℕ) → suc (suc (suc (suc n))) ≤ length xs → set (set (set (set xs n a) (suc n) b) (suc (suc n)) c) (suc (suc (suc n))) d ≡ take n xs ++ (a ∷ b ∷ c ∷ d ∷ drop (suc (suc (suc (suc n)))) xs)
set_four (x ∷ y ∷ z ∷ w ∷ xs) zero a b c d h = refl
set_four (x ∷ xs) (suc n) a b c d h = ap (λ l. x ∷ l) (set_four xs n a b c d (omega arith))
set_four [] n a b c d h = absurd (omega arith)
set_four (x ∷ []) zero a b c d h = absurd (omega arith)
set_four (x ∷ y ∷ []) zero a b c d h = absurd (omega arith)
set_four (x ∷ y ∷ z ∷ []) zero a b c d h = absurd (omega arith)

-- four bytes in a row are written
pub four_set : (xs : List ℕ) (n a b c d : ℕ) → n + 4 ≤ length xs → set (set (set (set xs n a) (n + 1) b) (n + 2) c) (n + 3) d ≡ take n xs ++ (a ∷ b ∷ c ∷ d ∷ drop (n + 4) xs)
four_set xs n a b c d h =
    let one : n + 1 ≡ suc n = omega arith in
    let two : n + 2 ≡ suc (suc n) = omega arith in
    let three : n + 3 ≡ suc (suc (suc n)) = omega arith in
    let four : n + 4 ≡ suc (suc (suc (suc n))) = omega arith in
    rw (one, two, three, four) (set_four xs n a b c d (omega arith))

made_more : (t : LaneType) (n : ℕ) (f : ℕ → ℤ) (k : ℕ) → made_from t (suc n) f k ≡ made_from t n f k ++ bytes (bytes_of t) (residue t (f (k + n)))
made_more t zero f k =
    let same : k + 0 ≡ k = omega arith in
    rw (same, append-nil (bytes (bytes_of t) (residue t (f k)))) refl
made_more t (suc n) f k =
    let there : k + suc n ≡ (k + 1) + n = omega arith in
    rw (there, made_more t n f (k + 1)) (sym (append_assoc (bytes (bytes_of t) (residue t (f k))) (made_from t n f (k + 1)) (bytes (bytes_of t) (residue t (f ((k + 1) + n))))))

-- what stands in front when lane i is written too
pub one_more : (t : LaneType) (f : ℕ → ℤ) (i n : ℕ) (v v' : List ℕ) → take (bytes_of t * i) v ≡ made_from t i f 0 → bytes_of t * i + bytes_of t ≤ length v → n ≡ residue t (f i) → v' ≡ take (bytes_of t * i) v ++ (bytes (bytes_of t) n ++ drop (bytes_of t * i + bytes_of t) v) → take (bytes_of t * (i + 1)) v' ≡ made_from t (i + 1) f 0
one_more t f i n v v' before room value written =
    let long : length (take (bytes_of t * i) v ++ bytes (bytes_of t) n) ≡ bytes_of t * (i + 1) = omega (arith, length-append (take (bytes_of t * i) v) (bytes (bytes_of t) n), length-take (bytes_of t * i) v, length-bytes (bytes_of t) n) in
    let front : take (bytes_of t * (i + 1)) v' ≡ take (bytes_of t * i) v ++ bytes (bytes_of t) n = rw (written, ← append_assoc) (take_at (take (bytes_of t * i) v ++ bytes (bytes_of t) n) (drop (bytes_of t * i + bytes_of t) v) (bytes_of t * (i + 1)) long) in
    let next : i + 1 ≡ suc i = omega arith in
    let more : made_from t (i + 1) f 0 ≡ made_from t i f 0 ++ bytes (bytes_of t) (residue t (f i)) = rw (next, made_more t i f 0, zero-add i) refl in
    front ∙ (rw (before, value) (sym more))

pub all_made : (t : LaneType) (f : ℕ → ℤ) (count i : ℕ) (v : List ℕ) → length v ≡ bytes_of t * count → i ≡ count → take (bytes_of t * i) v ≡ made_from t i f 0 → v ≡ made t count f
unfolding made
all_made t f count i v long last e =
    let whole : length v ≤ bytes_of t * i = rw last (omega arith) in
    sym (take_all (bytes_of t * i) v whole) ∙ e ∙ ap (λ n. made_from t n f 0) last

pub room_left : (w i count all : ℕ) → i < count → all ≡ w * count → w * i + w ≤ all
room_left w i count all less e =
    let fewer : suc i ≤ count = omega arith in
    let grows : w * suc i ≤ w * count = mul-le-mul_left w fewer in
    omega arith

pub length_put : (w i n : ℕ) (v v' : List ℕ) → w * i + w ≤ length v → v' ≡ take (w * i) v ++ (bytes w n ++ drop (w * i + w) v) → length v' ≡ length v
length_put w i n v v' room written =
    rw (written, length-append (take (w * i) v) (bytes w n ++ drop (w * i + w) v), length-append (bytes w n) (drop (w * i + w) v), length-bytes w n) (omega (arith, length-take (w * i) v, length-drop (w * i + w) v))
