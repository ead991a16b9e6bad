-- What the machine's calls need of lists and numbers.
use Rattle.std.proofs.Common.{◌≡◌, ℕ, zero, suc, ◌+◌, ◌-◌, ◌*◌, ◌/◌, ◌%◌, ◌^◌, ◌<◌, ◌≤◌, List, [], ◌∷◌, ◌++◌, length, take, drop, set, get_or, arith, refl, sym, ap, subst, ◌∙◌, append_assoc, append-nil, length-append, length-drop}
use Rattle.std.specs.Prelude.{replicate}
use Rattle.std.proofs.lemmas.List.{take_at, drop_at, drop-drop, drop_more, take_more, length-take-le, replicate_more, length-replicate}
use Rattle.std.specs.Int.{to_le_bytes, from_le_bytes, bytes_low_first, byte_at, w64}
use Rattle.std.proofs.Math.Nat.{pow-suc, div-div-eq-div-mul}
use Rattle.std.proofs.lemmas.Nat.{le_bytes_8}
use Rattle.pf_machine.specs.Meaning.Bytes.{bytes, number, packed}
use Rattle.pf_machine.proofs.ByteLaws.{take-bytes, packed-append, length-packed, length-bytes, number-bytes}

-- the lowest bytes of a number
pub lowest_bytes : (count n : ℕ) → count ≤ 8 → take count (bytes 8 n) ≡ bytes count n
lowest_bytes count n h =
    let rest : count + (8 - count) ≡ 8 = omega arith in
    rw rest at (take-bytes count (8 - count) n)

low_first : (i k n : ℕ) → bytes_low_first i k n ≡ bytes k (n / 256 ^ i)
low_first i zero n = refl
low_first i (suc k) n =
    let first : byte_at i n ≡ n / 256 ^ i % 256 = byte_is i n in
    let next : n / 256 ^ suc i ≡ n / 256 ^ i / 256 = ap (λ m. n / m) (pow-suc 256 i) ∙ sym (div-div-eq-div-mul n (256 ^ i) 256) in
    let rest : bytes_low_first (suc i) k n ≡ bytes k (n / 256 ^ suc i) = low_first (suc i) k n in
    rw (first, rest, next) refl
  where
    byte_is : (i n : ℕ) → byte_at i n ≡ n / 256 ^ i % 256
    byte_is zero n = omega arith
    byte_is (suc i) n = refl

-- the eight bytes of a number, as the standard library has them
low_bytes : (n : ℕ) → to_le_bytes w64 n ≡ bytes 8 n
low_bytes n = let one : n / 256 ^ 0 ≡ n = omega arith in low_first 0 8 n ∙ ap (bytes 8) one

number_zeros : (bs : List ℕ) (k : ℕ) → number (bs ++ replicate k 0) ≡ number bs
number_zeros [] zero = refl
number_zeros [] (suc k) = let rest : number (replicate k 0) ≡ 0 = number_zeros [] k in omega arith
number_zeros (b ∷ bs) k = ap (λ n. b + 256 * n) (number_zeros bs k)

small_zeros : (bs : List ℕ) (k : ℕ) → ((i : ℕ) → get_or bs i 0 < 256) → (i : ℕ) → get_or (bs ++ replicate k 0) i 0 < 256
small_zeros [] zero small i = omega arith
small_zeros [] (suc k) small zero = omega arith
small_zeros [] (suc k) small (suc i) = small_zeros [] k small i
small_zeros (b ∷ bs) k small zero = small 0
small_zeros (b ∷ bs) k small (suc i) = small_zeros bs k (λ j. small (suc j)) i

-- the number of at most eight bytes, from those with zeros behind them
pub number_read : (held all : List ℕ) (n : ℕ) → all ≡ held ++ replicate (8 - length held) 0 → length held ≤ 8 → ((i : ℕ) → get_or held i 0 < 256) → n < 2 ^ 64 → n ≡ from_le_bytes w64 all → n ≡ number held
number_read held all n is few small fits read =
    let long : length all ≡ 8 = ap length is ∙ length-append held (replicate (8 - length held) 0) ∙ omega (arith, length-replicate {A = ℕ} (8 - length held) 0) in
    let back : bytes 8 n ≡ all = sym (low_bytes n) ∙ le_bytes_8 all n long (λ i. subst (λ bs. get_or bs i 0 < 256) (sym is) (small_zeros held (8 - length held) small i)) read in
    let same : number (bytes 8 n) ≡ n = number-bytes 8 n (omega arith) in
    sym same ∙ ap number back ∙ ap number is ∙ number_zeros held (8 - length held)

-- items that are put in place one by one
set_behind : {A : Type 0} (n : ℕ) (x y : A) (ys : List A) → set (replicate n x ++ y ∷ ys) n x ≡ replicate n x ++ x ∷ ys
set_behind zero x y ys = refl
set_behind (suc n) x y ys = ap (λ l. x ∷ l) (set_behind n x y ys)

pub cleared_more : {A : Type 0} (xs ys : List A) (n : ℕ) (x : A) → n < length ys → xs ≡ replicate n x ++ drop n ys → set xs n x ≡ replicate (n + 1) x ++ drop (n + 1) ys
cleared_more xs ys n x inside is =
    rw (is, drop_more ys n x inside, set_behind n x (get_or ys n x) (drop (n + 1) ys), ← replicate_more n x, append_assoc) refl

behind_eight : (table old held : List ℕ) (n : ℕ) → length held ≡ 8 → drop (8 * n) table ≡ drop (8 * n) old → drop (8 * n + length held) table ≡ drop (8 * (n + 1)) old
behind_eight table old held n wide same =
    let far : 8 * (n + 1) ≡ 8 * n + 8 = omega arith in
    rw (wide, far, ← drop-drop 8 (8 * n) table, ← drop-drop 8 (8 * n) old, same) refl

-- a table of which the first entries are written has room for the next one
pub entries_written : (entries old table held : List ℕ) (n : ℕ) → n < length entries → table ≡ packed 8 (take n entries) ++ drop (8 * n) old → held ≡ bytes 8 (get_or entries n 0)
    → length old ≡ 8 * length entries → 8 * n + length held ≤ length table
entries_written entries old table held n inside was is size =
    let front : length (packed 8 (take n entries)) ≡ 8 * n = length-packed 8 (take n entries) ∙ ap (λ k. 8 * k) (length-take-le n entries (omega arith)) in
    let wide : length held ≡ 8 = ap length is ∙ length-bytes 8 (get_or entries n 0) in
    let all : length table ≡ length (packed 8 (take n entries)) + length (drop (8 * n) old) = ap length was ∙ length-append (packed 8 (take n entries)) (drop (8 * n) old) in
    omega (arith, length-drop (8 * n) old)

-- entries that are written one by one
pub entries_more : (entries old table new held : List ℕ) (n : ℕ) → n < length entries → table ≡ packed 8 (take n entries) ++ drop (8 * n) old → held ≡ bytes 8 (get_or entries n 0)
    → new ≡ take (8 * n) table ++ (held ++ drop (8 * n + length held) table) → new ≡ packed 8 (take (n + 1) entries) ++ drop (8 * (n + 1)) old
entries_more entries old table new held n inside was is now =
    let front = packed 8 (take n entries) in
    let rest = drop (8 * n) old in
    let long : length front ≡ 8 * n = length-packed 8 (take n entries) ∙ ap (λ k. 8 * k) (length-take-le n entries (omega arith)) in
    let wide : length held ≡ 8 = ap length is ∙ length-bytes 8 (get_or entries n 0) in
    let first : take (8 * n) table ≡ front = ap (take (8 * n)) was ∙ take_at front rest (8 * n) long in
    let behind : drop (8 * n) table ≡ rest = ap (drop (8 * n)) was ∙ drop_at front rest (8 * n) long in
    let last : drop (8 * n + length held) table ≡ drop (8 * (n + 1)) old = behind_eight table old held n wide behind in
    let more : packed 8 (take (n + 1) entries) ≡ front ++ (bytes 8 (get_or entries n 0) ++ []) = ap (packed 8) (take_more entries n 0 inside) ∙ packed-append 8 (take n entries) (get_or entries n 0 ∷ []) in
    let written : packed 8 (take (n + 1) entries) ≡ front ++ held = more ∙ ap (λ k. front ++ k) (append-nil (bytes 8 (get_or entries n 0)) ∙ sym is) in
    now ∙ rw (first, last, written) (sym (append_assoc front held (drop (8 * (n + 1)) old)))
