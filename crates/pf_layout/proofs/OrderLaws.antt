-- Places by their digits: what stands at one digit, and what a further order makes of a place.
use Rattle.std.proofs.Common.{◌≡◌, ◌≢◌, ℕ, zero, suc, ◌+◌, ◌*◌, ◌/◌, ◌%◌, ◌^◌, ◌<◌, List, [], ◌∷◌, length, map, get_or, All, refl, sym, ap, arith, ◌∙◌}
use Rattle.std.proofs.Math.Nat.{pow-suc, one-le-pow}
use Rattle.std.specs.List.{AllPairs, range_with_len}
use Rattle.pf_layout.specs.Meaning.Orders.{IsOrder, place_of}

-- digit k
abbrev pub bit : ℕ → ℕ → ℕ
bit zero n = n % 2
bit (suc k) n = bit k (n / 2)

-- d is none of them, and no two are the same
abbrev pub Lacks : ℕ → List ℕ → Type 0
Lacks d [] = Unit {0}
Lacks d (e ∷ es) = (e ≢ d) × Lacks d es

abbrev pub Distinct : List ℕ → Type 0
Distinct [] = Unit {0}
Distinct (d ∷ ds) = Lacks d ds × Distinct ds

abbrev pub Below : ℕ → List ℕ → Type 0
Below m [] = Unit {0}
Below m (d ∷ ds) = (d < m) × Below m ds

pub lacks : (d : ℕ) (ds : List ℕ) → ((i : ℕ) → i < length ds → get_or ds i 0 ≢ d) → Lacks d ds
lacks d [] each = tt
lacks d (e ∷ es) each = (each 0 (omega arith), lacks d es (λ i lt. each (suc i) (omega arith)))

pub distinct : (ds : List ℕ) → AllPairs (λ d e. d ≢ e) ds → Distinct ds
distinct [] pairs = tt
distinct (d ∷ ds) pairs = (lacks d ds (λ i lt e. pairs 0 (suc i) 0 (omega arith) (omega arith) (sym e)), distinct ds (λ i j x lt inside. pairs (suc i) (suc j) x (omega arith) (omega arith)))

pub below : (m : ℕ) (ds : List ℕ) → All (λ d. d < m) ds → Below m ds
below m [] each = tt
below m (d ∷ ds) each = (each 0 0 (omega arith), below m ds (λ i x inside. each (suc i) x (omega arith)))

pub twice : (k : ℕ) → 2 ^ suc k ≡ 2 * 2 ^ k
twice k = let power = pow-suc 2 k in omega (arith, power)

-- a digit that is put where none is
pub next : (d b n : ℕ) → ((b * 2 ^ suc d + n) % 2 ≡ n % 2) × ((b * 2 ^ suc d + n) / 2 ≡ b * 2 ^ d + n / 2)
next d b n = let power = twice d in rw power (omega arith, omega arith)

pub put_same : (d b n : ℕ) → b < 2 → bit d n ≡ 0 → bit d (b * 2 ^ d + n) ≡ b
put_same zero b n small none = omega arith
put_same (suc d) b n small none = ap (bit d) (next d b n).1 ∙ put_same d b (n / 2) small none

pub put_other : (d e b n : ℕ) → b < 2 → bit d n ≡ 0 → d ≢ e → bit e (b * 2 ^ d + n) ≡ bit e n
put_other zero zero b n small none other = absurd (other refl)
put_other zero (suc e) b n small none other = let half : (b * 2 ^ 0 + n) / 2 ≡ n / 2 = omega arith in ap (bit e) half
put_other (suc d) zero b n small none other = (next d b n).0
put_other (suc d) (suc e) b n small none other = ap (bit e) (next d b n).1 ∙ put_other d e b (n / 2) small none (λ same. other (ap suc same))

pub put_below : (d m b n : ℕ) → b < 2 → bit d n ≡ 0 → d < m → n < 2 ^ m → b * 2 ^ d + n < 2 ^ m
put_below d zero b n small none inside fits = absurd (omega arith)
put_below zero (suc m) b n small none inside fits = let power = twice m in omega (arith, power, fits)
put_below (suc d) (suc m) b n small none inside fits =
    let power = twice m in
    let half : b * 2 ^ d + n / 2 < 2 ^ m = put_below d m b (n / 2) small none (omega arith) (omega (arith, power, fits)) in
    let step = next d b n in
    omega (arith, power, half, step.0, step.1)

-- a place has nothing at a position that no digit goes to
pub none_at : (d : ℕ) (ds : List ℕ) (p : ℕ) → Lacks d ds → Distinct ds → bit d (place_of ds p) ≡ 0
none_at zero [] p free apart = refl
none_at (suc d) [] p free apart = none_at d [] p tt tt
none_at d (e ∷ es) p free apart = put_other e d (p % 2) (place_of es (p / 2)) (omega arith) (none_at e es (p / 2) apart.0 apart.1) free.0 ∙ none_at d es (p / 2) free.1 apart.1

pub place_below : (m : ℕ) (ds : List ℕ) (p : ℕ) → Below m ds → Distinct ds → place_of ds p < 2 ^ m
place_below m [] p inside apart = one-le-pow m 2 (omega arith)
place_below m (d ∷ ds) p inside apart = put_below d m (p % 2) (place_of ds (p / 2)) (omega arith) (none_at d ds (p / 2) apart.0 apart.1) inside.0 (place_below m ds (p / 2) inside.1 apart.1)

-- pixels at one place are the same
pub same_pixel : (ds : List ℕ) (p q : ℕ) → Distinct ds → p < 2 ^ length ds → q < 2 ^ length ds → place_of ds p ≡ place_of ds q → p ≡ q
same_pixel [] p q apart one other same = omega arith
same_pixel (d ∷ ds) p q apart one other same =
    let a = place_of ds (p / 2) in
    let b = place_of ds (q / 2) in
    let power = twice (length ds) in
    let digit : p % 2 ≡ q % 2 = sym (put_same d (p % 2) a (omega arith) (none_at d ds (p / 2) apart.0 apart.1)) ∙ ap (bit d) same ∙ put_same d (q % 2) b (omega arith) (none_at d ds (q / 2) apart.0 apart.1) in
    let product : p % 2 * 2 ^ d ≡ q % 2 * 2 ^ d = ap (λ n. n * 2 ^ d) digit in
    let rest : p / 2 ≡ q / 2 = same_pixel ds (p / 2) (q / 2) apart.1 (omega (arith, power, one)) (omega (arith, power, other)) (omega (arith, same, product)) in
    omega (arith, digit, rest)

-- what goes digit by digit goes so for a whole place
pub record Moves (m : ℕ) (f g : ℕ → ℕ) : Type 0 where
  pub none : f 0 ≡ 0
  pub one : (d b n : ℕ) → d < m → b < 2 → bit d n ≡ 0 → f (b * 2 ^ d + n) ≡ b * 2 ^ g d + f n

pub moved : (m : ℕ) (f g : ℕ → ℕ) → Moves m f g → (ds : List ℕ) (p : ℕ) → Below m ds → Distinct ds → place_of (map g ds) p ≡ f (place_of ds p)
moved m f g moves [] p inside apart = sym moves.none
moved m f g moves (d ∷ ds) p inside apart =
    ap (λ n. p % 2 * 2 ^ g d + n) (moved m f g moves ds (p / 2) inside.1 apart.1)
    ∙ sym (moves.one d (p % 2) (place_of ds (p / 2)) inside.0 (omega arith) (none_at d ds (p / 2) apart.0 apart.1))

-- another order does
place_of_none : (o : List ℕ) → place_of o 0 ≡ 0
place_of_none [] = refl
place_of_none (d ∷ o) = let rest : place_of o (0 / 2) ≡ 0 = place_of_none o in omega (arith, rest)

scattered : (o : List ℕ) (d b n : ℕ) → d < length o → b < 2 → bit d n ≡ 0 → place_of o (b * 2 ^ d + n) ≡ b * 2 ^ get_or o d 0 + place_of o n
scattered [] d b n inside small none = absurd (omega arith)
scattered (e ∷ o) zero b n inside small none =
    let low : (b * 2 ^ 0 + n) % 2 ≡ b = omega arith in
    let half : (b * 2 ^ 0 + n) / 2 ≡ n / 2 = omega arith in
    rw (low, half, none) (omega arith)
scattered (e ∷ o) (suc d) b n inside small none =
    let step = next d b n in
    let rest : place_of o (b * 2 ^ d + n / 2) ≡ b * 2 ^ get_or o d 0 + place_of o (n / 2) = scattered o d b (n / 2) (omega arith) small none in
    rw (step.0, step.1, rest) (omega arith)

pub order_moves : (o : List ℕ) → Moves (length o) (place_of o) (λ d. get_or o d 0)
order_moves o = record { none = place_of_none o; one = scattered o }

-- the plain order
pub plain_place : (a n p : ℕ) → p < 2 ^ n → place_of (range_with_len a n) p ≡ p * 2 ^ a
plain_place a zero p fits = let none : p ≡ 0 = omega arith in rw none (omega arith)
plain_place a (suc n) p fits =
    let power = twice n in
    let up : 2 ^ (a + 1) ≡ 2 * 2 ^ a = (let same : a + 1 ≡ suc a = omega arith in rw same (twice a)) in
    let rest : place_of (range_with_len (a + 1) n) (p / 2) ≡ p / 2 * 2 ^ (a + 1) = plain_place (a + 1) n (p / 2) (omega (arith, power, fits)) in
    let parts : p ≡ 2 * (p / 2) + p % 2 = omega arith in
    let whole : p * 2 ^ a ≡ (2 * (p / 2) + p % 2) * 2 ^ a = ap (λ m. m * 2 ^ a) parts in
    rw (rest, up) (omega (arith, whole))

-- what the places of an order are
pub place_inside : (ds : List ℕ) → IsOrder ds → (p : ℕ) → place_of ds p < 2 ^ length ds
place_inside ds order p = place_below (length ds) ds p (below (length ds) ds order.below) (distinct ds order.distinct)

pub place_small : (ds : List ℕ) → IsOrder ds → (p : ℕ) → place_of ds p < 256
place_small ds order p =
    let seven : All (λ d. d < 7) ds = λ i d inside. (let low = order.below i d inside in let few = order.few in omega (arith, low, few)) in
    let fits : place_of ds p < 2 ^ 7 = place_below 7 ds p (below 7 ds seven) (distinct ds order.distinct) in
    omega (arith, fits)

pub place_alone : (ds : List ℕ) → IsOrder ds → (p q : ℕ) → p < 2 ^ length ds → q < 2 ^ length ds → place_of ds q ≡ place_of ds p → q ≡ p
place_alone ds order p q one other same = same_pixel ds q p (distinct ds order.distinct) other one same

pub compose_place : (o ds : List ℕ) → IsOrder ds → length o ≡ length ds → (p : ℕ) → place_of (map (λ d. get_or o d 0) ds) p ≡ place_of o (place_of ds p)
compose_place o ds order count p = moved (length o) (place_of o) (λ d. get_or o d 0) (order_moves o) ds p (rw count (below (length ds) ds order.below)) (distinct ds order.distinct)

-- one digit's place, and the rest
pub first_place : (d : ℕ) (more : List ℕ) (p : ℕ) → p % 2 ≡ 1 → place_of (d ∷ more) p ≡ 2 ^ d + place_of more (p / 2)
first_place d more p odd = let one : p % 2 * 2 ^ d ≡ 1 * 2 ^ d = ap (λ b. b * 2 ^ d) odd in omega (arith, one)

pub no_place : (d : ℕ) (more : List ℕ) (p : ℕ) → p % 2 ≢ 1 → place_of (d ∷ more) p ≡ place_of more (p / 2)
no_place d more p even =
    let none : p % 2 ≡ 0 = omega arith in
    let zero : p % 2 * 2 ^ d ≡ 0 * 2 ^ d = ap (λ b. b * 2 ^ d) none in
    omega (arith, zero)
