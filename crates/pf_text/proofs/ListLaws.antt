-- Lists with one item more.
use Rattle.std.proofs.Common.{◌≡◌, ◌≢◌, refl, sym, ap, ◌∙◌, zero, suc, ℕ, ◌+◌, ◌<◌, ◌-◌, List, [], ◌∷◌, ◌++◌, length, get_or, arith, length-append}
use Rattle.std.specs.Prelude.{All, Contains, sum}
use Rattle.std.specs.List.{AllPairs, AllZip}
use Rattle.std.proofs.Math.Seq.{get_or-append_right}
use Rattle.std.proofs.lemmas.List.{get_or_append_left}
use Rattle.std.proofs.lemmas.List.Elements.{All-head, All-tail}
use Rattle.std.proofs.lemmas.List.Sums.{sum_by-append, sum_by-cons}

-- an item in the middle
pub item_at : {A : Type 0} (P : A → Type 0) (xs ys : List A) (y : A) → All P (xs ++ y ∷ ys) → P y
item_at P [] ys y h = All-head P y ys h
item_at P (x ∷ xs) ys y h = item_at P xs ys y (All-tail P x (xs ++ y ∷ ys) h)

-- what is new isn't among those before it
pub fresh : {A : Type 0} (before behind : List A) (x : A) → AllPairs (λ s t. s ≢ t) (before ++ x ∷ behind) → Contains before x → ⊥
fresh before behind x distinct (k, lt, e) =
    let all : length before < length (before ++ x ∷ behind) = omega (arith, length-append before (x ∷ behind)) in
    let none : length before - length before ≡ 0 = omega arith in
    let last : get_or (before ++ x ∷ behind) (length before) x ≡ x = get_or-append_right before (x ∷ behind) (length before) x (omega arith) ∙ ap (λ n. get_or (x ∷ behind) n x) none in
    distinct k (length before) x lt all (get_or_append_left before (x ∷ behind) x k lt ∙ e ∙ sym last)

pub same_default : {A : Type 0} (xs : List A) (k : ℕ) (d x : A) → k < length xs → get_or xs k x ≡ get_or xs k d
same_default [] k d x lt = absurd (omega arith)
same_default (y ∷ ys) zero d x lt = refl
same_default (y ∷ ys) (suc k) d x lt = same_default ys k d x (omega arith)

-- a new item is different from each one before it
pub different : {A : Type 0} (xs : List A) (x : A) → (Contains xs x → ⊥) → (k : ℕ) (d : A) → k < length xs → get_or xs k d ≢ x
different xs x new k d lt e = new (k, lt, same_default xs k d x lt ∙ e)

pub sum_split : (xs : List ℕ) (y : ℕ) (ys : List ℕ) → sum (xs ++ y ∷ ys) ≡ sum xs + (y + sum ys)
sum_split xs y ys = sum_by-append (λ x. x) xs (y ∷ ys) ∙ ap (λ n. sum xs + n) (sum_by-cons (λ x. x) y ys)

-- ---- lists of two kinds, item by item
pub record IsSplit {A B : Type 0} (R : A → B → Type 0) (xs : List A) (a b : List B) : Type 0 where
  pub front : List A
  pub back : List A
  pub parts : xs ≡ front ++ back
  pub left : AllZip R front a
  pub right : AllZip R back b

pub zip_split : {A B : Type 0} (R : A → B → Type 0) (xs : List A) (a b : List B) → AllZip R xs (a ++ b) → IsSplit R xs a b
zip_split R xs [] b h = record { front = []; back = xs; parts = refl; left = tt; right = h }
zip_split R [] (y ∷ a) b h = absurd h
zip_split R (x ∷ xs) (y ∷ a) b h =
    let rest = zip_split R xs a b h.1 in
    record { front = x ∷ rest.front; back = rest.back; parts = ap (λ l. x ∷ l) rest.parts; left = (h.0, rest.left); right = rest.right }

pub zip_more : {A B : Type 0} (R : A → B → Type 0) (xs : List A) (ys : List B) (x : A) (y : B) → AllZip R xs ys → R x y → AllZip R (xs ++ x ∷ []) (ys ++ y ∷ [])
zip_more R [] [] x y h r = (r, tt)
zip_more R [] (b ∷ ys) x y h r = absurd h
zip_more R (a ∷ xs) [] x y h r = absurd h
zip_more R (a ∷ xs) (b ∷ ys) x y h r = (h.0, zip_more R xs ys x y h.1 r)

pub zip_join : {A B : Type 0} (R : A → B → Type 0) (a c : List A) (b d : List B) → AllZip R a b → AllZip R c d → AllZip R (a ++ c) (b ++ d)
zip_join R [] c [] d h k = k
zip_join R (x ∷ a) c (y ∷ b) d h k = (h.0, zip_join R a c b d h.1 k)
zip_join R [] c (y ∷ b) d h k = absurd h
zip_join R (x ∷ a) c [] d h k = absurd h
