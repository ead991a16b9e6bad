-- Lists of terms, place by place.
use Rattle.std.proofs.Common.{◌≡◌, refl, sym, ap, ◌∙◌, subst, ℕ, zero, suc, ◌+◌, ◌<◌, ◌≤◌, List, [], ◌∷◌, ◌++◌, length, map, Option, Some, None, arith}
use Rattle.std.specs.Prelude.{option_and_then, slice_get, sum}
use Rattle.std.proofs.lemmas.List.Sums.{sum_by-cons}
use Rattle.pf_values.specs.declared.term.Term.{Term}
use Rattle.pf_bounds.specs.Meaning.TermBounds.{operands, part_of}
use Rattle.pf_rules.proofs.InstanceLaws.{Each}

pub each_get : (Q : Term → Type 0) (ts : List Term) (i : ℕ) (x : Term) → Each Q ts → slice_get ts i ≡ Some x → Q x
each_get Q [] i x h e = absurd (cc e)
each_get Q (t ∷ ts) zero x h e = let is : t ≡ x = cc e in subst Q is h.0
each_get Q (t ∷ ts) (suc i) x h e = each_get Q ts i x h.1 e

pub each_from : (Q : Term → Type 0) (ts : List Term) → ((i : ℕ) (x : Term) → slice_get ts i ≡ Some x → Q x) → Each Q ts
each_from Q [] h = tt
each_from Q (t ∷ ts) h = (h 0 t refl, each_from Q ts (λ i. h (suc i)))

pub each_push : (Q : Term → Type 0) (ts : List Term) (x : Term) → Each Q ts → Q x → Each Q (ts ++ x ∷ [])
each_push Q [] x h q = (q, tt)
each_push Q (t ∷ ts) x h q = (h.0, each_push Q ts x h.1 q)

pub get_front : {A : Type 0} (xs ys : List A) (j : ℕ) → j < length xs → slice_get (xs ++ ys) j ≡ slice_get xs j
get_front [] ys j below = absurd (omega (arith, below))
get_front (x ∷ xs) ys zero below = refl
get_front (x ∷ xs) ys (suc j) below = get_front xs ys j (omega (arith, below))

pub get_here : {A : Type 0} (xs ys : List A) (y : A) (j : ℕ) → j ≡ length xs → slice_get (xs ++ y ∷ ys) j ≡ Some y
get_here [] ys y zero e = refl
get_here [] ys y (suc j) e = absurd (omega (arith, e))
get_here (x ∷ xs) ys y zero e = absurd (omega (arith, e))
get_here (x ∷ xs) ys y (suc j) e = get_here xs ys y j (omega (arith, e))

from_then : {A B : Type 0} (o : Option A) (f : A → Option B) (b : B) → option_and_then f o ≡ Some b → (a : A) × (o ≡ Some a) × (f a ≡ Some b)
from_then None f b e = absurd (cc e)
from_then (Some a) f b e = (a, refl, e)

-- a part below the root is a part of an operand
pub part_below : (t : Term) (i : ℕ) (path : List ℕ) (x : Term) → part_of t (i ∷ path) ≡ Some x → (y : Term) × (slice_get (operands t) i ≡ Some y) × (part_of y path ≡ Some x)
part_below t i path x e = from_then (slice_get (operands t) i) (λ y. part_of y path) x e

pub part_at : (t : Term) (i : ℕ) (path : List ℕ) (x y : Term) → slice_get (operands t) i ≡ Some y → part_of y path ≡ Some x → part_of t (i ∷ path) ≡ Some x
part_at t i path x y at e = ap (option_and_then (λ z. part_of z path)) at ∙ e

pub sum_cons : (n : ℕ) (ns : List ℕ) → sum (n ∷ ns) ≡ n + sum ns
sum_cons n ns = sum_by-cons (λ c. c) n ns

pub sum_push : {A : Type 0} (f : A → ℕ) (xs : List A) (x : A) → sum (map f (xs ++ x ∷ [])) ≡ sum (map f xs) + f x
sum_push f [] x = let e = sum_cons (f x) [] in omega (arith, e)
sum_push f (y ∷ xs) x = let e = sum_cons (f y) (map f (xs ++ x ∷ [])) in let g = sum_cons (f y) (map f xs) in let rest = sum_push f xs x in omega (arith, e, g, rest)
