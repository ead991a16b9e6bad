-- The value of a form, and the interval that its variables' intervals give it.
use Rattle.std.specs.Prelude.{◌≡◌, ℕ, ℤ, pos, ◌^◌, ◌<◌, ◌+ℤ◌, ◌-ℤ◌, ◌*ℤ◌, neg_ℤ, int_lt, unsigned_abs, if◌then◌else◌, List, Option, Some, slice_get, option_and_then, option_map}
use Rattle.std.specs.Int.{int_max, int_min}
use Rattle.pf_ints.specs.Meaning.Whole.{floor_div}
use Rattle.pf_ints.specs.Meaning.Lanes.{wrapped, clamped}
use Rattle.pf_ints.specs.Meaning.Ranges.{Range, Includes, furthest, range, within, sum_range, difference_range, product_range, quotient_range, min_range, max_range, abs_range, wrap_range, clamp_range, choice_range}
use Rattle.pf_forms.specs.Meaning.Shapes.{Shape, Var, Num, Pow, Add, Sub, Mul, FloorDiv, Min, Max, Abs, Sel, Wrap, Sat}

-- the value on whole numbers without bounds, where v gives the variables theirs
abbrev pub FVal : (ℕ → ℤ) → Shape → ℤ
FVal v (Var n) = v n
FVal v (Num n) = n
FVal v (Pow e) = pos (2 ^ e)
FVal v (Add x y) = FVal v x +ℤ FVal v y
FVal v (Sub x y) = FVal v x -ℤ FVal v y
FVal v (Mul x y) = FVal v x *ℤ FVal v y
FVal v (FloorDiv x e) = floor_div (FVal v x) (2 ^ e)
FVal v (Min x y) = int_min (FVal v x) (FVal v y)
FVal v (Max x y) = int_max (FVal v x) (FVal v y)
FVal v (Abs x) = pos (unsigned_abs (FVal v x))
FVal v (Sel a b x y) = if int_lt (FVal v b) (FVal v a) then FVal v x else FVal v y
FVal v (Wrap t x) = wrapped t (FVal v x)
FVal v (Sat t x) = clamped t (FVal v x)

-- each variable's value lies in its range
abbrev pub AreIn : List Range → (ℕ → ℤ) → Type 0
AreIn ranges v = (n : ℕ) (r : Range) → slice_get ranges n ≡ Some r → Includes r (v n)

-- what an operation with or without limits makes of the intervals of its operands, if each has one
abbrev one_of : (Range → Range) → Option Range → Option Range
one_of f a = option_map f a

abbrev two_of : (Range → Range → Option Range) → Option Range → Option Range → Option Range
two_of f a b = option_and_then (λ r. option_and_then (λ s. f r s) b) a

-- the interval of a form, or none where a bound of one of its parts leaves the limits
abbrev pub G : List Range → Shape → Option Range
G ranges (Var n) = slice_get ranges n
G ranges (Num n) = within (range n n)
G ranges (Pow e) = within (range (pos (2 ^ e)) (pos (2 ^ e)))
G ranges (Add x y) = two_of (λ r s. within (sum_range r s)) (G ranges x) (G ranges y)
G ranges (Sub x y) = two_of (λ r s. within (difference_range r s)) (G ranges x) (G ranges y)
G ranges (Mul x y) = two_of (λ r s. within (product_range r s)) (G ranges x) (G ranges y)
G ranges (FloorDiv x e) = one_of (λ r. quotient_range r (2 ^ e)) (G ranges x)
G ranges (Min x y) = two_of (λ r s. Some (min_range r s)) (G ranges x) (G ranges y)
G ranges (Max x y) = two_of (λ r s. Some (max_range r s)) (G ranges x) (G ranges y)
G ranges (Abs x) = one_of abs_range (G ranges x)
G ranges (Sel a b x y) =
    two_of (λ p q. two_of (λ r s. Some (choice_range p q r s)) (G ranges x) (G ranges y)) (G ranges a) (G ranges b)
G ranges (Wrap t x) = one_of (wrap_range t) (G ranges x)
G ranges (Sat t x) = one_of (clamp_range t) (G ranges x)

-- what a form keeps: its variables are numbered below count, its numbers are within the limits, and its exponents are at most 119
abbrev pub IsFormOver : ℕ → Shape → Type 0
IsFormOver count (Var n) = n < count
IsFormOver count (Num n) = Includes (range (neg_ℤ furthest) furthest) n
IsFormOver count (Pow e) = e < 120
IsFormOver count (Add x y) = IsFormOver count x × IsFormOver count y
IsFormOver count (Sub x y) = IsFormOver count x × IsFormOver count y
IsFormOver count (Mul x y) = IsFormOver count x × IsFormOver count y
IsFormOver count (FloorDiv x e) = IsFormOver count x × (e < 120)
IsFormOver count (Min x y) = IsFormOver count x × IsFormOver count y
IsFormOver count (Max x y) = IsFormOver count x × IsFormOver count y
IsFormOver count (Abs x) = IsFormOver count x
IsFormOver count (Sel a b x y) = IsFormOver count a × IsFormOver count b × IsFormOver count x × IsFormOver count y
IsFormOver count (Wrap t x) = IsFormOver count x
IsFormOver count (Sat t x) = IsFormOver count x
