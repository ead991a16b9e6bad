-- Operations on numbers alone.
use Rattle.std.specs.Prelude.{ℤ, pos, Bool, true, false, ◌&&◌}
use Rattle.pf_forms.specs.Meaning.Shapes.{Shape, Var, Num, Pow, Add, Sub, Mul, FloorDiv, Min, Max, Abs, Sel, Wrap, Sat}
use Rattle.pf_forms.specs.Meaning.Values.{FVal}

abbrev pub is_number : Shape → Bool
is_number (Num n) = true
is_number _ = false

-- an operation on numbers alone
abbrev pub is_foldable : Shape → Bool
is_foldable (Var n) = false
is_foldable (Num n) = false
is_foldable (Pow e) = false
is_foldable (Add x y) = is_number x && is_number y
is_foldable (Sub x y) = is_number x && is_number y
is_foldable (Mul x y) = is_number x && is_number y
is_foldable (FloorDiv x e) = is_number x
is_foldable (Min x y) = is_number x && is_number y
is_foldable (Max x y) = is_number x && is_number y
is_foldable (Abs x) = is_number x
is_foldable (Sel a b x y) = is_number a && (is_number b && (is_number x && is_number y))
is_foldable (Wrap t x) = is_number x
is_foldable (Sat t x) = is_number x

-- the value of a form without variables
abbrev pub closed_value : Shape → ℤ
closed_value f = FVal (λ n. pos 0) f
