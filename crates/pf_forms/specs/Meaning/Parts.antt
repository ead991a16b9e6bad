-- The nodes of a form, and its parts by paths of child numbers.
use Rattle.std.specs.Prelude.{ℕ, ◌+◌, ◌==◌, List, [], ◌∷◌, Option, Some, None, if◌then◌else◌, option_and_then}
use Rattle.std.specs.Option.{option_map_or}
use Rattle.pf_forms.specs.Meaning.Shapes.{Shape, Var, Num, Pow, Add, Sub, Mul, FloorDiv, Min, Max, Abs, Sel, Wrap, Sat}

-- how many nodes a form has; the divisor of a quotient is one
abbrev pub form_node_count : Shape → ℕ
form_node_count (Var n) = 1
form_node_count (Num n) = 1
form_node_count (Pow e) = 1
form_node_count (Add x y) = form_node_count x + form_node_count y + 1
form_node_count (Sub x y) = form_node_count x + form_node_count y + 1
form_node_count (Mul x y) = form_node_count x + form_node_count y + 1
form_node_count (FloorDiv x e) = form_node_count x + 2
form_node_count (Min x y) = form_node_count x + form_node_count y + 1
form_node_count (Max x y) = form_node_count x + form_node_count y + 1
form_node_count (Abs x) = form_node_count x + 1
form_node_count (Sel a b x y) = form_node_count a + form_node_count b + (form_node_count x + form_node_count y) + 1
form_node_count (Wrap t x) = form_node_count x + 1
form_node_count (Sat t x) = form_node_count x + 1

-- the part of a number, counted from 0, of one, two or four parts
abbrev only : Shape → ℕ → Option Shape
only x i = if i == 0 then Some x else None

abbrev either : Shape → Shape → ℕ → Option Shape
either x y i = if i == 0 then Some x else (if i == 1 then Some y else None)

abbrev any_of : Shape → Shape → Shape → Shape → ℕ → Option Shape
any_of a b x y i =
    if i == 0 then Some a else (if i == 1 then Some b else (if i == 2 then Some x else (if i == 3 then Some y else None)))

-- the child of a number
abbrev pub child : Shape → ℕ → Option Shape
child (Var n) i = None
child (Num n) i = None
child (Pow e) i = None
child (Add x y) i = either x y i
child (Sub x y) i = either x y i
child (Mul x y) i = either x y i
child (FloorDiv x e) i = only x i
child (Min x y) i = either x y i
child (Max x y) i = either x y i
child (Abs x) i = only x i
child (Sel a b x y) i = any_of a b x y i
child (Wrap t x) i = only x i
child (Sat t x) i = only x i

-- the part at a path, or none where the path leaves the form
abbrev pub part_at : Shape → List ℕ → Option Shape
part_at f [] = Some f
part_at f (i ∷ path) = option_and_then (λ x. part_at x path) (child f i)

-- f with z in place of its child i
abbrev pub with_child : Shape → ℕ → Shape → Shape
with_child (Var n) i z = Var n
with_child (Num n) i z = Num n
with_child (Pow e) i z = Pow e
with_child (Add x y) i z = if i == 0 then Add z y else Add x z
with_child (Sub x y) i z = if i == 0 then Sub z y else Sub x z
with_child (Mul x y) i z = if i == 0 then Mul z y else Mul x z
with_child (FloorDiv x e) i z = FloorDiv z e
with_child (Min x y) i z = if i == 0 then Min z y else Min x z
with_child (Max x y) i z = if i == 0 then Max z y else Max x z
with_child (Abs x) i z = Abs z
with_child (Sel a b x y) i z = if i == 0 then Sel z b x y else (if i == 1 then Sel a z x y else (if i == 2 then Sel a b z y else Sel a b x z))
with_child (Wrap t x) i z = Wrap t z
with_child (Sat t x) i z = Sat t z

-- f with z where the path leads, and f itself where it leads out of f
abbrev pub put_at : Shape → List ℕ → Shape → Shape
put_at f [] z = z
put_at f (i ∷ path) z = option_map_or (λ x. with_child f i (put_at x path z)) (child f i) f
