-- What is made of a template, within the limits of forms.
use Rattle.std.specs.Prelude.{◌≡◌, ℕ, ℤ, Bool, true, false, ◌&&◌, nat_lt, neg_ℤ, Result, Ok, Err, ◌≤◌}
use Rattle.std.specs.Int.Signed.{le_z}
use Rattle.pf_ints.specs.Meaning.Ranges.{furthest}
use Rattle.pf_forms.specs.Meaning.Shapes.{Shape}
use Rattle.pf_forms.specs.Meaning.Values.{IsFormOver}
use Rattle.pf_templates.specs.declared.fault.BuildFault.{BuildFault}
use Rattle.pf_templates.specs.declared.fault.BuildFault.TheVariants.{TooWide, Memory}
use Rattle.pf_templates.specs.Meaning.Letters.{Letters, exponent_at, numeral_at}
use Rattle.pf_templates.specs.Meaning.Templates.{Tree, Leaf, Num, Pow, Add, Sub, Mul, FloorDiv, Min, Max, Abs, Sel, Wrap, Sat}

-- the number is within the limits
abbrev pub is_within_forms : ℤ → Bool
is_within_forms n = le_z (neg_ℤ furthest) n && le_z n furthest

-- the template's own numbers and exponents are within the limits
abbrev pub has_room : Letters → Tree → Bool
has_room l (Leaf n) = true
has_room l (Num n) = is_within_forms (numeral_at l n)
has_room l (Pow e) = nat_lt (exponent_at l e) 120
has_room l (Add x y) = has_room l x && has_room l y
has_room l (Sub x y) = has_room l x && has_room l y
has_room l (Mul x y) = has_room l x && has_room l y
has_room l (FloorDiv x e) = has_room l x && nat_lt (exponent_at l e) 120
has_room l (Min x y) = has_room l x && has_room l y
has_room l (Max x y) = has_room l x && has_room l y
has_room l (Abs x) = has_room l x
has_room l (Sel a b x y) = has_room l a && (has_room l b && (has_room l x && has_room l y))
has_room l (Wrap t x) = has_room l x
has_room l (Sat t x) = has_room l x

-- the form is answered where there is room for it, unless memory is wanting; view tells the form
abbrev pub Makes : {A : Type 0} → (A → Shape) → Result A BuildFault → Bool → Shape → Type 0
Makes view (Ok g) room f = (room ≡ true) × (view g ≡ f)
Makes view (Err TooWide) room f = room ≡ false
Makes view (Err Memory) room f = Unit {0}

-- what the letters stand for are forms whose variables are numbered below count, and exponents within the limits
pub record AreForms (count : ℕ) (l : Letters) : Type 0 where
  pub x : IsFormOver count l.x
  pub y : IsFormOver count l.y
  pub z : IsFormOver count l.z
  pub v : IsFormOver count l.v
  pub a : l.a ≤ 120
  pub b : l.b ≤ 120
