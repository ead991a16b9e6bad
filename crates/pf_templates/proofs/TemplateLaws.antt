-- The form of a template over letters that are forms is a form exactly where there is room, and what is looked up are forms.
use Rattle.std.proofs.Common.{◌≡◌, refl, ℕ, ◌<◌, ℤ, Bool, true, false, arith, lit≤}
use Rattle.std.specs.Prelude.{◌&&◌, neg_ℤ, nat_lt}
use Rattle.std.specs.Int.Signed.{le_z}
use Rattle.std.proofs.lemmas.Int.{ints}
use Rattle.std.proofs.lemmas.Bool.Decides.{nat_tests}
use Rattle.pf_ints.specs.Meaning.Ranges.{Includes, range, furthest}
use Rattle.pf_forms.specs.Meaning.Shapes.{Shape}
use Rattle.pf_forms.specs.Meaning.Shapes as f
use Rattle.pf_forms.specs.Meaning.Values.{IsFormOver}
use Rattle.pf_forms.proofs.EqualityLaws.{both}
use Rattle.pf_templates.specs.declared.template.Letter.{Letter}
use Rattle.pf_templates.specs.declared.template.Letter.TheVariants.{X, Y, Z, V}
use Rattle.pf_templates.specs.declared.template.Which.{Which}
use Rattle.pf_templates.specs.declared.template.Which.TheVariants.{T, U}
use Rattle.pf_templates.specs.declared.template.Exponent.{Exponent}
use Rattle.pf_templates.specs.declared.template.Exponent.TheVariants as exponent
use Rattle.pf_templates.specs.declared.template.Numeral.{Numeral}
use Rattle.pf_templates.specs.declared.template.Numeral.TheVariants as numeral
use Rattle.pf_templates.specs.Meaning.Letters.{Letters, start, form_at, exponent_at, with_form, with_type, with_exponent, with_number}
use Rattle.pf_templates.specs.Meaning.Templates.{Tree, Leaf, Num, Pow, Add, Sub, Mul, FloorDiv, Min, Max, Abs, Sel, Wrap, Sat, at, looked}
use Rattle.pf_templates.proofs.ExponentLaws.{exponent_most}
use Rattle.pf_templates.specs.Meaning.Building.{is_within_forms, has_room, AreForms}

pub within_true : (n : ℤ) → is_within_forms n ≡ true → Includes (range (neg_ℤ furthest) furthest) n
within_true n e =
    let p = both (le_z (neg_ℤ furthest) n) (le_z n furthest) e in record { low = omega (arith, ints, p.0); high = omega (arith, ints, p.1) }

pub within_included : (n : ℤ) → Includes (range (neg_ℤ furthest) furthest) n → is_within_forms n ≡ false → ⊥
within_included n h e = by_tests (le_z (neg_ℤ furthest) n) (le_z n furthest) refl refl e
  where
    by_tests : (b c : Bool) → le_z (neg_ℤ furthest) n ≡ b → le_z n furthest ≡ c → b && c ≡ false → ⊥
    by_tests true true p q r = cc
    by_tests true false p q r = omega (arith, ints, q, h.high)
    by_tests false c p q r = omega (arith, ints, p, h.low)

below_true : (e : ℕ) → nat_lt e 120 ≡ true → e < 120
below_true e h = grind (arith, nat_tests)

below_false : (e : ℕ) → nat_lt e 120 ≡ false → e < 120 → ⊥
below_false e h k = grind (arith, nat_tests)

letter_form : (count : ℕ) (l : Letters) → AreForms count l → (n : Letter) → IsFormOver count (form_at l n)
letter_form count l h X = h.x
letter_form count l h Y = h.y
letter_form count l h Z = h.z
letter_form count l h V = h.v

-- where there is room
module _ (count : ℕ) (l : Letters) (h : AreForms count l) where
  pub form_of_room : (t : Tree) → has_room l t ≡ true → IsFormOver count (at l t)
  form_of_room (Leaf n) e = letter_form count l h n
  form_of_room (Num n) e = within_true _ e
  form_of_room (Pow k) e = below_true _ e
  form_of_room (Add x y) e = let p = both _ _ e in (form_of_room x p.0, form_of_room y p.1)
  form_of_room (Sub x y) e = let p = both _ _ e in (form_of_room x p.0, form_of_room y p.1)
  form_of_room (Mul x y) e = let p = both _ _ e in (form_of_room x p.0, form_of_room y p.1)
  form_of_room (FloorDiv x k) e = let p = both _ _ e in (form_of_room x p.0, below_true _ p.1)
  form_of_room (Min x y) e = let p = both _ _ e in (form_of_room x p.0, form_of_room y p.1)
  form_of_room (Max x y) e = let p = both _ _ e in (form_of_room x p.0, form_of_room y p.1)
  form_of_room (Abs x) e = form_of_room x e
  form_of_room (Sel a b x y) e =
      let p = both _ _ e in
      let q = both _ _ p.1 in
      let r = both _ _ q.1 in
      (form_of_room a p.0, form_of_room b q.0, form_of_room x r.0, form_of_room y r.1)
  form_of_room (Wrap t x) e = form_of_room x e
  form_of_room (Sat t x) e = form_of_room x e

-- where there is none
either_false : (b c : Bool) → (P Q : Type 0) → (b ≡ false → P → ⊥) → (c ≡ false → Q → ⊥) → b && c ≡ false → P × Q → ⊥
either_false true c P Q p q e h = q e h.1
either_false false c P Q p q e h = p refl h.0

module _ (count : ℕ) (l : Letters) where
  pub no_form : (t : Tree) → has_room l t ≡ false → IsFormOver count (at l t) → ⊥
  no_form (Leaf n) e h = absurd (cc)
  no_form (Num n) e h = within_included _ h e
  no_form (Pow k) e h = below_false _ e h
  no_form (Add x y) e h = either_false _ _ _ _ (no_form x) (no_form y) e h
  no_form (Sub x y) e h = either_false _ _ _ _ (no_form x) (no_form y) e h
  no_form (Mul x y) e h = either_false _ _ _ _ (no_form x) (no_form y) e h
  no_form (FloorDiv x k) e h = either_false _ _ _ _ (no_form x) (below_false (exponent_at l k)) e h
  no_form (Min x y) e h = either_false _ _ _ _ (no_form x) (no_form y) e h
  no_form (Max x y) e h = either_false _ _ _ _ (no_form x) (no_form y) e h
  no_form (Abs x) e h = no_form x e h
  no_form (Sel a b x y) e h =
      either_false _ _ _ (IsFormOver count (at l b) × (IsFormOver count (at l x) × IsFormOver count (at l y))) (no_form a)
      (either_false _ _ _ (IsFormOver count (at l x) × IsFormOver count (at l y)) (no_form b) (either_false _ _ _ _ (no_form x) (no_form y)))
      e
      (h.0, (h.1, (h.2, h.3)))
  no_form (Wrap t x) e h = no_form x e h
  no_form (Sat t x) e h = no_form x e h

-- what is looked up
module _ (count : ℕ) where
  form_kept : (l : Letters) (n : Letter) (g : Shape) → AreForms count l → IsFormOver count g → AreForms count (with_form l n g)
  form_kept l X g h k = record { x = k; y = h.y; z = h.z; v = h.v; a = h.a; b = h.b }
  form_kept l Y g h k = record { x = h.x; y = k; z = h.z; v = h.v; a = h.a; b = h.b }
  form_kept l Z g h k = record { x = h.x; y = h.y; z = k; v = h.v; a = h.a; b = h.b }
  form_kept l V g h k = record { x = h.x; y = h.y; z = h.z; v = k; a = h.a; b = h.b }

  type_kept : (l : Letters) (w : Which) (t : _) → AreForms count l → AreForms count (with_type l w t)
  type_kept l T t h = record { x = h.x; y = h.y; z = h.z; v = h.v; a = h.a; b = h.b }
  type_kept l U t h = record { x = h.x; y = h.y; z = h.z; v = h.v; a = h.a; b = h.b }

  exponent_kept : (l : Letters) (e : Exponent) (k : ℕ) → AreForms count l → k < 120 → AreForms count (with_exponent l e k)
  exponent_kept l exponent.A k h less = record { x = h.x; y = h.y; z = h.z; v = h.v; a = omega (arith, less); b = h.b }
  exponent_kept l exponent.B k h less = record { x = h.x; y = h.y; z = h.z; v = h.v; a = h.a; b = omega (arith, less) }
  exponent_kept l _ k h less = h

  number_kept : (l : Letters) (k : Numeral) (n : ℤ) → AreForms count l → AreForms count (with_number l k n)
  number_kept l numeral.TwoToA n h = record { x = h.x; y = h.y; z = h.z; v = h.v; a = exponent_most n; b = h.b }
  number_kept l _ n h = h

  pub looked_forms : (t : Tree) (g : Shape) (l : Letters) → AreForms count l → IsFormOver count g → AreForms count (looked t g l)
  looked_forms (Leaf n) g l h k = form_kept l n g h k
  looked_forms (Num k) (f.Num n) l h i = number_kept l k n h
  looked_forms (Pow e) (f.Pow m) l h k = exponent_kept l e m h k
  looked_forms (Add p q) (f.Add x y) l h k = looked_forms q y _ (looked_forms p x l h k.0) k.1
  looked_forms (Sub p q) (f.Sub x y) l h k = looked_forms q y _ (looked_forms p x l h k.0) k.1
  looked_forms (Mul p q) (f.Mul x y) l h k = looked_forms q y _ (looked_forms p x l h k.0) k.1
  looked_forms (FloorDiv p e) (f.FloorDiv x m) l h k = exponent_kept _ e m (looked_forms p x l h k.0) k.1
  looked_forms (Min p q) (f.Min x y) l h k = looked_forms q y _ (looked_forms p x l h k.0) k.1
  looked_forms (Max p q) (f.Max x y) l h k = looked_forms q y _ (looked_forms p x l h k.0) k.1
  looked_forms (Abs p) (f.Abs x) l h k = looked_forms p x l h k
  looked_forms (Sel p q r s) (f.Sel a b x y) l h k =
      looked_forms s y _ (looked_forms r x _ (looked_forms q b _ (looked_forms p a l h k.0) k.1) k.2) k.3
  looked_forms (Wrap w p) (f.Wrap t x) l h k = type_kept _ w t (looked_forms p x l h k)
  looked_forms (Sat w p) (f.Sat t x) l h k = type_kept _ w t (looked_forms p x l h k)
  looked_forms _ g l h k = h

  start_forms : (g : Shape) → IsFormOver count g → AreForms count (start g)
  start_forms g h = record { x = h; y = h; z = h; v = h; a = lit≤ tt; b = lit≤ tt }

  pub looked_at : (t : Tree) (g : Shape) (l m : Letters) → l ≡ start g → m ≡ looked t g l → IsFormOver count g → AreForms count m
  looked_at t g l m d e h = rw (e, d) (looked_forms t g (start g) (start_forms g h) h)
