-- Forms with letters.
use Rattle.pf_forms.specs.Meaning.Shapes.{Shape}
use Rattle.pf_forms.specs.Meaning.Shapes as f
use Rattle.pf_templates.specs.declared.template.Letter.{Letter}
use Rattle.pf_templates.specs.declared.template.Which.{Which}
use Rattle.pf_templates.specs.declared.template.Exponent.{Exponent}
use Rattle.pf_templates.specs.declared.template.Numeral.{Numeral}
use Rattle.pf_templates.specs.declared.template.Template.{Template}
use Rattle.pf_templates.specs.declared.template.Template as code
use Rattle.pf_templates.specs.Meaning.Letters.{Letters, form_at, type_at, exponent_at, numeral_at, with_form, with_type, with_exponent, with_number}

-- a template, without the places in memory where its parts lie
pub data Tree : Type 0 where
  Leaf : Letter → Tree
  Num : Numeral → Tree
  Pow : Exponent → Tree
  Add : Tree → Tree → Tree
  Sub : Tree → Tree → Tree
  Mul : Tree → Tree → Tree
  FloorDiv : Tree → Exponent → Tree
  Min : Tree → Tree → Tree
  Max : Tree → Tree → Tree
  Abs : Tree → Tree
  Sel : Tree → Tree → Tree → Tree → Tree
  Wrap : Which → Tree → Tree
  Sat : Which → Tree → Tree

abbrev pub tree : Template → Tree
tree (code.Letter n) = Leaf n
tree (code.Num n) = Num n
tree (code.Pow e) = Pow e
tree (code.Add' p x q y) = Add (tree x) (tree y)
tree (code.Sub' p x q y) = Sub (tree x) (tree y)
tree (code.Mul' p x q y) = Mul (tree x) (tree y)
tree (code.FloorDiv' p x e) = FloorDiv (tree x) e
tree (code.Min' p x q y) = Min (tree x) (tree y)
tree (code.Max' p x q y) = Max (tree x) (tree y)
tree (code.Abs' p x) = Abs (tree x)
tree (code.Sel' p a q b r x s y) = Sel (tree a) (tree b) (tree x) (tree y)
tree (code.Wrap' t p x) = Wrap t (tree x)
tree (code.Sat' t p x) = Sat t (tree x)

-- the form of a template at letters
abbrev pub at : Letters → Tree → Shape
at l (Leaf n) = form_at l n
at l (Num n) = f.Num (numeral_at l n)
at l (Pow e) = f.Pow (exponent_at l e)
at l (Add x y) = f.Add (at l x) (at l y)
at l (Sub x y) = f.Sub (at l x) (at l y)
at l (Mul x y) = f.Mul (at l x) (at l y)
at l (FloorDiv x e) = f.FloorDiv (at l x) (exponent_at l e)
at l (Min x y) = f.Min (at l x) (at l y)
at l (Max x y) = f.Max (at l x) (at l y)
at l (Abs x) = f.Abs (at l x)
at l (Sel a b x y) = f.Sel (at l a) (at l b) (at l x) (at l y)
at l (Wrap t x) = f.Wrap (type_at l t) (at l x)
at l (Sat t x) = f.Sat (type_at l t) (at l x)

-- the letters with what stands in their places in a form; where the form has no such place a letter stays
abbrev pub looked : Tree → Shape → Letters → Letters
looked (Leaf n) g l = with_form l n g
looked (Num k) (f.Num n) l = with_number l k n
looked (Pow e) (f.Pow k) l = with_exponent l e k
looked (Add p q) (f.Add x y) l = looked q y (looked p x l)
looked (Sub p q) (f.Sub x y) l = looked q y (looked p x l)
looked (Mul p q) (f.Mul x y) l = looked q y (looked p x l)
looked (FloorDiv p e) (f.FloorDiv x k) l = with_exponent (looked p x l) e k
looked (Min p q) (f.Min x y) l = looked q y (looked p x l)
looked (Max p q) (f.Max x y) l = looked q y (looked p x l)
looked (Abs p) (f.Abs x) l = looked p x l
looked (Sel p q r s) (f.Sel a b x y) l = looked s y (looked r x (looked q b (looked p a l)))
looked (Wrap w p) (f.Wrap t x) l = with_type (looked p x l) w t
looked (Sat w p) (f.Sat t x) l = with_type (looked p x l) w t
looked _ g l = l
