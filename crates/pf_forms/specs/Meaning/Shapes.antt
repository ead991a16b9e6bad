-- A form as a tree, without the places in memory where its parts lie.
use Rattle.std.specs.Prelude.{ℕ, ℤ}
use Rattle.pf_ints.specs.declared.lane.LaneType.{LaneType}
use Rattle.pf_forms.specs.declared.form.Form.{Form}
use Rattle.pf_forms.specs.declared.form.Form as code

pub data Shape : Type 0 where
  Var : ℕ → Shape
  Num : ℤ → Shape
  Pow : ℕ → Shape
  Add : Shape → Shape → Shape
  Sub : Shape → Shape → Shape
  Mul : Shape → Shape → Shape
  FloorDiv : Shape → ℕ → Shape
  Min : Shape → Shape → Shape
  Max : Shape → Shape → Shape
  Abs : Shape → Shape
  Sel : Shape → Shape → Shape → Shape → Shape
  Wrap : LaneType → Shape → Shape
  Sat : LaneType → Shape → Shape

abbrev pub shape : Form → Shape
shape (code.Var n) = Var n
shape (code.Num n) = Num n
shape (code.Pow e) = Pow e
shape (code.Add' p x q y) = Add (shape x) (shape y)
shape (code.Sub' p x q y) = Sub (shape x) (shape y)
shape (code.Mul' p x q y) = Mul (shape x) (shape y)
shape (code.FloorDiv' p x e) = FloorDiv (shape x) e
shape (code.Min' p x q y) = Min (shape x) (shape y)
shape (code.Max' p x q y) = Max (shape x) (shape y)
shape (code.Abs' p x) = Abs (shape x)
shape (code.Sel' p a q b r x s y) = Sel (shape a) (shape b) (shape x) (shape y)
shape (code.Wrap' t p x) = Wrap t (shape x)
shape (code.Sat' t p x) = Sat t (shape x)
