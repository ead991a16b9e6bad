-- What the letters of a template stand for.
use Rattle.std.specs.Prelude.{ℕ, ℤ, pos, ◌+◌, ◌-◌, ◌^◌, ◌-ℤ◌, false}
use Rattle.pf_ints.specs.declared.lane.LaneType.{LaneType}
use Rattle.pf_ints.specs.declared.lane.Bits.TheVariants.{Eight}
use Rattle.pf_ints.specs.Meaning.Lanes.{least, greatest}
use Rattle.pf_forms.specs.Meaning.Shapes.{Shape, shape}
use Rattle.pf_templates.specs.Meaning.Exponents.{exponent_of}
use Rattle.pf_templates.specs.declared.given.Given.{Given}
use Rattle.pf_templates.specs.declared.template.Letter.{Letter}
use Rattle.pf_templates.specs.declared.template.Letter.TheVariants.{X, Y, Z, V}
use Rattle.pf_templates.specs.declared.template.Which.{Which}
use Rattle.pf_templates.specs.declared.template.Which.TheVariants.{T, U}
use Rattle.pf_templates.specs.declared.template.Exponent.{Exponent}
use Rattle.pf_templates.specs.declared.template.Exponent.TheVariants as exponent
use Rattle.pf_templates.specs.declared.template.Numeral.{Numeral}
use Rattle.pf_templates.specs.declared.template.Numeral.TheVariants as numeral

pub record Letters : Type 0 where
  pub x : Shape
  pub y : Shape
  pub z : Shape
  pub v : Shape
  pub t : LaneType
  pub u : LaneType
  pub a : ℕ
  pub b : ℕ

abbrev pub letters : Given → Letters
letters g = record { x = shape g.x.now; y = shape g.y.now; z = shape g.z.now; v = shape g.v.now; t = g.t; u = g.u; a = g.a; b = g.b }

-- each letter stands for f
abbrev pub start : Shape → Letters
start f =
    let t : LaneType = record { signed = false; bits = Eight } in
    record { x = f; y = f; z = f; v = f; t = t; u = t; a = 0; b = 0 }

abbrev pub form_at : Letters → Letter → Shape
form_at l X = l.x
form_at l Y = l.y
form_at l Z = l.z
form_at l V = l.v

abbrev pub type_at : Letters → Which → LaneType
type_at l T = l.t
type_at l U = l.u

abbrev pub exponent_at : Letters → Exponent → ℕ
exponent_at l (exponent.Fixed e) = e
exponent_at l exponent.A = l.a
exponent_at l exponent.B = l.b
exponent_at l exponent.Sum = l.a + l.b
exponent_at l exponent.Rest = l.b - l.a

abbrev pub numeral_at : Letters → Numeral → ℤ
numeral_at l (numeral.Fixed n) = n
numeral_at l numeral.TwoToA = pos (2 ^ l.a)
numeral_at l numeral.BelowTwoToA = pos (2 ^ l.a) -ℤ pos 1
numeral_at l numeral.HalfOfTwoToA = pos (2 ^ (l.a - 1))
numeral_at l numeral.LeastT = least l.t
numeral_at l numeral.GreatestT = greatest l.t

-- l with another meaning of one letter
abbrev pub with_form : Letters → Letter → Shape → Letters
with_form l X f = record l { x = f }
with_form l Y f = record l { y = f }
with_form l Z f = record l { z = f }
with_form l V f = record l { v = f }

abbrev pub with_type : Letters → Which → LaneType → Letters
with_type l T ty = record l { t = ty }
with_type l U ty = record l { u = ty }

abbrev pub with_exponent : Letters → Exponent → ℕ → Letters
with_exponent l exponent.A e = record l { a = e }
with_exponent l exponent.B e = record l { b = e }
with_exponent l _ e = l

abbrev pub with_number : Letters → Numeral → ℤ → Letters
with_number l numeral.TwoToA n = record l { a = exponent_of n }
with_number l _ n = l
