-- The printed texts of forms.
use Rattle.std.specs.Prelude.{Bool, true, false, ℕ, List, ◌++◌, [], codes, decimal, slice_index_or}
use Rattle.std.specs.Fmt.{signed_decimal}
use Rattle.pf_ints.specs.declared.lane.LaneType.{LaneType}
use Rattle.pf_ints.specs.Meaning.Lanes.{lane_width}
use Rattle.pf_forms.specs.Meaning.Shapes.{Shape, Var, Num, Pow, Add, Sub, Mul, FloorDiv, Min, Max, Abs, Sel, Wrap, Sat}

abbrev pub sign_letter : Bool → List ℕ
sign_letter true = codes "i"
sign_letter false = codes "u"

-- a type's word, as u8 or i32
abbrev pub type_word : LaneType → List ℕ
type_word t = sign_letter t.signed ++ decimal (lane_width t)

abbrev pub power_text : ℕ → List ℕ
power_text e = codes "2^" ++ decimal e

abbrev pub typed_opening : List ℕ → LaneType → List ℕ
typed_opening word t = word ++ type_word t ++ codes "("

-- what is written before the parts of a form
abbrev pub form_opening : Shape → List ℕ
form_opening (Var n) = []
form_opening (Num n) = []
form_opening (Pow e) = []
form_opening (Add x y) = codes "add("
form_opening (Sub x y) = codes "sub("
form_opening (Mul x y) = codes "mul("
form_opening (FloorDiv x e) = codes "div("
form_opening (Min x y) = codes "min("
form_opening (Max x y) = codes "max("
form_opening (Abs x) = codes "abs("
form_opening (Sel a b x y) = codes "sel("
form_opening (Wrap t x) = typed_opening (codes "wrap_") t
form_opening (Sat t x) = typed_opening (codes "sat_") t

abbrev called : Shape → List ℕ → List ℕ
called f parts = form_opening f ++ parts ++ codes ")"

-- what is written of a part that is not the first
abbrev pub next_text : List ℕ → List ℕ
next_text part = codes "," ++ part

abbrev pair_text : List ℕ → List ℕ → List ℕ
pair_text x y = x ++ next_text y

-- a form's text, where names has the variables' names
abbrev pub form_text : List (List ℕ) → Shape → List ℕ
form_text names (Var n) = slice_index_or names n []
form_text names (Num n) = signed_decimal n
form_text names (Pow e) = power_text e
form_text names (Add x y) = called (Add x y) (pair_text (form_text names x) (form_text names y))
form_text names (Sub x y) = called (Sub x y) (pair_text (form_text names x) (form_text names y))
form_text names (Mul x y) = called (Mul x y) (pair_text (form_text names x) (form_text names y))
form_text names (FloorDiv x e) = called (FloorDiv x e) (pair_text (form_text names x) (power_text e))
form_text names (Min x y) = called (Min x y) (pair_text (form_text names x) (form_text names y))
form_text names (Max x y) = called (Max x y) (pair_text (form_text names x) (form_text names y))
form_text names (Abs x) = called (Abs x) (form_text names x)
form_text names (Sel a b x y) =
    called (Sel a b x y)
    (form_text names a ++ next_text (form_text names b) ++ next_text (form_text names x) ++ next_text (form_text names y))
form_text names (Wrap t x) = called (Wrap t x) (form_text names x)
form_text names (Sat t x) = called (Sat t x) (form_text names x)
