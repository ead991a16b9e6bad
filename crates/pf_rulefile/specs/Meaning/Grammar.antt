-- The grammar of numbers and of sides. Each relation says that tokens begin with a phrase, and which ones follow it.
use Rattle.std.specs.Prelude.{◌≡◌, ℕ, zero, suc, ℤ, pos, List, [], ◌∷◌, Bool, true, false, if◌then◌else◌, Option, Some, None, option_map, codes}
use Rattle.std.specs.Str.{bytes_eq}
use Rattle.pf_values.specs.declared.op.Op.{Op}
use Rattle.pf_values.specs.declared.op.Op.TheVariants.{Cast, Add, Sub, Mul, ShiftLeft, ShiftRight}
use Rattle.pf_laneops.specs.declared.lane_name.LaneName.{LaneName}
use Rattle.pf_rules.specs.declared.number.LinOf.{LinOf}
use Rattle.pf_rules.specs.declared.number.LinOf.TheVariants as of
use Rattle.pf_rules.specs.declared.number.LinPart.{LinPart}
use Rattle.pf_rules.specs.declared.number.Amount.{Amount}
use Rattle.pf_rules.specs.declared.number.Amount.TheVariants as amount
use Rattle.pf_rules.specs.declared.number.NumberItem.{NumberItem}
use Rattle.pf_rules.specs.declared.number.NumberItem.TheVariants as item
use Rattle.pf_rules.specs.declared.number.NumberPart.{NumberPart}
use Rattle.pf_rules.specs.declared.number.Number.{Number}
use Rattle.pf_rules.specs.declared.pattern.PatType.{PatType}
use Rattle.pf_rulefile.specs.declared.word.Language.{Language}
use Rattle.pf_rulefile.specs.declared.word.Language.TheVariants.{Operators, Lanes}
use Rattle.pf_rulefile.specs.Meaning.Tokens.{int_of}
use Rattle.pf_rulefile.specs.Meaning.Words.{ptype_of, closing_type, comparison, is_variable, op_in, call_ops, shape_of, is_word, lane_in, lane_ops, lane_shape}

abbrev pub Tokens : Type 0
Tokens = List (List ℕ)

-- ---- sums: parts with signs between them, which tell of the next part whether it is taken away
pub data AreParts {A : Type 0} (sign : List ℕ → Option Bool) (IsPart : Bool → A → Tokens → Tokens → Type 0) : Bool → List A → Tokens → Tokens → Type 0 where
  last_part : {minus : Bool} {a : A} {ts us : Tokens} → IsPart minus a ts us → AreParts sign IsPart minus (a ∷ []) ts us
  more_parts : {minus next : Bool} {a : A} {xs : List A} {s : List ℕ} {ts us vs : Tokens} → IsPart minus a ts (s ∷ us) → sign s ≡ Some next → AreParts sign IsPart next xs us vs → AreParts sign IsPart minus (a ∷ xs) ts vs

abbrev pub sum_sign : List ℕ → Option Bool
sum_sign w = if bytes_eq w (codes "+") then Some false else (if bytes_eq w (codes "-") then Some true else None)

-- the first part may be taken away too
pub data IsSum {A : Type 0} (IsPart : Bool → A → Tokens → Tokens → Type 0) : List A → Tokens → Tokens → Type 0 where
  unsigned_sum : {xs : List A} {ts us : Tokens} → AreParts sum_sign IsPart false xs ts us → IsSum IsPart xs ts us
  negated_sum : {xs : List A} {ts us : Tokens} → AreParts sum_sign IsPart true xs ts us → IsSum IsPart xs (codes "-" ∷ ts) us

-- ---- numbers
abbrev pub unit_of : List ℕ → Option LinOf
unit_of w = if bytes_eq w (codes "w") then Some of.W else (if bytes_eq w (codes "k") then Some of.K else None)

abbrev pub lin : Bool → ℤ → LinOf → LinPart
lin minus times unit = record { minus = minus; times = times; of = unit }

-- a part of a linear amount: a number, `w` or `k`, or a multiple of one of these
pub data IsLin (minus : Bool) : LinPart → Tokens → Tokens → Type 0 where
  lin_int : {w : List ℕ} {n : ℤ} {ts : Tokens} → int_of w ≡ Some n → IsLin minus (lin minus n of.One) (w ∷ ts) ts
  lin_unit : {w : List ℕ} {u : LinOf} {ts : Tokens} → unit_of w ≡ Some u → IsLin minus (lin minus (pos 1) u) (w ∷ ts) ts
  lin_times : {w v : List ℕ} {n : ℤ} {u : LinOf} {ts : Tokens} → int_of w ≡ Some n → unit_of v ≡ Some u → IsLin minus (lin minus n u) (w ∷ codes "*" ∷ v ∷ ts) ts

abbrev pub plain_amount : List ℕ → Option Amount
plain_amount w = if bytes_eq w (codes "w") then Some amount.W else (if bytes_eq w (codes "k") then Some amount.K else option_map amount.Int (int_of w))

-- an amount or an exponent, with round brackets at most so deep
pub data IsAmount : ℕ → Amount → Tokens → Tokens → Type 0 where
  plain_word : {d : ℕ} {w : List ℕ} {k : Amount} {ts : Tokens} → plain_amount w ≡ Some k → IsAmount d k (w ∷ ts) ts
  in_brackets : {d : ℕ} {ps : List LinPart} {ts us : Tokens} → IsSum IsLin ps ts (codes ")" ∷ us) → IsAmount (suc d) (amount.Linear ps) (codes "(" ∷ ts) us

abbrev pub part : Bool → NumberItem → NumberPart
part minus i = record { minus = minus; item = i }

abbrev pub plain_item : List ℕ → Option NumberItem
plain_item w = if bytes_eq w (codes "w") then Some item.W else (if bytes_eq w (codes "k") then Some item.K else option_map item.Int (int_of w))

-- an item of a number: a number, `w` or `k`, a power of 2, or a multiple of one
pub data IsItem (d : ℕ) (minus : Bool) : NumberPart → Tokens → Tokens → Type 0 where
  item_word : {w : List ℕ} {i : NumberItem} {ts : Tokens} → plain_item w ≡ Some i → IsItem d minus (part minus i) (w ∷ ts) ts
  item_power : {k : Amount} {ts us : Tokens} → IsAmount d k ts us → IsItem d minus (part minus (item.Power (pos 1) k)) (codes "2" ∷ codes "^" ∷ ts) us
  item_times : {w : List ℕ} {n : ℤ} {k : Amount} {ts us : Tokens} → int_of w ≡ Some n → IsAmount d k ts us → IsItem d minus (part minus (item.Power n k)) (w ∷ codes "*" ∷ codes "2" ∷ codes "^" ∷ ts) us

abbrev pub IsNumber : ℕ → Number → Tokens → Tokens → Type 0
IsNumber d n ts us = IsSum (IsItem d) n.parts ts us

-- ---- sides

-- an expression as it is written, but for its brackets: names, typed numbers, operands one behind the other, operators, and lane operations,
-- None being one that there isn't
pub data Written : Type 0 where
  Name : List ℕ → Written
  Typed : Number → PatType → Written
  Pair : Written → Written → Written
  Node : Op → Option PatType → Amount → Written → Written
  Lane : Option LaneName → Option PatType → Amount → Written → Written

-- what is meant: an expression without infix operators outside of brackets, one of products, one of products and sums, a whole one, or a list of so
-- many and one
pub data Phrase : Type 0 where
  Atom : Language → Phrase
  Product : Phrase
  Sum : Phrase
  Whole : Language → Phrase
  Operands : Language → ℕ → Phrase

abbrev pub times_of : List ℕ → Option Op
times_of w = if bytes_eq w (codes "*") then Some Mul else None

abbrev pub sum_op_of : List ℕ → Option Op
sum_op_of w = if bytes_eq w (codes "+") then Some Add else (if bytes_eq w (codes "-") then Some Sub else None)

abbrev pub shift_of : List ℕ → Option Op
shift_of w = if bytes_eq w (codes "<<") then Some ShiftLeft else (if bytes_eq w (codes ">>") then Some ShiftRight else None)

abbrev pub no_amount : Amount
no_amount = amount.Int (pos 0)

abbrev pub over : Op → Written → Written
over o p = Node o None no_amount p

abbrev pub in_order : Bool → Written → Written → Written
in_order true a b = Pair b a
in_order false a b = Pair a b

-- the type that a call states in front of its operands, or none
pub data IsStated : Bool → Option PatType → Tokens → Tokens → Type 0 where
  unstated : {ts : Tokens} → IsStated false None ts ts
  stated : {w : List ℕ} {ty : PatType} {ts : Tokens} → ptype_of w ≡ Some ty → IsStated true (Some ty) (w ∷ codes "," ∷ ts) ts

-- the amount that a call has behind its operands, or none
pub data IsLastAmount (d : ℕ) : Bool → Amount → Tokens → Tokens → Type 0 where
  no_last : {ts : Tokens} → IsLastAmount d false no_amount ts ts
  last_amount : {k : Amount} {ts us : Tokens} → IsAmount d k ts us → IsLastAmount d true k (codes "," ∷ ts) us

-- such an expression, with round brackets at most so deep
pub data IsSide : ℕ → Phrase → Written → Tokens → Tokens → Type 0 where
  named : {d : ℕ} {l : Language} {w : List ℕ} {ts : Tokens} → is_variable w ≡ true → IsSide d (Atom l) (Name w) (w ∷ ts) ts
  typed_number : {d : ℕ} {l : Language} {n : Number} {w : List ℕ} {ty : PatType} {ts us : Tokens} → IsNumber d n ts (w ∷ us) → closing_type w ≡ Some ty → IsSide d (Atom l) (Typed n ty) (codes "{" ∷ ts) us
  bracketed : {d : ℕ} {l : Language} {p : Written} {ts us : Tokens} → IsSide d (Whole l) p ts (codes ")" ∷ us) → IsSide (suc d) (Atom l) p (codes "(" ∷ ts) us
  cast : {d : ℕ} {w : List ℕ} {ty : PatType} {p : Written} {ts us : Tokens} → ptype_of w ≡ Some ty → IsSide d (Whole Operators) p ts (codes ")" ∷ us) →
      IsSide (suc d) (Atom Operators) (Node Cast (Some ty) no_amount p) (w ∷ codes "(" ∷ ts) us
  called : {d : ℕ} {w : List ℕ} {o : Op} {to : Option PatType} {k : Amount} {p : Written} {ts us vs ws : Tokens} → op_in call_ops w ≡ Some o → IsStated (shape_of o).states to ts us →
      IsSide d (Operands Operators (shape_of o).more) p us vs → IsLastAmount d (shape_of o).amount k vs (codes ")" ∷ ws) → IsSide (suc d) (Atom Operators) (Node o to k p) (w ∷ codes "(" ∷ ts) ws
  choice : {d : ℕ} {w : List ℕ} {o : Op} {swap : Bool} {a b x y : Written} {ts us vs ws zs : Tokens} → IsSide d (Whole Operators) a ts (w ∷ us) → comparison w ≡ Some (o, swap) →
      IsSide d (Whole Operators) b us (codes "," ∷ vs) → IsSide d (Whole Operators) x vs (codes "," ∷ ws) → IsSide d (Whole Operators) y ws (codes ")" ∷ zs) →
      IsSide (suc d) (Atom Operators) (over o (Pair (Pair (in_order swap a b) x) y)) (codes "select" ∷ codes "(" ∷ ts) zs
  lane_called : {d : ℕ} {w : List ℕ} {o : LaneName} {to : Option PatType} {k : Amount} {p : Written} {ts us vs ws : Tokens} → lane_in lane_ops w ≡ Some o → IsStated (lane_shape o).states to ts us →
      IsSide d (Operands Lanes (lane_shape o).more) p us vs → IsLastAmount d (lane_shape o).amount k vs (codes ")" ∷ ws) →
      IsSide (suc d) (Atom Lanes) (Lane (Some o) to k p) (codes "@" ∷ w ∷ codes "(" ∷ ts) ws
  unknown_called : {d more : ℕ} {w : List ℕ} {states has : Bool} {to : Option PatType} {k : Amount} {p : Written} {ts us vs ws : Tokens} → lane_in lane_ops w ≡ None → is_word w ≡ true → IsStated states to ts us →
      IsSide d (Operands Lanes more) p us vs → IsLastAmount d has k vs (codes ")" ∷ ws) → IsSide (suc d) (Atom Lanes) (Lane None to k p) (codes "@" ∷ w ∷ codes "(" ∷ ts) ws
  factor : {d : ℕ} {p : Written} {ts us : Tokens} → IsSide d (Atom Operators) p ts us → IsSide d Product p ts us
  product : {d : ℕ} {w : List ℕ} {o : Op} {p q : Written} {ts us vs : Tokens} → IsSide d Product p ts (w ∷ us) → times_of w ≡ Some o → IsSide d (Atom Operators) q us vs → IsSide d Product (over o (Pair p q)) ts vs
  term : {d : ℕ} {p : Written} {ts us : Tokens} → IsSide d Product p ts us → IsSide d Sum p ts us
  sum : {d : ℕ} {w : List ℕ} {o : Op} {p q : Written} {ts us vs : Tokens} → IsSide d Sum p ts (w ∷ us) → sum_op_of w ≡ Some o → IsSide d Product q us vs → IsSide d Sum (over o (Pair p q)) ts vs
  unshifted : {d : ℕ} {p : Written} {ts us : Tokens} → IsSide d Sum p ts us → IsSide d (Whole Operators) p ts us
  shifted : {d : ℕ} {w : List ℕ} {o : Op} {k : Amount} {p : Written} {ts us vs : Tokens} → IsSide d (Whole Operators) p ts (w ∷ us) → shift_of w ≡ Some o → IsAmount d k us vs → IsSide d (Whole Operators) (Node o None k p) ts vs
  of_lanes : {d : ℕ} {p : Written} {ts us : Tokens} → IsSide d (Atom Lanes) p ts us → IsSide d (Whole Lanes) p ts us
  one_operand : {d : ℕ} {l : Language} {p : Written} {ts us : Tokens} → IsSide d (Whole l) p ts us → IsSide d (Operands l zero) p ts us
  more_operands : {d n : ℕ} {l : Language} {p q : Written} {ts us vs : Tokens} → IsSide d (Operands l n) p ts (codes "," ∷ us) → IsSide d (Whole l) q us vs → IsSide d (Operands l (suc n)) (Pair p q) ts vs
