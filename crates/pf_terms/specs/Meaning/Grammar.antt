-- Which tokens spell an expression.
use Rattle.std.specs.Prelude.{◌≡◌, ℕ, ℤ, pos, neg_ℤ, Bool, true, false, List, [], ◌∷◌, ◌++◌, Some, None}
use Rattle.pf_ints.specs.declared.lane.LaneType.{LaneType}
use Rattle.pf_ints.specs.Meaning.Lanes.{is_in}
use Rattle.pf_values.specs.declared.op.Op.{Op}
use Rattle.pf_values.specs.declared.op.Op.TheVariants.{Cast, Add, Sub, Mul, SelectGreater, SelectEqual, Min, Max, Abs, WideningAdd, WideningSub, WideningMul, ExtendingAdd, HalvingAdd, RoundingHalvingAdd, HalvingSub, SaturatingAdd, SaturatingSub, SaturatingCast, Absd, RoundingShr, MulShr, RoundingMulShr}
use Rattle.pf_values.specs.declared.op.Op.TheVariants.{ShiftLeft as ShiftLeftBy, ShiftRight as ShiftRightBy}
use Rattle.pf_terms.specs.declared.parse.symbol.CallShape.{CallShape}
use Rattle.pf_terms.specs.declared.parse.symbol.CallShape.TheVariants.{One, Two, OneAndAmount, TwoAndAmount, TypeAndOne, NoCall}
use Rattle.pf_terms.specs.declared.token.TokenKind.{TokenKind}
use Rattle.pf_terms.specs.declared.token.TokenKind.TheVariants.{Name, TypeWord, Number, Typed, Word, Choose, Open, Close, OpenSquare, CloseSquare, Comma, Plus, Minus, Times, ShiftLeft, ShiftRight, Less, Greater, Same}
use Rattle.pf_terms.specs.declared.parse.syntax_tree.SyntaxTree.{SyntaxTree}
use Rattle.pf_terms.specs.declared.parse.syntax_tree.SyntaxTree.TheVariants.{Number as NumberOf, Name as NameTree, Tap, Node}

-- what stands in the brackets behind an operator's word
abbrev pub call_shape : Op → CallShape
call_shape Cast = NoCall
call_shape Add = NoCall
call_shape Sub = NoCall
call_shape Mul = NoCall
call_shape ShiftLeftBy = NoCall
call_shape ShiftRightBy = NoCall
call_shape SelectGreater = NoCall
call_shape SelectEqual = NoCall
call_shape Abs = One
call_shape RoundingShr = OneAndAmount
call_shape MulShr = TwoAndAmount
call_shape RoundingMulShr = TwoAndAmount
call_shape SaturatingCast = TypeAndOne
call_shape Min = Two
call_shape Max = Two
call_shape WideningAdd = Two
call_shape WideningSub = Two
call_shape WideningMul = Two
call_shape ExtendingAdd = Two
call_shape HalvingAdd = Two
call_shape RoundingHalvingAdd = Two
call_shape HalvingSub = Two
call_shape SaturatingAdd = Two
call_shape SaturatingSub = Two
call_shape Absd = Two

-- how much of an expression is meant: without operators outside of brackets, with products alone, with sums too, or all
pub data Rank : Type 0 where
  Atoms : Rank
  Products : Rank
  Sums : Rank
  Whole : Rank

-- a number that may have a minus
pub data IsInteger : List TokenKind → ℤ → Type 0 where
  plain : (n : ℤ) → IsInteger (Number n ∷ []) n
  minus : (n : ℤ) → IsInteger (Minus ∷ Number n ∷ []) (neg_ℤ n)

-- the sign of a comparison: its operator, and whether its operands change places
pub data IsComparison : TokenKind → Op → Bool → Type 0 where
  greater : IsComparison Greater SelectGreater false
  less : IsComparison Less SelectGreater true
  equal_sign : IsComparison Same SelectEqual false

-- an operator over its operands
abbrev pub over : Op → List SyntaxTree → SyntaxTree
over o args = Node o false None (pos 0) args

-- the tokens spell the expression
pub data Spells : Rank → List TokenKind → SyntaxTree → Type 0 where
  literal : (n : ℤ) (t : LaneType) → is_in t n ≡ true → Spells Atoms (Typed n t ∷ []) (NumberOf n t)
  negated : (n : ℤ) (t : LaneType) → is_in t (neg_ℤ n) ≡ true → Spells Atoms (Minus ∷ Typed n t ∷ []) (NumberOf (neg_ℤ n) t)
  plain_name : (s : List ℕ) → Spells Atoms (Name s ∷ []) (NameTree s)
  placed : (s : List ℕ) (xs ys : List TokenKind) (dx dy : ℤ) → IsInteger xs dx → IsInteger ys dy →
      Spells Atoms (Name s ∷ OpenSquare ∷ (xs ++ Comma ∷ (ys ++ CloseSquare ∷ []))) (Tap s dx dy)
  in_brackets : (ks : List TokenKind) (e : SyntaxTree) → Spells Whole ks e → Spells Atoms (Open ∷ (ks ++ Close ∷ [])) e
  cast : (t : LaneType) (ks : List TokenKind) (e : SyntaxTree) → Spells Whole ks e →
      Spells Atoms (TypeWord t ∷ Open ∷ (ks ++ Close ∷ [])) (Node Cast false (Some t) (pos 0) (e ∷ []))
  one : (o : Op) (ks : List TokenKind) (e : SyntaxTree) → call_shape o ≡ One → Spells Whole ks e → Spells Atoms (Word o ∷ Open ∷ (ks ++ Close ∷ [])) (over o (e ∷ []))
  two : (o : Op) (ks ls : List TokenKind) (e f : SyntaxTree) → call_shape o ≡ Two → Spells Whole ks e → Spells Whole ls f →
      Spells Atoms (Word o ∷ Open ∷ (ks ++ Comma ∷ (ls ++ Close ∷ []))) (over o (e ∷ f ∷ []))
  one_by : (o : Op) (ks : List TokenKind) (e : SyntaxTree) (k : ℤ) → call_shape o ≡ OneAndAmount → Spells Whole ks e →
      Spells Atoms (Word o ∷ Open ∷ (ks ++ Comma ∷ Number k ∷ Close ∷ [])) (Node o false None k (e ∷ []))
  two_by : (o : Op) (ks ls : List TokenKind) (e f : SyntaxTree) (k : ℤ) → call_shape o ≡ TwoAndAmount → Spells Whole ks e → Spells Whole ls f →
      Spells Atoms (Word o ∷ Open ∷ (ks ++ Comma ∷ (ls ++ Comma ∷ Number k ∷ Close ∷ []))) (Node o false None k (e ∷ f ∷ []))
  typed_call : (o : Op) (t : LaneType) (ks : List TokenKind) (e : SyntaxTree) → call_shape o ≡ TypeAndOne → Spells Whole ks e →
      Spells Atoms (Word o ∷ Open ∷ TypeWord t ∷ Comma ∷ (ks ++ Close ∷ [])) (Node o false (Some t) (pos 0) (e ∷ []))
  chosen : (c : TokenKind) (o : Op) (swap : Bool) (cs bs xs ys : List TokenKind) (a b x y : SyntaxTree) → IsComparison c o swap → Spells Whole cs a → Spells Whole bs b → Spells Whole xs x → Spells Whole ys y →
      Spells Atoms (Choose ∷ Open ∷ (cs ++ c ∷ (bs ++ Comma ∷ (xs ++ Comma ∷ (ys ++ Close ∷ []))))) (Node o swap None (pos 0) (a ∷ b ∷ x ∷ y ∷ []))
  alone : (ks : List TokenKind) (e : SyntaxTree) → Spells Atoms ks e → Spells Products ks e
  product : (ks ls : List TokenKind) (e f : SyntaxTree) → Spells Products ks e → Spells Atoms ls f → Spells Products (ks ++ Times ∷ ls) (over Mul (e ∷ f ∷ []))
  term : (ks : List TokenKind) (e : SyntaxTree) → Spells Products ks e → Spells Sums ks e
  sum : (ks ls : List TokenKind) (e f : SyntaxTree) → Spells Sums ks e → Spells Products ls f → Spells Sums (ks ++ Plus ∷ ls) (over Add (e ∷ f ∷ []))
  difference : (ks ls : List TokenKind) (e f : SyntaxTree) → Spells Sums ks e → Spells Products ls f → Spells Sums (ks ++ Minus ∷ ls) (over Sub (e ∷ f ∷ []))
  unshifted : (ks : List TokenKind) (e : SyntaxTree) → Spells Sums ks e → Spells Whole ks e
  left : (ks : List TokenKind) (e : SyntaxTree) (k : ℤ) → Spells Whole ks e → Spells Whole (ks ++ ShiftLeft ∷ Number k ∷ []) (Node ShiftLeftBy false None k (e ∷ []))
  right : (ks : List TokenKind) (e : SyntaxTree) (k : ℤ) → Spells Whole ks e → Spells Whole (ks ++ ShiftRight ∷ Number k ∷ []) (Node ShiftRightBy false None k (e ∷ []))

-- some expression is spelled so; some expression begins so
abbrev pub IsSpelled : List TokenKind → Type 0
IsSpelled ks = (e : SyntaxTree) × Spells Whole ks e

abbrev pub IsBegun : List TokenKind → Type 0
IsBegun ks = (more : List TokenKind) × IsSpelled (ks ++ more)
