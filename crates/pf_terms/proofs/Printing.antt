-- A node's text is its pieces, one after another.
use Rattle.std.proofs.Common.{◌≡◌, sym, ap, ◌∙◌, ℕ, ◌+◌, List, [], ◌∷◌, ◌++◌, length, append_assoc}
use Rattle.std.specs.Prelude.{codes}
use Rattle.pf_ints.specs.declared.lane.LaneType.{LaneType}
use Rattle.pf_values.specs.declared.op.Op.{Op}
use Rattle.pf_values.specs.declared.op.Op.TheVariants.{Cast, Add, Sub, Mul, ShiftLeft, ShiftRight, Min, Max, SelectGreater, SelectEqual, Abs, WideningAdd, WideningSub, WideningMul, ExtendingAdd, HalvingAdd, RoundingHalvingAdd, HalvingSub, SaturatingAdd, SaturatingSub, SaturatingCast, Absd, RoundingShr, MulShr, RoundingMulShr}
use Rattle.pf_values.specs.declared.row.Spelling.{Spelling}
use Rattle.pf_values.specs.declared.row.Spelling.TheVariants.{TypeCall, Infix, ShiftBy, Call, CallWithType, CallWithAmount, Select}
use Rattle.pf_values.specs.Meaning.Operators.{row_of}
use Rattle.pf_values.specs.Meaning.Terms.{operand_count}
use Rattle.pf_terms.specs.Meaning.TermTexts.{node_text, spelled}
use Rattle.pf_values.specs.Meaning.Spellings.{op_word, spelling_of}
use Rattle.pf_terms.specs.Steps.Pieces.{opening, onward, before}
use Rattle.pf_values.proofs.OperandLists.{by_four, by_one, by_two}

-- by how an operator is spelled and how many operands it has
module _ (word : List ℕ) (ty : LaneType) (k : ℕ) where
  type_call : (x : List ℕ) → opening TypeCall word ty ++ onward TypeCall word k 0 (x ∷ []) ≡ spelled TypeCall word ty k (x ∷ [])
  type_call x = simp append_assoc

  between : (x y : List ℕ) → opening Infix word ty ++ onward Infix word k 0 (x ∷ y ∷ []) ≡ spelled Infix word ty k (x ∷ y ∷ [])
  between x y = simp append_assoc

  shift : (x : List ℕ) → opening ShiftBy word ty ++ onward ShiftBy word k 0 (x ∷ []) ≡ spelled ShiftBy word ty k (x ∷ [])
  shift x = simp append_assoc

  call_one : (x : List ℕ) → opening Call word ty ++ onward Call word k 0 (x ∷ []) ≡ spelled Call word ty k (x ∷ [])
  call_one x = simp append_assoc

  call_two : (x y : List ℕ) → opening Call word ty ++ onward Call word k 0 (x ∷ y ∷ []) ≡ spelled Call word ty k (x ∷ y ∷ [])
  call_two x y = simp append_assoc

  typed_call : (x : List ℕ) → opening CallWithType word ty ++ onward CallWithType word k 0 (x ∷ []) ≡ spelled CallWithType word ty k (x ∷ [])
  typed_call x = simp append_assoc

  amount_one : (x : List ℕ) → opening CallWithAmount word ty ++ onward CallWithAmount word k 0 (x ∷ []) ≡ spelled CallWithAmount word ty k (x ∷ [])
  amount_one x = simp append_assoc

  amount_two : (x y : List ℕ) → opening CallWithAmount word ty ++ onward CallWithAmount word k 0 (x ∷ y ∷ []) ≡ spelled CallWithAmount word ty k (x ∷ y ∷ [])
  amount_two x y = simp append_assoc

  choose : (a b x y : List ℕ) → opening Select word ty ++ onward Select word k 0 (a ∷ b ∷ x ∷ y ∷ []) ≡ spelled Select word ty k (a ∷ b ∷ x ∷ y ∷ [])
  choose a b x y =
      let rest = codes ", " ++ (x ++ (codes ", " ++ (y ++ codes ")"))) in
      simp append_assoc (ap (λ z. codes "select(" ++ (a ++ (codes " " ++ z))) (append_assoc (word ++ codes " ") b rest ∙ append_assoc word (codes " ") (b ++ rest)))

-- the pieces of any node's text make the text
abbrev Makes : Op → LaneType → ℕ → List (List ℕ) → Type 0
Makes op ty k texts = opening (spelling_of op) (op_word op) ty ++ onward (spelling_of op) (op_word op) k 0 texts ≡ node_text op ty k texts

pub pieces : (op : Op) (ty : LaneType) (k : ℕ) (texts : List (List ℕ)) → length texts ≡ operand_count (row_of op).operands →
    opening (spelling_of op) (op_word op) ty ++ onward (spelling_of op) (op_word op) k 0 texts ≡ node_text op ty k texts
pieces Cast ty k texts h = by_one (Makes Cast ty k) (type_call (op_word Cast) ty k) texts h
pieces Add ty k texts h = by_two (Makes Add ty k) (between (op_word Add) ty k) texts h
pieces Sub ty k texts h = by_two (Makes Sub ty k) (between (op_word Sub) ty k) texts h
pieces Mul ty k texts h = by_two (Makes Mul ty k) (between (op_word Mul) ty k) texts h
pieces ShiftLeft ty k texts h = by_one (Makes ShiftLeft ty k) (shift (op_word ShiftLeft) ty k) texts h
pieces ShiftRight ty k texts h = by_one (Makes ShiftRight ty k) (shift (op_word ShiftRight) ty k) texts h
pieces Min ty k texts h = by_two (Makes Min ty k) (call_two (op_word Min) ty k) texts h
pieces Max ty k texts h = by_two (Makes Max ty k) (call_two (op_word Max) ty k) texts h
pieces SelectGreater ty k texts h = by_four (Makes SelectGreater ty k) (choose (op_word SelectGreater) ty k) texts h
pieces SelectEqual ty k texts h = by_four (Makes SelectEqual ty k) (choose (op_word SelectEqual) ty k) texts h
pieces Abs ty k texts h = by_one (Makes Abs ty k) (call_one (op_word Abs) ty k) texts h
pieces WideningAdd ty k texts h = by_two (Makes WideningAdd ty k) (call_two (op_word WideningAdd) ty k) texts h
pieces WideningSub ty k texts h = by_two (Makes WideningSub ty k) (call_two (op_word WideningSub) ty k) texts h
pieces WideningMul ty k texts h = by_two (Makes WideningMul ty k) (call_two (op_word WideningMul) ty k) texts h
pieces ExtendingAdd ty k texts h = by_two (Makes ExtendingAdd ty k) (call_two (op_word ExtendingAdd) ty k) texts h
pieces HalvingAdd ty k texts h = by_two (Makes HalvingAdd ty k) (call_two (op_word HalvingAdd) ty k) texts h
pieces RoundingHalvingAdd ty k texts h = by_two (Makes RoundingHalvingAdd ty k) (call_two (op_word RoundingHalvingAdd) ty k) texts h
pieces HalvingSub ty k texts h = by_two (Makes HalvingSub ty k) (call_two (op_word HalvingSub) ty k) texts h
pieces SaturatingAdd ty k texts h = by_two (Makes SaturatingAdd ty k) (call_two (op_word SaturatingAdd) ty k) texts h
pieces SaturatingSub ty k texts h = by_two (Makes SaturatingSub ty k) (call_two (op_word SaturatingSub) ty k) texts h
pieces SaturatingCast ty k texts h = by_one (Makes SaturatingCast ty k) (typed_call (op_word SaturatingCast) ty k) texts h
pieces Absd ty k texts h = by_two (Makes Absd ty k) (call_two (op_word Absd) ty k) texts h
pieces RoundingShr ty k texts h = by_one (Makes RoundingShr ty k) (amount_one (op_word RoundingShr) ty k) texts h
pieces MulShr ty k texts h = by_two (Makes MulShr ty k) (amount_two (op_word MulShr) ty k) texts h
pieces RoundingMulShr ty k texts h = by_two (Makes RoundingMulShr ty k) (amount_two (op_word RoundingMulShr) ty k) texts h

-- one more operand is written
pub written_more : (s : Spelling) (word text next last x : List ℕ) (k n : ℕ) (xs : List (List ℕ)) (all : List ℕ) →
    next ≡ text ++ before s word n → last ≡ next ++ x → text ++ onward s word k n (x ∷ xs) ≡ all → last ++ onward s word k (n + 1) xs ≡ all
written_more s word text next last x k n xs all one two h =
    rw (two, one) (append_assoc (text ++ before s word n) x _ ∙ append_assoc text (before s word n) _ ∙ sym (ap (λ ys. text ++ ys) (append_assoc (before s word n) x (onward s word k (n + 1) xs))) ∙ h)
