-- A well-typed term's printed text is the spelling of an expression.
use Rattle.std.proofs.Common.{◌≡◌, refl, sym, ap, ◌∙◌, subst, ℕ, ◌+◌, ◌^◌, ◌≤◌, ◌<◌, pos, Bool, true, false, List, [], ◌∷◌, ◌++◌, length, map, arith, append-nil}
use Rattle.std.specs.Prelude.{codes, Option, None, nat_le}
use Rattle.std.specs.List.{list_all}
use borrow.Author.Tests.{leb-true}
use Rattle.pf_ints.specs.declared.lane.LaneType.{LaneType}
use Rattle.pf_ints.specs.declared.lane.Bits.{Bits}
use Rattle.pf_ints.specs.declared.lane.Bits.TheVariants.{Eight, Sixteen, ThirtyTwo}
use Rattle.pf_ints.specs.Meaning.Lanes.{bit_count}
use Rattle.pf_text.specs.Meaning.Words.{is_name_byte}
use Rattle.pf_terms.specs.declared.parse.syntax_tree.SyntaxTree.{SyntaxTree}
use Rattle.pf_terms.specs.declared.parse.syntax_tree.SyntaxTree.TheVariants.{Node as TreeNode}
use Rattle.pf_values.specs.declared.names.Names.{Names}
use Rattle.pf_values.specs.declared.op.Op.{Op}
use Rattle.pf_values.specs.declared.op.Op.TheVariants.{Cast, Add, Sub, Mul, ShiftLeft, ShiftRight, Min, Max, SelectGreater, SelectEqual, Abs, WideningAdd, WideningSub, WideningMul, ExtendingAdd, HalvingAdd, RoundingHalvingAdd, HalvingSub, SaturatingAdd, SaturatingSub, SaturatingCast, Absd, RoundingShr, MulShr, RoundingMulShr}
use Rattle.pf_values.specs.declared.row.Amounts.{Amounts}
use Rattle.pf_values.specs.declared.row.Amounts.TheVariants.{Without, Shift, RoundingShift, Product, RoundingProduct}
use Rattle.pf_terms.specs.declared.parse.symbol.CallShape.TheVariants.{Two}
use Rattle.pf_values.specs.declared.term.Leaf.{Leaf as LeafOf}
use Rattle.pf_values.specs.declared.term.Term.{Term}
use Rattle.pf_values.specs.declared.term.Term.TheVariants.{Leaf, Node, rolls-Leaf, rolls-Node}
use Rattle.pf_values.specs.declared.term.Term.TheOpen.{Term-F}
use Rattle.pf_values.specs.declared.term.Term.TheOpen.Term-F.{Leaf as LeafLayer, Node as NodeLayer}
use Rattle.pf_values.specs.declared.term.Term.TheViews.{roll-Term}
use Rattle.pf_values.specs.declared.term.Term.TheFolds.{fold-roll-Term, ind-Term, map-Term}
use Rattle.pf_terms.specs.declared.token.TokenKind.{TokenKind}
use Rattle.pf_terms.specs.declared.token.TokenKind.TheVariants.{Number, Plus, Minus, Times, Greater, Same, ShiftLeft as LeftSign, ShiftRight as RightSign}
use Rattle.pf_terms.specs.Meaning.SyntaxTrees.{bracket_limit, IsShallow, IsTreeText}
use Rattle.pf_terms.specs.Meaning.Grammar.{Atoms, Whole, Spells, sum, difference, product, left, right, alone, term, unshifted, greater, equal_sign, over, call_shape}
use Rattle.pf_terms.specs.Meaning.KernelNames.{IsNames}
use Rattle.pf_values.specs.Meaning.Operators.{row_of}
use Rattle.pf_terms.specs.Meaning.Tokens.{kinds, is_word_spelling}
use Rattle.pf_terms.proofs.ReadBack.{tree_of_term, tree_step, leaf_tree, type_beside}
use Rattle.pf_values.specs.Meaning.Terms.{all_true, is_well_formed, formed_step, is_formed_leaf, stated_type, first_width, is_amount, least_amount, greatest_amount, operand_count, greatest_of, depth_of, depth_step, IsWellTyped}
use Rattle.pf_terms.specs.Meaning.TermTexts.{term_text, text_step, leaf_text, node_text}
use Rattle.pf_values.specs.Meaning.Spellings.{op_word, spelling_of}
use Rattle.pf_values.specs.Meaning.NamedTerms.{is_named, named_step, is_named_leaf}
use Rattle.pf_values.proofs.NodeRanges.{judged}
use Rattle.pf_values.proofs.OperandLists.{by_one, by_two, by_four}
use Rattle.pf_terms.proofs.ReadBackLeaves.{leaf_printed}
use Rattle.pf_terms.proofs.ReadBackNodes.{IsPrinted, IsSign, IsCallWord, whole, printed_cast, printed_one, printed_two, printed_typed, printed_one_by, printed_two_by, printed_infix, printed_shift, printed_choice}
use Rattle.pf_terms.proofs.ReadBackTexts.{IsReadAt, reads_nothing, reads_blank, reads_sign, reads_spaced_sign, reads_double_sign}
use Rattle.pf_values.proofs.TermRanges.{AreTyped, typed_node}
use Rattle.pf_values.proofs.Typing.{and_left, and_right}

-- the term's text spells it
abbrev pub IsPrintedTerm : Names → Term → Type 0
IsPrintedTerm names t = IsPrinted (term_text names t) (tree_of_term names t) (depth_of t)

abbrev AllPrinted : Names → List Term → Type 0
AllPrinted names [] = Unit {0}
AllPrinted names (t ∷ ts) = IsPrintedTerm names t × AllPrinted names ts

-- ---- signs and words
plus_sign : IsSign (codes "+") Plus
plus_sign = record { reads = λ r ls h. reads_blank _ _ (reads_sign 43 Plus _ _ refl refl refl refl (reads_blank _ _ h)); flat = λ n ls h. h }

minus_sign : IsSign (codes "-") Minus
minus_sign = record { reads = λ r ls h. reads_blank _ _ (reads_sign 45 Minus _ _ refl refl refl refl (reads_blank _ _ h)); flat = λ n ls h. h }

times_sign : IsSign (codes "*") Times
times_sign = record { reads = λ r ls h. reads_blank _ _ (reads_sign 42 Times _ _ refl refl refl refl (reads_blank _ _ h)); flat = λ n ls h. h }

left_sign : IsSign (codes "<<") LeftSign
left_sign = record { reads = λ r ls h. reads_blank _ _ (reads_double_sign 60 60 LeftSign _ _ refl refl refl (reads_blank _ _ h)); flat = λ n ls h. h }

right_sign : IsSign (codes ">>") RightSign
right_sign = record { reads = λ r ls h. reads_blank _ _ (reads_double_sign 62 62 RightSign _ _ refl refl refl (reads_blank _ _ h)); flat = λ n ls h. h }

greater_sign : IsSign (codes ">") Greater
greater_sign = record { reads = λ r ls h. reads_blank _ _ (reads_spaced_sign 62 Greater _ _ refl (λ e. omega arith) refl refl (reads_blank _ _ h)); flat = λ n ls h. h }

same_sign : IsSign (codes "==") Same
same_sign = record { reads = λ r ls h. reads_blank _ _ (reads_double_sign 61 61 Same _ _ refl refl refl (reads_blank _ _ h)); flat = λ n ls h. h }

sums : (d e : SyntaxTree) (ks ls : List TokenKind) → Spells Atoms ks d → Spells Atoms ls e → Spells Whole (ks ++ Plus ∷ ls) (over Add (d ∷ e ∷ []))
sums d e ks ls h k = unshifted _ _ (sum ks ls d e (term _ _ (alone _ _ h)) (alone _ _ k))

differences : (d e : SyntaxTree) (ks ls : List TokenKind) → Spells Atoms ks d → Spells Atoms ls e → Spells Whole (ks ++ Minus ∷ ls) (over Sub (d ∷ e ∷ []))
differences d e ks ls h k = unshifted _ _ (difference ks ls d e (term _ _ (alone _ _ h)) (alone _ _ k))

products : (d e : SyntaxTree) (ks ls : List TokenKind) → Spells Atoms ks d → Spells Atoms ls e → Spells Whole (ks ++ Times ∷ ls) (over Mul (d ∷ e ∷ []))
products d e ks ls h k = unshifted _ _ (term _ _ (product ks ls d e (alone _ _ h) k))

lefts : (d : SyntaxTree) (k : ℕ) (ks : List TokenKind) → Spells Atoms ks d → Spells Whole (ks ++ LeftSign ∷ Number (pos k) ∷ []) (TreeNode ShiftLeft false None (pos k) (d ∷ []))
lefts d k ks h = left ks d (pos k) (whole h)

rights : (d : SyntaxTree) (k : ℕ) (ks : List TokenKind) → Spells Atoms ks d → Spells Whole (ks ++ RightSign ∷ Number (pos k) ∷ []) (TreeNode ShiftRight false None (pos k) (d ∷ []))
rights d k ks h = right ks d (pos k) (whole h)

call_word : (o : Op) → 1 ≤ length (op_word o) → list_all is_name_byte (op_word o) ≡ true → is_word_spelling (spelling_of o) ≡ true → IsCallWord o
call_word o some bytes spelling = record { some = some; bytes = bytes; spelling = spelling }

-- ---- nodes
-- the amount is small, and 0 where the operator has none
pub record IsFewAmount (op : Op) (k : ℕ) : Type 0 where
  pub small : k < 10 ^ 10
  pub none : (row_of op).amounts ≡ Without → k ≡ 0

amount_of : (op : Op) (w k : ℕ) → w ≤ 32 → is_amount (row_of op).amounts w k ≡ true → IsFewAmount op k
amount_of op w k h is =
    record { small = by (row_of op).amounts (most (row_of op).amounts is); none = λ e. zero_of (most Without (ap (λ a. is_amount a w k) (sym e) ∙ is)) } where
      most : (a : Amounts) → is_amount a w k ≡ true → k ≤ greatest_amount a w
      most a is = leb-true k (greatest_amount a w) (and_right (nat_le (least_amount a) k) _ is)

      zero_of : k ≤ 0 → k ≡ 0
      zero_of h = omega arith

      by : (a : Amounts) → k ≤ greatest_amount a w → k < 10 ^ 10
      by Without up = omega arith
      by Shift up = omega arith
      by RoundingShift up = omega arith
      by Product up = omega arith
      by RoundingProduct up = omega arith

-- said of each operator over printed operands
abbrev Prints : Names → Op → LaneType → ℕ → List Term → Type 0
Prints names op ty k args = AllPrinted names args → IsPrinted (node_text op ty k (map (term_text names) args)) (TreeNode op false (type_beside (spelling_of op) ty) (pos k) (map (tree_of_term names) args)) (1 + greatest_of (map depth_of args))

without : (text : List ℕ) (o : Op) (t : Option LaneType) (k : ℕ) (ds : List SyntaxTree) (deep : ℕ) → k ≡ 0 → IsPrinted text (TreeNode o false t (pos 0) ds) deep → IsPrinted text (TreeNode o false t (pos k) ds) deep
without text o t k ds deep e h = subst (λ n. IsPrinted text (TreeNode o false t (pos n) ds) deep) (sym e) h

-- a call of two operands
pair : (names : Names) (o : Op) (s t : Term) → call_shape o ≡ Two → IsCallWord o → IsPrintedTerm names s → IsPrintedTerm names t →
    IsPrinted (op_word o ++ codes "(" ++ (term_text names s ++ codes ", " ++ term_text names t) ++ codes ")") (over o (tree_of_term names s ∷ tree_of_term names t ∷ [])) (1 + greatest_of (depth_of s ∷ depth_of t ∷ []))
pair names o s t shape word h k = printed_two o (term_text names s) (term_text names t) (tree_of_term names s) (tree_of_term names t) (depth_of s) (depth_of t) shape word h k

node_printed : (names : Names) (op : Op) (ty : LaneType) (k : ℕ) (args : List Term) → length args ≡ operand_count (row_of op).operands → IsFewAmount op k → Prints names op ty k args
node_printed names Cast ty k args n a = by_one (Prints names Cast ty k) (λ t h. without _ _ _ k _ _ (a.none refl) (printed_cast ty _ _ _ h.0)) args n
node_printed names Add ty k args n a = by_two (Prints names Add ty k) (λ s t h. without _ _ _ k _ _ (a.none refl) (printed_infix _ Plus _ _ _ _ _ _ _ plus_sign (sums _ _) h.0 h.1.0)) args n
node_printed names Sub ty k args n a = by_two (Prints names Sub ty k) (λ s t h. without _ _ _ k _ _ (a.none refl) (printed_infix _ Minus _ _ _ _ _ _ _ minus_sign (differences _ _) h.0 h.1.0)) args n
node_printed names Mul ty k args n a = by_two (Prints names Mul ty k) (λ s t h. without _ _ _ k _ _ (a.none refl) (printed_infix _ Times _ _ _ _ _ _ _ times_sign (products _ _) h.0 h.1.0)) args n
node_printed names ShiftLeft ty k args n a = by_one (Prints names ShiftLeft ty k) (λ t h. printed_shift _ LeftSign k _ _ _ _ a.small left_sign (lefts _ k) h.0) args n
node_printed names ShiftRight ty k args n a = by_one (Prints names ShiftRight ty k) (λ t h. printed_shift _ RightSign k _ _ _ _ a.small right_sign (rights _ k) h.0) args n
node_printed names Min ty k args n a = by_two (Prints names Min ty k) (λ s t h. without _ _ _ k _ _ (a.none refl) (pair names Min s t refl (call_word Min (omega arith) refl refl) h.0 h.1.0)) args n
node_printed names Max ty k args n a = by_two (Prints names Max ty k) (λ s t h. without _ _ _ k _ _ (a.none refl) (pair names Max s t refl (call_word Max (omega arith) refl refl) h.0 h.1.0)) args n
node_printed names SelectGreater ty k args n a = by_four (Prints names SelectGreater ty k) (λ b c x y h. without _ _ _ k _ _ (a.none refl) (printed_choice _ Greater SelectGreater _ _ _ _ _ _ _ _ _ _ _ _ greater_sign greater h.0 h.1.0 h.1.1.0 h.1.1.1.0)) args n
node_printed names SelectEqual ty k args n a = by_four (Prints names SelectEqual ty k) (λ b c x y h. without _ _ _ k _ _ (a.none refl) (printed_choice _ Same SelectEqual _ _ _ _ _ _ _ _ _ _ _ _ same_sign equal_sign h.0 h.1.0 h.1.1.0 h.1.1.1.0)) args n
node_printed names Abs ty k args n a = by_one (Prints names Abs ty k) (λ t h. without _ _ _ k _ _ (a.none refl) (printed_one Abs _ _ _ refl (call_word Abs (omega arith) refl refl) h.0)) args n
node_printed names WideningAdd ty k args n a = by_two (Prints names WideningAdd ty k) (λ s t h. without _ _ _ k _ _ (a.none refl) (pair names WideningAdd s t refl (call_word WideningAdd (omega arith) refl refl) h.0 h.1.0)) args n
node_printed names WideningSub ty k args n a = by_two (Prints names WideningSub ty k) (λ s t h. without _ _ _ k _ _ (a.none refl) (pair names WideningSub s t refl (call_word WideningSub (omega arith) refl refl) h.0 h.1.0)) args n
node_printed names WideningMul ty k args n a = by_two (Prints names WideningMul ty k) (λ s t h. without _ _ _ k _ _ (a.none refl) (pair names WideningMul s t refl (call_word WideningMul (omega arith) refl refl) h.0 h.1.0)) args n
node_printed names ExtendingAdd ty k args n a = by_two (Prints names ExtendingAdd ty k) (λ s t h. without _ _ _ k _ _ (a.none refl) (pair names ExtendingAdd s t refl (call_word ExtendingAdd (omega arith) refl refl) h.0 h.1.0)) args n
node_printed names HalvingAdd ty k args n a = by_two (Prints names HalvingAdd ty k) (λ s t h. without _ _ _ k _ _ (a.none refl) (pair names HalvingAdd s t refl (call_word HalvingAdd (omega arith) refl refl) h.0 h.1.0)) args n
node_printed names RoundingHalvingAdd ty k args n a = by_two (Prints names RoundingHalvingAdd ty k) (λ s t h. without _ _ _ k _ _ (a.none refl) (pair names RoundingHalvingAdd s t refl (call_word RoundingHalvingAdd (omega arith) refl refl) h.0 h.1.0)) args n
node_printed names HalvingSub ty k args n a = by_two (Prints names HalvingSub ty k) (λ s t h. without _ _ _ k _ _ (a.none refl) (pair names HalvingSub s t refl (call_word HalvingSub (omega arith) refl refl) h.0 h.1.0)) args n
node_printed names SaturatingAdd ty k args n a = by_two (Prints names SaturatingAdd ty k) (λ s t h. without _ _ _ k _ _ (a.none refl) (pair names SaturatingAdd s t refl (call_word SaturatingAdd (omega arith) refl refl) h.0 h.1.0)) args n
node_printed names SaturatingSub ty k args n a = by_two (Prints names SaturatingSub ty k) (λ s t h. without _ _ _ k _ _ (a.none refl) (pair names SaturatingSub s t refl (call_word SaturatingSub (omega arith) refl refl) h.0 h.1.0)) args n
node_printed names SaturatingCast ty k args n a = by_one (Prints names SaturatingCast ty k) (λ t h. without _ _ _ k _ _ (a.none refl) (printed_typed SaturatingCast ty _ _ _ refl (call_word SaturatingCast (omega arith) refl refl) h.0)) args n
node_printed names Absd ty k args n a = by_two (Prints names Absd ty k) (λ s t h. without _ _ _ k _ _ (a.none refl) (pair names Absd s t refl (call_word Absd (omega arith) refl refl) h.0 h.1.0)) args n
node_printed names RoundingShr ty k args n a = by_one (Prints names RoundingShr ty k) (λ t h. printed_one_by RoundingShr k _ _ _ a.small refl (call_word RoundingShr (omega arith) refl refl) h.0) args n
node_printed names MulShr ty k args n a = by_two (Prints names MulShr ty k) (λ s t h. printed_two_by MulShr k _ _ _ _ _ _ a.small refl (call_word MulShr (omega arith) refl refl) h.0 h.1.0) args n
node_printed names RoundingMulShr ty k args n a = by_two (Prints names RoundingMulShr ty k) (λ s t h. printed_two_by RoundingMulShr k _ _ _ _ _ _ a.small refl (call_word RoundingMulShr (omega arith) refl refl) h.0 h.1.0) args n

-- ---- terms
width_below : (b : Bits) → bit_count b ≤ 32
width_below Eight = omega arith
width_below Sixteen = omega arith
width_below ThirtyTwo = omega arith

first_below : (ts : List LaneType) → first_width ts ≤ 32
first_below [] = omega arith
first_below (t ∷ ts) = width_below t.bits

text_node : (names : Names) (op : Op) (ty : LaneType) (k : ℕ) (args : List Term) → term_text names (Node op ty k args) ≡ node_text op ty k (map (term_text names) args)
text_node names op ty k args = ap (term_text names) (sym (rolls-Node op ty k args)) ∙ fold-roll-Term (List ℕ) (text_step names) (NodeLayer op ty k args)

pub tree_node : (names : Names) (op : Op) (ty : LaneType) (k : ℕ) (args : List Term) → tree_of_term names (Node op ty k args) ≡ TreeNode op false (type_beside (spelling_of op) ty) (pos k) (map (tree_of_term names) args)
tree_node names op ty k args = ap (tree_of_term names) (sym (rolls-Node op ty k args)) ∙ fold-roll-Term SyntaxTree (tree_step names) (NodeLayer op ty k args)

depth_node : (op : Op) (ty : LaneType) (k : ℕ) (args : List Term) → depth_of (Node op ty k args) ≡ 1 + greatest_of (map depth_of args)
depth_node op ty k args = ap depth_of (sym (rolls-Node op ty k args)) ∙ fold-roll-Term ℕ depth_step (NodeLayer op ty k args)

pub named_node : (names : Names) (op : Op) (ty : LaneType) (k : ℕ) (args : List Term) → is_named names (Node op ty k args) ≡ all_true (map (is_named names) args)
named_node names op ty k args = ap (is_named names) (sym (rolls-Node op ty k args)) ∙ fold-roll-Term Bool (named_step names) (NodeLayer op ty k args)

text_leaf : (names : Names) (leaf : LeafOf) (ty : LaneType) → term_text names (Leaf leaf ty) ≡ leaf_text names leaf ty
text_leaf names leaf ty = ap (term_text names) (sym (rolls-Leaf leaf ty)) ∙ fold-roll-Term (List ℕ) (text_step names) (LeafLayer leaf ty)

pub tree_leaf : (names : Names) (leaf : LeafOf) (ty : LaneType) → tree_of_term names (Leaf leaf ty) ≡ leaf_tree names leaf ty
tree_leaf names leaf ty = ap (tree_of_term names) (sym (rolls-Leaf leaf ty)) ∙ fold-roll-Term SyntaxTree (tree_step names) (LeafLayer leaf ty)

depth_leaf : (leaf : LeafOf) (ty : LaneType) → depth_of (Leaf leaf ty) ≡ 1
depth_leaf leaf ty = ap depth_of (sym (rolls-Leaf leaf ty)) ∙ fold-roll-Term ℕ depth_step (LeafLayer leaf ty)

pub named_leaf : (names : Names) (leaf : LeafOf) (ty : LaneType) → is_named names (Leaf leaf ty) ≡ is_named_leaf names leaf ty
named_leaf names leaf ty = ap (is_named names) (sym (rolls-Leaf leaf ty)) ∙ fold-roll-Term Bool (named_step names) (LeafLayer leaf ty)

formed_leaf : (leaf : LeafOf) (ty : LaneType) → is_well_formed (Leaf leaf ty) ≡ is_formed_leaf leaf ty
formed_leaf leaf ty = ap is_well_formed (sym (rolls-Leaf leaf ty)) ∙ fold-roll-Term Bool formed_step (LeafLayer leaf ty)

-- said of each term
abbrev PrintsTerm : Names → Term → Type 0
PrintsTerm names t = IsWellTyped t → is_named names t ≡ true → IsPrintedTerm names t

operands_print : (names : Names) (ps : List ((t : Term) × PrintsTerm names t)) → AreTyped (map (λ p. p.0) ps) → all_true (map (is_named names) (map (λ p. p.0) ps)) ≡ true → AllPrinted names (map (λ p. p.0) ps)
operands_print names [] typed h = tt
operands_print names (p ∷ ps) typed h =
    (p.1 typed.0 (and_left _ (all_true (map (is_named names) (map (λ q. q.0) ps))) h), operands_print names ps typed.1 (and_right (is_named names p.0) _ h))

leaf_prints : (names : Names) (leaf : LeafOf) (ty : LaneType) → IsNames names → PrintsTerm names (Leaf leaf ty)
leaf_prints names leaf ty all typed h =
    rw (text_leaf names leaf ty, tree_leaf names leaf ty, depth_leaf leaf ty) (leaf_printed names leaf ty all (sym (formed_leaf leaf ty) ∙ typed.formed) (sym (named_leaf names leaf ty) ∙ h))

node_prints : (names : Names) (op : Op) (ty : LaneType) (k : ℕ) (args : List Term) → IsWellTyped (Node op ty k args) → (AreTyped args → AllPrinted names args) → IsPrintedTerm names (Node op ty k args)
node_prints names op ty k args typed each =
    let parts = typed_node op ty k args typed in
    let amount = amount_of op (first_width (map stated_type args)) k (first_below (map stated_type args)) (judged (row_of op) ty ty k (map stated_type args) parts.node).0.amount in
    rw (text_node names op ty k args, tree_node names op ty k args, depth_node op ty k args) (node_printed names op ty k args parts.count amount (each parts.operands))

layer_prints : (names : Names) → IsNames names → (y : Term-F ((t : Term) × PrintsTerm names t)) → PrintsTerm names (roll-Term (map-Term ((t : Term) × PrintsTerm names t) Term (λ e. e.0) y))
layer_prints names all (LeafLayer leaf ty) = subst (PrintsTerm names) (sym (rolls-Leaf leaf ty)) (leaf_prints names leaf ty all)
layer_prints names all (NodeLayer op ty k ps) =
    let args = map (λ p. p.0) ps in
    subst (PrintsTerm names) (sym (rolls-Node op ty k args)) (λ typed h.
    node_prints names op ty k args typed (λ each. operands_print names ps each (sym (named_node names op ty k args) ∙ h)))

term_printed : (names : Names) → IsNames names → (t : Term) → PrintsTerm names t
term_printed names all = ind-Term (PrintsTerm names) (λ x y is. subst (λ z. PrintsTerm names (roll-Term z)) is (layer_prints names all y))

limit_is : (n : ℕ) → n ≤ 1024 → 0 + n ≤ bracket_limit
unfolding bracket_limit
limit_is n h = omega arith

-- the printed text of a term spells it
pub printed_is_tree : (names : Names) (t : Term) → IsNames names → IsWellTyped t → is_named names t ≡ true → depth_of t ≤ 1024 → IsTreeText (term_text names t) (tree_of_term names t)
printed_is_tree names t all typed has deep =
    let p = term_printed names all t typed has in
    let text = subst (λ xs. IsReadAt 0 xs (p.tokens ++ [])) (append-nil (term_text names t)) (p.reads [] [] tt reads_nothing 0) in
    let ks : kinds text.tokens ≡ p.tokens = text.told ∙ append-nil p.tokens in
    let shallow : IsShallow 0 p.tokens = subst (IsShallow 0) (append-nil p.tokens) (p.shallow 0 [] (limit_is (depth_of t) deep) tt) in
    record {
      tokens = text.tokens;
      lexed = text.lexed;
      spelled = subst (λ zs. Spells Whole zs (tree_of_term names t)) (sym ks) (whole p.spelled);
      shallow = subst (IsShallow 0) (sym ks) shallow;
    }
