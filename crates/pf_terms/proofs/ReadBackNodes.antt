-- A node's printed text is the spelling of an atom, where its operands' texts are.
use Rattle.std.proofs.Common.{◌≡◌, refl, subst, ℕ, ◌+◌, ◌-◌, ◌^◌, ◌≤◌, ◌<◌, pos, true, false, List, [], ◌∷◌, ◌++◌, length, arith, append_assoc}
use Rattle.std.specs.Prelude.{codes, decimal, Some, None}
use Rattle.std.specs.List.{list_all}
use Rattle.pf_ints.specs.declared.lane.LaneType.{LaneType}
use Rattle.pf_text.specs.Meaning.Words.{is_name_byte}
use Rattle.pf_terms.specs.declared.parse.syntax_tree.SyntaxTree.{SyntaxTree}
use Rattle.pf_terms.specs.declared.parse.syntax_tree.SyntaxTree.TheVariants.{Node}
use Rattle.pf_values.specs.declared.op.Op.{Op}
use Rattle.pf_values.specs.declared.op.Op.TheVariants.{Cast}
use Rattle.pf_terms.specs.declared.parse.symbol.CallShape.TheVariants.{One, Two, OneAndAmount, TwoAndAmount, TypeAndOne}
use Rattle.pf_terms.specs.declared.token.TokenKind.{TokenKind}
use Rattle.pf_terms.specs.declared.token.TokenKind.TheVariants.{TypeWord, Number, Word, Choose, Open, Close, Comma}
use Rattle.pf_terms.specs.Meaning.SyntaxTrees.{bracket_limit, IsShallow}
use Rattle.pf_terms.specs.Meaning.Grammar.{Atoms, Whole, Spells, cast, one, two, one_by, two_by, typed_call, chosen, in_brackets, alone, term, unshifted, IsComparison, over, call_shape}
use Rattle.pf_values.specs.Meaning.Terms.{greatest_of}
use Rattle.pf_terms.specs.Meaning.TermTexts.{type_word, called, bracketed, signed_by}
use Rattle.pf_values.specs.Meaning.Spellings.{op_word, spelling_of}
use Rattle.pf_terms.specs.Meaning.Tokens.{IsNoRun, is_word_spelling}
use Rattle.pf_terms.proofs.ReadBackTexts.{Reads, reads_blank, reads_sign, reads_run}
use Rattle.pf_terms.proofs.ReadBackWords.{reads_number, reads_type}

-- the text spells the syntax tree as an atom, with round brackets nested less deep than this
pub record IsPrinted (text : List ℕ) (d : SyntaxTree) (deep : ℕ) : Type 0 where
  pub tokens : List TokenKind
  pub spelled : Spells Atoms tokens d
  pub reads : (r : List ℕ) (ls : List TokenKind) → IsNoRun r → Reads r ls → Reads (text ++ r) (tokens ++ ls)
  pub shallow : (n : ℕ) (ls : List TokenKind) → n + deep ≤ bracket_limit → IsShallow n ls → IsShallow n (tokens ++ ls)

pub whole : {ks : List TokenKind} {d : SyntaxTree} → Spells Atoms ks d → Spells Whole ks d
whole h = unshifted _ _ (term _ _ (alone _ _ h))

-- a sign between its operands, with a blank on each side
pub record IsSign (word : List ℕ) (c : TokenKind) : Type 0 where
  pub reads : (r : List ℕ) (ls : List TokenKind) → Reads r ls → Reads (32 ∷ (word ++ (32 ∷ r))) (c ∷ ls)
  pub flat : (n : ℕ) (ls : List TokenKind) → IsShallow n ls → IsShallow n (c ∷ ls)

open_first : (r : List ℕ) (ls : List TokenKind) → Reads r ls → Reads (40 ∷ r) (Open ∷ ls)
open_first r ls h = reads_sign 40 Open r ls refl refl refl refl h

close_first : (r : List ℕ) (ls : List TokenKind) → Reads r ls → Reads (41 ∷ r) (Close ∷ ls)
close_first r ls h = reads_sign 41 Close r ls refl refl refl refl h

comma_first : (r : List ℕ) (ls : List TokenKind) → Reads r ls → Reads (44 ∷ 32 ∷ r) (Comma ∷ ls)
comma_first r ls h = reads_sign 44 Comma (32 ∷ r) ls refl refl refl refl (reads_blank r ls h)

closed : (n : ℕ) (ls : List TokenKind) → IsShallow n ls → IsShallow (n + 1) (Close ∷ ls)
closed n ls h = subst (λ m. IsShallow m ls) (let e : n ≡ n + 1 - 1 = omega arith in e) h

-- an operator's word before its brackets
pub record IsCallWord (o : Op) : Type 0 where
  pub some : 1 ≤ length (op_word o)
  pub bytes : list_all is_name_byte (op_word o) ≡ true
  pub spelling : is_word_spelling (spelling_of o) ≡ true

word_first : (o : Op) (r : List ℕ) (ls : List TokenKind) → IsCallWord o → Reads r ls → Reads (op_word o ++ (40 ∷ r)) (Word o ∷ Open ∷ ls)
word_first o r ls w h = reads_run (op_word o) (Word o) (40 ∷ r) (Open ∷ ls) w.some w.bytes (refl, w.spelling) refl (open_first r ls h)

-- a type's word
abbrev IsTypeText : LaneType → List ℕ → Type 0
IsTypeText t w = (r : List ℕ) (ls : List TokenKind) → IsNoRun r → Reads r ls → Reads (w ++ r) (TypeWord t ∷ ls)

cast_of : (t : LaneType) (w x : List ℕ) (d : SyntaxTree) (m : ℕ) → IsTypeText t w → IsPrinted x d m → IsPrinted (called w (x ∷ [])) (Node Cast false (Some t) (pos 0) (d ∷ [])) (1 + greatest_of (m ∷ []))
cast_of t w x d m type p =
    record {
      tokens = TypeWord t ∷ Open ∷ (p.tokens ++ Close ∷ []);
      spelled = cast t p.tokens d (whole p.spelled);
      reads = λ r ls none h. simp append_assoc (type _ _ refl (open_first _ _ (p.reads _ _ refl (close_first _ _ h))));
      shallow = λ n ls few h. simp append_assoc (omega arith, p.shallow (n + 1) _ (omega arith) (closed n ls h));
    }

pub printed_cast : (t : LaneType) (x : List ℕ) (d : SyntaxTree) (m : ℕ) → IsPrinted x d m →
    IsPrinted (called (type_word t) (x ∷ [])) (Node Cast false (Some t) (pos 0) (d ∷ [])) (1 + greatest_of (m ∷ []))
printed_cast t x d m p = cast_of t (type_word t) x d m (reads_type t) p

pub printed_one : (o : Op) (x : List ℕ) (d : SyntaxTree) (m : ℕ) → call_shape o ≡ One → IsCallWord o → IsPrinted x d m → IsPrinted (called (op_word o) (x ∷ [])) (over o (d ∷ [])) (1 + greatest_of (m ∷ []))
printed_one o x d m shape w p =
    record {
      tokens = Word o ∷ Open ∷ (p.tokens ++ Close ∷ []);
      spelled = one o p.tokens d shape (whole p.spelled);
      reads = λ r ls none h. simp append_assoc (word_first o _ _ w (p.reads _ _ refl (close_first _ _ h)));
      shallow = λ n ls few h. simp append_assoc (omega arith, p.shallow (n + 1) _ (omega arith) (closed n ls h));
    }

pub printed_two : (o : Op) (x y : List ℕ) (d e : SyntaxTree) (m n : ℕ) → call_shape o ≡ Two → IsCallWord o → IsPrinted x d m → IsPrinted y e n →
    IsPrinted (called (op_word o) (x ∷ y ∷ [])) (over o (d ∷ e ∷ [])) (1 + greatest_of (m ∷ n ∷ []))
printed_two o x y d e m n shape w p q =
    record {
      tokens = Word o ∷ Open ∷ (p.tokens ++ Comma ∷ (q.tokens ++ Close ∷ []));
      spelled = two o p.tokens q.tokens d e shape (whole p.spelled) (whole q.spelled);
      reads = λ r ls none h. simp append_assoc (word_first o _ _ w (p.reads _ _ refl (comma_first _ _ (q.reads _ _ refl (close_first _ _ h)))));
      shallow = λ i ls few h. simp append_assoc (omega arith, p.shallow (i + 1) _ (omega arith) (q.shallow (i + 1) _ (omega arith) (closed i ls h)));
    }

typed_of : (o : Op) (t : LaneType) (w x : List ℕ) (d : SyntaxTree) (m : ℕ) → call_shape o ≡ TypeAndOne → IsCallWord o → IsTypeText t w → IsPrinted x d m →
    IsPrinted (called (op_word o) (w ∷ x ∷ [])) (Node o false (Some t) (pos 0) (d ∷ [])) (1 + greatest_of (m ∷ []))
typed_of o t w x d m shape word type p =
    record {
      tokens = Word o ∷ Open ∷ TypeWord t ∷ Comma ∷ (p.tokens ++ Close ∷ []);
      spelled = typed_call o t p.tokens d shape (whole p.spelled);
      reads = λ r ls none h. simp append_assoc (word_first o _ _ word (type _ _ refl (comma_first _ _ (p.reads _ _ refl (close_first _ _ h)))));
      shallow = λ n ls few h. simp append_assoc (omega arith, p.shallow (n + 1) _ (omega arith) (closed n ls h));
    }

pub printed_typed : (o : Op) (t : LaneType) (x : List ℕ) (d : SyntaxTree) (m : ℕ) → call_shape o ≡ TypeAndOne → IsCallWord o → IsPrinted x d m →
    IsPrinted (called (op_word o) (type_word t ∷ x ∷ [])) (Node o false (Some t) (pos 0) (d ∷ [])) (1 + greatest_of (m ∷ []))
printed_typed o t x d m shape w p = typed_of o t (type_word t) x d m shape w (reads_type t) p

-- an amount's text
abbrev IsAmountText : ℕ → List ℕ → Type 0
IsAmountText k w = (r : List ℕ) (ls : List TokenKind) → IsNoRun r → Reads r ls → Reads (w ++ r) (Number (pos k) ∷ ls)

one_by_of : (o : Op) (k : ℕ) (w x : List ℕ) (d : SyntaxTree) (m : ℕ) → call_shape o ≡ OneAndAmount → IsCallWord o → IsAmountText k w → IsPrinted x d m →
    IsPrinted (called (op_word o) (x ∷ w ∷ [])) (Node o false None (pos k) (d ∷ [])) (1 + greatest_of (m ∷ []))
one_by_of o k w x d m shape word amount p =
    record {
      tokens = Word o ∷ Open ∷ (p.tokens ++ Comma ∷ Number (pos k) ∷ Close ∷ []);
      spelled = one_by o p.tokens d (pos k) shape (whole p.spelled);
      reads = λ r ls none h. simp append_assoc (word_first o _ _ word (p.reads _ _ refl (comma_first _ _ (amount _ _ refl (close_first _ _ h)))));
      shallow = λ n ls few h. simp append_assoc (omega arith, p.shallow (n + 1) _ (omega arith) (closed n ls h));
    }

two_by_of : (o : Op) (k : ℕ) (w x y : List ℕ) (d e : SyntaxTree) (m n : ℕ) → call_shape o ≡ TwoAndAmount → IsCallWord o → IsAmountText k w → IsPrinted x d m → IsPrinted y e n →
    IsPrinted (called (op_word o) (x ∷ y ∷ w ∷ [])) (Node o false None (pos k) (d ∷ e ∷ [])) (1 + greatest_of (m ∷ n ∷ []))
two_by_of o k w x y d e m n shape word amount p q =
    record {
      tokens = Word o ∷ Open ∷ (p.tokens ++ Comma ∷ (q.tokens ++ Comma ∷ Number (pos k) ∷ Close ∷ []));
      spelled = two_by o p.tokens q.tokens d e (pos k) shape (whole p.spelled) (whole q.spelled);
      reads = λ r ls none h. simp append_assoc (word_first o _ _ word (p.reads _ _ refl (comma_first _ _ (q.reads _ _ refl (comma_first _ _ (amount _ _ refl (close_first _ _ h)))))));
      shallow = λ i ls few h. simp append_assoc (omega arith, p.shallow (i + 1) _ (omega arith) (q.shallow (i + 1) _ (omega arith) (closed i ls h)));
    }

-- amounts of at most ten digits
pub printed_one_by : (o : Op) (k : ℕ) (x : List ℕ) (d : SyntaxTree) (m : ℕ) → k < 10 ^ 10 → call_shape o ≡ OneAndAmount → IsCallWord o → IsPrinted x d m →
    IsPrinted (called (op_word o) (x ∷ decimal k ∷ [])) (Node o false None (pos k) (d ∷ [])) (1 + greatest_of (m ∷ []))
printed_one_by o k x d m small shape w p = one_by_of o k (decimal k) x d m shape w (λ r ls none h. reads_number k r ls small none h) p

pub printed_two_by : (o : Op) (k : ℕ) (x y : List ℕ) (d e : SyntaxTree) (m n : ℕ) → k < 10 ^ 10 → call_shape o ≡ TwoAndAmount → IsCallWord o → IsPrinted x d m → IsPrinted y e n →
    IsPrinted (called (op_word o) (x ∷ y ∷ decimal k ∷ [])) (Node o false None (pos k) (d ∷ e ∷ [])) (1 + greatest_of (m ∷ n ∷ []))
printed_two_by o k x y d e m n small shape w p q = two_by_of o k (decimal k) x y d e m n shape w (λ r ls none h. reads_number k r ls small none h) p q

-- an operation between brackets
pub printed_infix : (word : List ℕ) (c : TokenKind) (x y : List ℕ) (d e f : SyntaxTree) (m n : ℕ) → IsSign word c → ((ks ls : List TokenKind) → Spells Atoms ks d → Spells Atoms ls e → Spells Whole (ks ++ c ∷ ls) f) →
    IsPrinted x d m → IsPrinted y e n → IsPrinted (bracketed word (x ∷ y ∷ [])) f (1 + greatest_of (m ∷ n ∷ []))
printed_infix word c x y d e f m n sign spells p q =
    record {
      tokens = Open ∷ ((p.tokens ++ c ∷ q.tokens) ++ Close ∷ []);
      spelled = in_brackets (p.tokens ++ c ∷ q.tokens) f (spells p.tokens q.tokens p.spelled q.spelled);
      reads = λ r ls none h. simp append_assoc (open_first _ _ (p.reads _ _ refl (sign.reads _ _ (q.reads _ _ refl (close_first _ _ h)))));
      shallow = λ i ls few h. simp append_assoc (omega arith, p.shallow (i + 1) _ (omega arith) (sign.flat (i + 1) _ (q.shallow (i + 1) _ (omega arith) (closed i ls h))));
    }

shift_of : (word : List ℕ) (c : TokenKind) (k : ℕ) (w x : List ℕ) (d f : SyntaxTree) (m : ℕ) → IsSign word c → IsAmountText k w → ((ks : List TokenKind) → Spells Atoms ks d → Spells Whole (ks ++ c ∷ Number (pos k) ∷ []) f) →
    IsPrinted x d m → IsPrinted (bracketed word (x ∷ w ∷ [])) f (1 + greatest_of (m ∷ []))
shift_of word c k w x d f m sign amount spells p =
    record {
      tokens = Open ∷ ((p.tokens ++ c ∷ Number (pos k) ∷ []) ++ Close ∷ []);
      spelled = in_brackets (p.tokens ++ c ∷ Number (pos k) ∷ []) f (spells p.tokens p.spelled);
      reads = λ r ls none h. simp append_assoc (open_first _ _ (p.reads _ _ refl (sign.reads _ _ (amount _ _ refl (close_first _ _ h)))));
      shallow = λ i ls few h. simp append_assoc (omega arith, p.shallow (i + 1) _ (omega arith) (sign.flat (i + 1) _ (closed i ls h)));
    }

pub printed_shift : (word : List ℕ) (c : TokenKind) (k : ℕ) (x : List ℕ) (d f : SyntaxTree) (m : ℕ) → k < 10 ^ 10 → IsSign word c → ((ks : List TokenKind) → Spells Atoms ks d → Spells Whole (ks ++ c ∷ Number (pos k) ∷ []) f) →
    IsPrinted x d m → IsPrinted (bracketed word (x ∷ decimal k ∷ [])) f (1 + greatest_of (m ∷ []))
printed_shift word c k x d f m small sign spells p = shift_of word c k (decimal k) x d f m sign (λ r ls none h. reads_number k r ls small none h) spells p

choose_first : (r : List ℕ) (ls : List TokenKind) → Reads r ls → Reads (codes "select" ++ (40 ∷ r)) (Choose ∷ Open ∷ ls)
choose_first r ls h = reads_run (codes "select") Choose (40 ∷ r) (Open ∷ ls) (omega arith) refl refl refl (open_first r ls h)

pub printed_choice : (word : List ℕ) (c : TokenKind) (o : Op) (a b x y : List ℕ) (d e f g : SyntaxTree) (i j k l : ℕ) → IsSign word c → IsComparison c o false → IsPrinted a d i → IsPrinted b e j → IsPrinted x f k → IsPrinted y g l →
    IsPrinted (called (codes "select") (signed_by word (a ∷ b ∷ []) ∷ x ∷ y ∷ [])) (over o (d ∷ e ∷ f ∷ g ∷ [])) (1 + greatest_of (i ∷ j ∷ k ∷ l ∷ []))
printed_choice word c o a b x y d e f g i j k l sign comparison p q s t =
    record {
      tokens = Choose ∷ Open ∷ (p.tokens ++ c ∷ (q.tokens ++ Comma ∷ (s.tokens ++ Comma ∷ (t.tokens ++ Close ∷ []))));
      spelled = chosen c o false p.tokens q.tokens s.tokens t.tokens d e f g comparison (whole p.spelled) (whole q.spelled) (whole s.spelled) (whole t.spelled);
      reads = λ r ls none h. simp append_assoc (choose_first _ _ (p.reads _ _ refl (sign.reads _ _ (q.reads _ _ refl (comma_first _ _ (s.reads _ _ refl (comma_first _ _ (t.reads _ _ refl (close_first _ _ h)))))))));
      shallow = λ n ls few h. simp append_assoc (
        omega arith,
        p.shallow (n + 1) _ (omega arith) (sign.flat (n + 1) _ (q.shallow (n + 1) _ (omega arith) (s.shallow (n + 1) _ (omega arith) (t.shallow (n + 1) _ (omega arith) (closed n ls h))))),
      );
    }
