-- What is read from the left is spelled.
use Rattle.std.proofs.Common.{◌≡◌, refl, sym, ap, ◌∙◌, subst, ℕ, Bool, true, false, List, [], ◌∷◌, ◌++◌, append_assoc, append-nil, ℤ}
use Rattle.std.specs.Prelude.{neg_ℤ, if◌then◌else◌, Option, Some, None, not, ◌&&◌}
use Rattle.pf_ints.specs.declared.lane.LaneType.{LaneType}
use Rattle.pf_values.specs.declared.op.Op.{Op}
use Rattle.pf_terms.specs.declared.parse.syntax_tree.SyntaxTree.{SyntaxTree}
use Rattle.pf_terms.specs.declared.parse.symbol.ParserSymbol.{ParserSymbol}
use Rattle.pf_terms.specs.declared.parse.symbol.ParserSymbol.TheVariants.{Atom, Factors, Summands, Shifts, Offsets, Column, Row, NegatedColumn, NegatedRow, Digits, Negated, TypeName, Comparison, Open as OpenSymbol, Close as CloseSymbol, CloseSquare as CloseSquareSymbol, Comma as CommaSymbol, End}
use Rattle.pf_terms.specs.declared.parse.symbol.CallShape.{CallShape}
use Rattle.pf_terms.specs.declared.parse.symbol.CallShape.TheVariants.{One, Two, OneAndAmount, TwoAndAmount, TypeAndOne, NoCall}
use Rattle.pf_terms.specs.declared.token.TokenKind.{TokenKind}
use Rattle.pf_terms.specs.declared.token.TokenKind.TheVariants.{Name, TypeWord, Number, Typed, Word, Choose, Open, Close, OpenSquare, CloseSquare, Comma, Plus, Minus, Times, ShiftLeft, ShiftRight, Less, Greater, Same}
use Rattle.pf_terms.specs.declared.parse.build.Build.{Build}
use Rattle.pf_ints.specs.Meaning.Lanes.{is_in}
use Rattle.pf_terms.specs.Meaning.Grammar.{call_shape, Atoms, Products, Sums, Whole, IsInteger, plain, minus, IsComparison, greater, less, equal_sign, Spells, literal, negated, plain_name, placed, in_brackets, cast, one, two, one_by, two_by, typed_call, chosen, alone, product, term, sum, difference, unshifted, left, right, IsSpelled}
use Rattle.pf_terms.specs.Steps.Parsing.{parser_step, parser_after, after_atom, followed, passes, passed, may_be_none, goes_on, finished, built, parser_run, then_on, expression_symbols, call_symbols, choice_symbols}

-- the tokens that one symbol stands for; what goes on with something is said of all that it may go on with
abbrev Brings : ParserSymbol → List TokenKind → Type 0
Brings Atom ks = (e : SyntaxTree) × Spells Atoms ks e
Brings Factors ks = (p : List TokenKind) (a : SyntaxTree) → Spells Products p a → (e : SyntaxTree) × Spells Products (p ++ ks) e
Brings Summands ks = (p : List TokenKind) (a : SyntaxTree) → Spells Sums p a → (e : SyntaxTree) × Spells Sums (p ++ ks) e
Brings Shifts ks = (p : List TokenKind) (a : SyntaxTree) → Spells Whole p a → (e : SyntaxTree) × Spells Whole (p ++ ks) e
Brings Offsets ks = (w : List ℕ) → (e : SyntaxTree) × Spells Atoms (Name w ∷ ks) e
Brings Column ks = (n : ℤ) × IsInteger ks n
Brings Row ks = (n : ℤ) × IsInteger ks n
Brings NegatedColumn ks = (n : ℤ) × (ks ≡ Number n ∷ [])
Brings NegatedRow ks = (n : ℤ) × (ks ≡ Number n ∷ [])
Brings Digits ks = (n : ℤ) × (ks ≡ Number n ∷ [])
Brings Negated ks = (n : ℤ) × (t : LaneType) × (ks ≡ Typed n t ∷ []) × (is_in t (neg_ℤ n) ≡ true)
Brings TypeName ks = (t : LaneType) × (ks ≡ TypeWord t ∷ [])
Brings Comparison ks = (c : TokenKind) × (o : Op) × (swap : Bool) × IsComparison c o swap × (ks ≡ c ∷ [])
Brings OpenSymbol ks = ks ≡ Open ∷ []
Brings CloseSymbol ks = ks ≡ Close ∷ []
Brings CloseSquareSymbol ks = ks ≡ CloseSquare ∷ []
Brings CommaSymbol ks = ks ≡ Comma ∷ []
Brings End ks = ks ≡ []

-- the tokens are those of each symbol, one after another
abbrev Bring : List ParserSymbol → List TokenKind → Type 0
Bring [] ks = ks ≡ []
Bring (x ∷ s) ks = (p : List TokenKind) × (q : List TokenKind) × (ks ≡ p ++ q) × Brings x p × Bring s q

no_factors : Brings Factors []
no_factors p a h = (a, subst (λ z. Spells Products z a) (sym (append-nil p)) h)

no_summands : Brings Summands []
no_summands p a h = (a, subst (λ z. Spells Sums z a) (sym (append-nil p)) h)

no_shifts : Brings Shifts []
no_shifts p a h = (a, subst (λ z. Spells Whole z a) (sym (append-nil p)) h)

no_offsets : Brings Offsets []
no_offsets w = (_, plain_name w)

-- the end of what was begun takes no token
no_end : (s : List ParserSymbol) (ks : List TokenKind) → Bring (End ∷ s) ks → Bring s ks
no_end s ks h = subst (λ l. Bring s l) (sym (h.2 ∙ ap (λ l. l ++ h.1) h.3)) h.4

behind_end : (x : ParserSymbol) (s : List ParserSymbol) (ks : List TokenKind) → Bring (x ∷ End ∷ s) ks → Bring (x ∷ s) ks
behind_end x s ks h = (h.0, h.1, h.2, h.3, no_end s h.1 h.4)

-- an expression, and what comes behind it
abbrev Then : List ParserSymbol → List TokenKind → Type 0
Then s ks = (p : List TokenKind) × (q : List TokenKind) × (ks ≡ p ++ q) × ((e : SyntaxTree) × Spells Whole p e) × Bring s q

joined_parts : (a b c d q ks k1 k2 k3 : List TokenKind) → ks ≡ a ++ k1 → k1 ≡ b ++ k2 → k2 ≡ c ++ k3 → k3 ≡ d ++ q → ks ≡ (((a ++ b) ++ c) ++ d) ++ q
joined_parts a b c d q ks k1 k2 k3 e f g h = rw (e, f, g, h) (simp append_assoc)

whole_parts : (s : List ParserSymbol) (ks : List TokenKind) → Bring (expression_symbols ++ s) ks → Then s ks
whole_parts s ks h =
    let atom = h.3 in
    let one = h.4.3 (h.0) atom.0 (alone h.0 atom.0 atom.1) in
    let two = h.4.4.3 (h.0 ++ h.4.0) one.0 (term (h.0 ++ h.4.0) one.0 one.1) in
    let all = h.4.4.4.3 ((h.0 ++ h.4.0) ++ h.4.4.0) two.0 (unshifted ((h.0 ++ h.4.0) ++ h.4.4.0) two.0 two.1) in (
      ((h.0 ++ h.4.0) ++ h.4.4.0) ++ h.4.4.4.0,
      h.4.4.4.1,
      joined_parts h.0 h.4.0 h.4.4.0 h.4.4.4.0 h.4.4.4.1 ks h.1 h.4.1 h.4.4.1 h.2 h.4.2 h.4.4.2 h.4.4.4.2,
      (all.0, all.1),
      h.4.4.4.4,
    )

first_sign : (k : TokenKind) (ks p q : List TokenKind) → ks ≡ p ++ q → p ≡ k ∷ [] → ks ≡ k ∷ q
first_sign k ks p q e is = e ∙ ap (λ l. l ++ q) is

behind_sign : (k : TokenKind) (p q ks r : List TokenKind) → ks ≡ p ++ q → q ≡ k ∷ r → ks ≡ p ++ k ∷ r
behind_sign k p q ks r e is = e ∙ ap (λ l. p ++ l) is

-- a bracket that opens, an expression up to a bracket that closes, and one up to a comma
open_parts : (s : List ParserSymbol) (ks : List TokenKind) → Bring (OpenSymbol ∷ s) ks → (q : List TokenKind) × (ks ≡ Open ∷ q) × Bring s q
open_parts s ks h = (h.1, first_sign Open ks h.0 h.1 h.2 h.3, h.4)

closed_parts : (s : List ParserSymbol) (ks : List TokenKind) → Bring (expression_symbols ++ CloseSymbol ∷ s) ks → (p : List TokenKind) × (q : List TokenKind) × (ks ≡ p ++ Close ∷ q) × ((e : SyntaxTree) × Spells Whole p e) × Bring s q
closed_parts s ks h =
    let g = whole_parts (CloseSymbol ∷ s) ks h in
    let c = g.4 in
    (g.0, c.1, behind_sign Close g.0 g.1 ks c.1 g.2 (first_sign Close g.1 c.0 c.1 c.2 c.3), g.3, c.4)

comma_parts : (s : List ParserSymbol) (ks : List TokenKind) → Bring (expression_symbols ++ CommaSymbol ∷ s) ks → (p : List TokenKind) × (q : List TokenKind) × (ks ≡ p ++ Comma ∷ q) × ((e : SyntaxTree) × Spells Whole p e) × Bring s q
comma_parts s ks h =
    let g = whole_parts (CommaSymbol ∷ s) ks h in
    let c = g.4 in
    (g.0, c.1, behind_sign Comma g.0 g.1 ks c.1 g.2 (first_sign Comma g.1 c.0 c.1 c.2 c.3), g.3, c.4)

-- a number and the bracket behind it
amount_parts : (s : List ParserSymbol) (ks : List TokenKind) → Bring (Digits ∷ CloseSymbol ∷ s) ks → (n : ℤ) × (q : List TokenKind) × (ks ≡ Number n ∷ Close ∷ q) × Bring s q
amount_parts s ks h =
    let n = h.3.0 in
    let c = h.4 in
    (n, c.1, first_sign (Number n) ks h.0 h.1 h.2 h.3.1 ∙ ap (λ l. Number n ∷ l) (first_sign Close h.1 c.0 c.1 c.2 c.3), c.4)

-- an atom in front, by its tokens
abbrev atom_is : (s : List ParserSymbol) (p q ks : List TokenKind) (e : SyntaxTree) → Spells Atoms p e → ks ≡ p ++ q → Bring s q → Bring (Atom ∷ s) ks
atom_is s p q ks e i is rest = (p, q, is, (e, i), rest)

close_up : (p q : List TokenKind) → p ++ Close ∷ q ≡ (p ++ Close ∷ []) ++ q
close_up p q = sym (append_assoc p (Close ∷ []) q)

bracket_atom : (s : List ParserSymbol) (ks : List TokenKind) → Bring (expression_symbols ++ CloseSymbol ∷ s) ks → Bring (Atom ∷ s) (Open ∷ ks)
bracket_atom s ks h =
    let g = closed_parts s ks h in
    atom_is s (Open ∷ (g.0 ++ Close ∷ [])) g.1 (Open ∷ ks) g.3.0 (in_brackets g.0 g.3.0 g.3.1) (ap (λ l. Open ∷ l) (g.2 ∙ close_up g.0 g.1)) g.4

cast_atom : (t : LaneType) (s : List ParserSymbol) (ks : List TokenKind) → Bring (OpenSymbol ∷ (expression_symbols ++ CloseSymbol ∷ s)) ks → Bring (Atom ∷ s) (TypeWord t ∷ ks)
cast_atom t s ks h =
    let o = open_parts (expression_symbols ++ CloseSymbol ∷ s) ks h in
    let g = closed_parts s o.0 o.2 in
    atom_is s (TypeWord t ∷ Open ∷ (g.0 ++ Close ∷ [])) g.1 (TypeWord t ∷ ks) _ (cast t g.0 g.3.0 g.3.1)
    (ap (λ l. TypeWord t ∷ l) (o.1 ∙ ap (λ l. Open ∷ l) (g.2 ∙ close_up g.0 g.1))) g.4

one_atom : (o : Op) (s : List ParserSymbol) (ks : List TokenKind) → call_shape o ≡ One → Bring (OpenSymbol ∷ (expression_symbols ++ CloseSymbol ∷ s)) ks → Bring (Atom ∷ s) (Word o ∷ ks)
one_atom o s ks is h =
    let b = open_parts (expression_symbols ++ CloseSymbol ∷ s) ks h in
    let g = closed_parts s b.0 b.2 in
    atom_is s (Word o ∷ Open ∷ (g.0 ++ Close ∷ [])) g.1 (Word o ∷ ks) _ (one o g.0 g.3.0 is g.3.1)
    (ap (λ l. Word o ∷ l) (b.1 ∙ ap (λ l. Open ∷ l) (g.2 ∙ close_up g.0 g.1))) g.4

-- two operands up to the bracket
two_parts : (p q r ks ls : List TokenKind) → ks ≡ p ++ Comma ∷ ls → ls ≡ q ++ Close ∷ r → ks ≡ (p ++ Comma ∷ (q ++ Close ∷ [])) ++ r
two_parts p q r ks ls e f = rw (e, f) (simp append_assoc)

two_atom : (o : Op) (s : List ParserSymbol) (ks : List TokenKind) → call_shape o ≡ Two → Bring (OpenSymbol ∷ (expression_symbols ++ CommaSymbol ∷ (expression_symbols ++ CloseSymbol ∷ s))) ks → Bring (Atom ∷ s) (Word o ∷ ks)
two_atom o s ks is h =
    let b = open_parts (expression_symbols ++ CommaSymbol ∷ (expression_symbols ++ CloseSymbol ∷ s)) ks h in
    let f = comma_parts (expression_symbols ++ CloseSymbol ∷ s) b.0 b.2 in
    let g = closed_parts s f.1 f.4 in
    atom_is s (Word o ∷ Open ∷ (f.0 ++ Comma ∷ (g.0 ++ Close ∷ []))) g.1 (Word o ∷ ks) _ (two o f.0 g.0 f.3.0 g.3.0 is f.3.1 g.3.1)
    (ap (λ l. Word o ∷ l) (b.1 ∙ ap (λ l. Open ∷ l) (two_parts f.0 g.0 g.1 b.0 f.1 f.2 g.2))) g.4

one_by_parts : (n : ℤ) (p r ks ls : List TokenKind) → ks ≡ p ++ Comma ∷ ls → ls ≡ Number n ∷ Close ∷ r → ks ≡ (p ++ Comma ∷ Number n ∷ Close ∷ []) ++ r
one_by_parts n p r ks ls e f = rw (e, f) (simp append_assoc)

one_by_atom : (o : Op) (s : List ParserSymbol) (ks : List TokenKind) → call_shape o ≡ OneAndAmount → Bring (OpenSymbol ∷ (expression_symbols ++ CommaSymbol ∷ Digits ∷ CloseSymbol ∷ s)) ks → Bring (Atom ∷ s) (Word o ∷ ks)
one_by_atom o s ks is h =
    let b = open_parts (expression_symbols ++ CommaSymbol ∷ Digits ∷ CloseSymbol ∷ s) ks h in
    let f = comma_parts (Digits ∷ CloseSymbol ∷ s) b.0 b.2 in
    let n = amount_parts s f.1 f.4 in
    atom_is s (Word o ∷ Open ∷ (f.0 ++ Comma ∷ Number n.0 ∷ Close ∷ [])) n.1 (Word o ∷ ks) _ (one_by o f.0 f.3.0 n.0 is f.3.1)
    (ap (λ l. Word o ∷ l) (b.1 ∙ ap (λ l. Open ∷ l) (one_by_parts n.0 f.0 n.1 b.0 f.1 f.2 n.2))) n.3

two_by_parts : (n : ℤ) (p q r ks ls ms : List TokenKind) → ks ≡ p ++ Comma ∷ ls → ls ≡ q ++ Comma ∷ ms → ms ≡ Number n ∷ Close ∷ r → ks ≡ (p ++ Comma ∷ (q ++ Comma ∷ Number n ∷ Close ∷ [])) ++ r
two_by_parts n p q r ks ls ms e f g = rw (e, f, g) (simp append_assoc)

two_by_atom : (o : Op) (s : List ParserSymbol) (ks : List TokenKind) → call_shape o ≡ TwoAndAmount → Bring (OpenSymbol ∷ (expression_symbols ++ CommaSymbol ∷ (expression_symbols ++ CommaSymbol ∷ Digits ∷ CloseSymbol ∷ s))) ks → Bring (Atom ∷ s) (Word o ∷ ks)
two_by_atom o s ks is h =
    let b = open_parts (expression_symbols ++ CommaSymbol ∷ (expression_symbols ++ CommaSymbol ∷ Digits ∷ CloseSymbol ∷ s)) ks h in
    let f = comma_parts (expression_symbols ++ CommaSymbol ∷ Digits ∷ CloseSymbol ∷ s) b.0 b.2 in
    let g = comma_parts (Digits ∷ CloseSymbol ∷ s) f.1 f.4 in
    let n = amount_parts s g.1 g.4 in
    atom_is s (Word o ∷ Open ∷ (f.0 ++ Comma ∷ (g.0 ++ Comma ∷ Number n.0 ∷ Close ∷ []))) n.1 (Word o ∷ ks) _ (two_by o f.0 g.0 f.3.0 g.3.0 n.0 is f.3.1 g.3.1)
    (ap (λ l. Word o ∷ l) (b.1 ∙ ap (λ l. Open ∷ l) (two_by_parts n.0 f.0 g.0 n.1 b.0 f.1 g.1 f.2 g.2 n.2))) n.3

typed_parts : (t : LaneType) (p r ks a rest ls : List TokenKind) → ks ≡ a ++ rest → a ≡ TypeWord t ∷ [] → rest ≡ Comma ∷ ls → ls ≡ p ++ Close ∷ r → ks ≡ (TypeWord t ∷ Comma ∷ (p ++ Close ∷ [])) ++ r
typed_parts t p r ks a rest ls e f g h = rw (e, f, g, h) (simp append_assoc)

typed_atom : (o : Op) (s : List ParserSymbol) (ks : List TokenKind) → call_shape o ≡ TypeAndOne → Bring (OpenSymbol ∷ TypeName ∷ CommaSymbol ∷ (expression_symbols ++ CloseSymbol ∷ s)) ks → Bring (Atom ∷ s) (Word o ∷ ks)
typed_atom o s ks is h =
    let b = open_parts (TypeName ∷ CommaSymbol ∷ (expression_symbols ++ CloseSymbol ∷ s)) ks h in
    let t = b.2 in
    let c = t.4 in
    let g = closed_parts s c.1 c.4 in
    atom_is s (Word o ∷ Open ∷ TypeWord t.3.0 ∷ Comma ∷ (g.0 ++ Close ∷ [])) g.1 (Word o ∷ ks) _ (typed_call o t.3.0 g.0 g.3.0 is g.3.1)
    (ap (λ l. Word o ∷ l) (b.1 ∙ ap (λ l. Open ∷ l) (typed_parts t.3.0 g.0 g.1 b.0 t.0 t.1 c.1 t.2 t.3.1 (first_sign Comma t.1 c.0 c.1 c.2 c.3) g.2))) g.4

choice_parts : (c : TokenKind) (a b x y r k0 k1 k2 k3 k4 cs : List TokenKind) → k0 ≡ a ++ k1 → k1 ≡ cs ++ k2 → cs ≡ c ∷ [] → k2 ≡ b ++ Comma ∷ k3 → k3 ≡ x ++ Comma ∷ k4 → k4 ≡ y ++ Close ∷ r →
    k0 ≡ (a ++ c ∷ (b ++ Comma ∷ (x ++ Comma ∷ (y ++ Close ∷ [])))) ++ r
choice_parts c a b x y r k0 k1 k2 k3 k4 cs e f g h i j = rw (e, f, g, h, i, j) (simp append_assoc)

-- what stands in the brackets of a choice
abbrev choice_then : List ParserSymbol → List ParserSymbol
choice_then s = expression_symbols ++ Comparison ∷ (expression_symbols ++ CommaSymbol ∷ (expression_symbols ++ CommaSymbol ∷ (expression_symbols ++ CloseSymbol ∷ s)))

choice_atom : (s : List ParserSymbol) (ks : List TokenKind) → Bring (OpenSymbol ∷ choice_then s) ks → Bring (Atom ∷ s) (Choose ∷ ks)
choice_atom s ks h =
    let s1 = expression_symbols ++ CloseSymbol ∷ s in
    let s2 = expression_symbols ++ CommaSymbol ∷ s1 in
    let s3 = expression_symbols ++ CommaSymbol ∷ s2 in
    let b = open_parts (choice_then s) ks h in
    let g = whole_parts (Comparison ∷ s3) b.0 b.2 in
    let c = g.4 in
    let f = comma_parts s2 c.1 c.4 in
    let i = comma_parts s1 f.1 f.4 in
    let j = closed_parts s i.1 i.4 in
    let sign = c.3 in
    atom_is s (Choose ∷ Open ∷ (g.0 ++ sign.0 ∷ (f.0 ++ Comma ∷ (i.0 ++ Comma ∷ (j.0 ++ Close ∷ []))))) j.1 (Choose ∷ ks) _
    (chosen sign.0 sign.1 sign.2 g.0 f.0 i.0 j.0 g.3.0 f.3.0 i.3.0 j.3.0 sign.3 g.3.1 f.3.1 i.3.1 j.3.1)
    (ap (λ l. Choose ∷ l) (b.1 ∙ ap (λ l. Open ∷ l) (choice_parts sign.0 g.0 f.0 i.0 j.0 j.1 b.0 g.1 c.1 f.1 i.1 c.0 g.2 c.2 sign.4 f.2 i.2 j.2))) j.4

some_same : (s t : List ParserSymbol) → ◌≡◌ {A = Option (List ParserSymbol)} (Some s) (Some t) → s ≡ t
some_same s t e = cc

-- what comes is what the table says
into : (s new told : List ParserSymbol) (ks : List TokenKind) → ◌≡◌ {A = Option (List ParserSymbol)} (Some told) (Some new) → Bring (new ++ s) ks → Bring (told ++ s) ks
into s new told ks e h = subst (λ z. Bring (z ++ s) ks) (sym (some_same told new e)) h

word_atom : (shape : CallShape) (o : Op) (s new : List ParserSymbol) (ks : List TokenKind) → call_shape o ≡ shape → call_symbols shape ≡ Some new → Bring (new ++ s) ks → Bring (Atom ∷ End ∷ s) (Word o ∷ ks)
word_atom One o s new ks is e h = one_atom o (End ∷ s) ks is (into s new (OpenSymbol ∷ (expression_symbols ++ CloseSymbol ∷ End ∷ [])) ks e h)
word_atom Two o s new ks is e h = two_atom o (End ∷ s) ks is (into s new (OpenSymbol ∷ (expression_symbols ++ CommaSymbol ∷ (expression_symbols ++ CloseSymbol ∷ End ∷ []))) ks e h)
word_atom OneAndAmount o s new ks is e h = one_by_atom o (End ∷ s) ks is (into s new (OpenSymbol ∷ (expression_symbols ++ CommaSymbol ∷ Digits ∷ CloseSymbol ∷ End ∷ [])) ks e h)
word_atom TwoAndAmount o s new ks is e h = two_by_atom o (End ∷ s) ks is (into s new (OpenSymbol ∷ (expression_symbols ++ CommaSymbol ∷ (expression_symbols ++ CommaSymbol ∷ Digits ∷ CloseSymbol ∷ End ∷ []))) ks e h)
word_atom TypeAndOne o s new ks is e h = typed_atom o (End ∷ s) ks is (into s new (OpenSymbol ∷ TypeName ∷ CommaSymbol ∷ (expression_symbols ++ CloseSymbol ∷ End ∷ [])) ks e h)
word_atom NoCall o s new ks is e h = absurd (cc)

negated_atom : (s : List ParserSymbol) (ks : List TokenKind) → Bring (Negated ∷ s) ks → Bring (Atom ∷ s) (Minus ∷ ks)
negated_atom s ks h =
    let is = h.3.2 in
    atom_is s (Minus ∷ Typed h.3.0 h.3.1 ∷ []) h.1 (Minus ∷ ks) _ (negated h.3.0 h.3.1 h.3.3) (ap (λ l. Minus ∷ l) (first_sign (Typed h.3.0 h.3.1) ks h.0 h.1 h.2 is)) h.4

-- what a test lets through
if_some : (b : Bool) (new : List ParserSymbol) → (if b then Some [] else None) ≡ Some new → (b ≡ true) × ([] ≡ new)
if_some true new e = (refl, cc)
if_some false new e = absurd (cc)

tested : (s new : List ParserSymbol) (ks : List TokenKind) → [] ≡ new → Bring (new ++ s) ks → Bring s ks
tested s new ks e h = subst (λ z. Bring (z ++ s) ks) (sym e) h

atom_stepped : (k : TokenKind) (s new : List ParserSymbol) (ks : List TokenKind) → after_atom k ≡ Some new → Bring (new ++ s) ks → Bring (Atom ∷ s) (k ∷ ks)
atom_stepped (Typed n t) s new ks e h =
    let both = if_some (is_in t n) new e in
    atom_is s (Typed n t ∷ []) ks (Typed n t ∷ ks) _ (literal n t both.0) refl (tested s new ks both.1 h)
atom_stepped Minus s new ks e h = negated_atom s ks (into s new (Negated ∷ []) ks e h)
atom_stepped (Name w) s new ks e h =
    let g = behind_end Offsets s ks (into s new (Offsets ∷ End ∷ []) ks e h) in
    let a = g.3 w in
    atom_is s (Name w ∷ g.0) g.1 (Name w ∷ ks) a.0 a.1 (ap (λ l. Name w ∷ l) g.2) g.4
atom_stepped (TypeWord t) s new ks e h = behind_end Atom s (TypeWord t ∷ ks) (cast_atom t (End ∷ s) ks (into s new (OpenSymbol ∷ (expression_symbols ++ CloseSymbol ∷ End ∷ [])) ks e h))
atom_stepped Open s new ks e h = bracket_atom s ks (into s new (expression_symbols ++ CloseSymbol ∷ []) ks e h)
atom_stepped (Word o) s new ks e h = behind_end Atom s (Word o ∷ ks) (word_atom (call_shape o) o s new ks refl e h)
atom_stepped Choose s new ks e h = behind_end Atom s (Choose ∷ ks) (choice_atom (End ∷ s) ks (into s new choice_symbols ks e h))
atom_stepped _ s new ks e h = absurd (cc)

-- ---- what may go on
goes_on_with : (k : TokenKind) (a b q ks k1 : List TokenKind) → ks ≡ a ++ k1 → k1 ≡ b ++ q → k ∷ ks ≡ (k ∷ (a ++ b)) ++ q
goes_on_with k a b q ks k1 e f = rw (e, f) (simp append_assoc)

factors_stepped : (k : TokenKind) (s new : List ParserSymbol) (ks : List TokenKind) → parser_after Factors k ≡ Some new → Bring (new ++ s) ks → Bring (Factors ∷ s) (k ∷ ks)
factors_stepped Times s new ks e h =
    let g = behind_end Atom (Factors ∷ s) ks (into s new (Atom ∷ End ∷ Factors ∷ []) ks e h) in
    let goes : Brings Factors (Times ∷ (g.0 ++ g.4.0)) = λ p a i.
    let r = g.4.3 (p ++ Times ∷ g.0) _ (product p g.0 a g.3.0 i g.3.1) in
    (r.0, subst (λ z. Spells Products z r.0) (append_assoc p (Times ∷ g.0) g.4.0) r.1)
    in
    (Times ∷ (g.0 ++ g.4.0), g.4.1, goes_on_with Times g.0 g.4.0 g.4.1 ks g.1 g.2 g.4.2, goes, g.4.4)
factors_stepped _ s new ks e h = absurd (cc)

sum_goes_on : (k : TokenKind) (a b c q ks k1 k2 : List TokenKind) → ks ≡ a ++ k1 → k1 ≡ b ++ k2 → k2 ≡ c ++ q → k ∷ ks ≡ (k ∷ ((a ++ b) ++ c)) ++ q
sum_goes_on k a b c q ks k1 k2 e f g = rw (e, f, g) (simp append_assoc)

summand_parts : (s : List ParserSymbol) (ks : List TokenKind) → Bring (Atom ∷ Factors ∷ End ∷ Summands ∷ s) ks → Bring (Atom ∷ Factors ∷ Summands ∷ s) ks
summand_parts s ks h = (h.0, h.1, h.2, h.3, behind_end Factors (Summands ∷ s) h.1 h.4)

summands_stepped : (k : TokenKind) (s new : List ParserSymbol) (ks : List TokenKind) → parser_after Summands k ≡ Some new → Bring (new ++ s) ks → Bring (Summands ∷ s) (k ∷ ks)
summands_stepped Plus s new ks e h =
    let g = summand_parts s ks (into s new (Atom ∷ Factors ∷ End ∷ Summands ∷ []) ks e h) in
    let f = g.4.3 g.0 g.3.0 (alone g.0 g.3.0 g.3.1) in
    let goes : Brings Summands (Plus ∷ ((g.0 ++ g.4.0) ++ g.4.4.0)) = λ p a i.
    let r = g.4.4.3 (p ++ Plus ∷ (g.0 ++ g.4.0)) _ (sum p (g.0 ++ g.4.0) a f.0 i f.1) in
    (r.0, subst (λ z. Spells Sums z r.0) (append_assoc p (Plus ∷ (g.0 ++ g.4.0)) g.4.4.0) r.1)
    in
    (Plus ∷ ((g.0 ++ g.4.0) ++ g.4.4.0), g.4.4.1, sum_goes_on Plus g.0 g.4.0 g.4.4.0 g.4.4.1 ks g.1 g.4.1 g.2 g.4.2 g.4.4.2, goes, g.4.4.4)
summands_stepped Minus s new ks e h =
    let g = summand_parts s ks (into s new (Atom ∷ Factors ∷ End ∷ Summands ∷ []) ks e h) in
    let f = g.4.3 g.0 g.3.0 (alone g.0 g.3.0 g.3.1) in
    let goes : Brings Summands (Minus ∷ ((g.0 ++ g.4.0) ++ g.4.4.0)) = λ p a i.
    let r = g.4.4.3 (p ++ Minus ∷ (g.0 ++ g.4.0)) _ (difference p (g.0 ++ g.4.0) a f.0 i f.1) in
    (r.0, subst (λ z. Spells Sums z r.0) (append_assoc p (Minus ∷ (g.0 ++ g.4.0)) g.4.4.0) r.1)
    in
    (Minus ∷ ((g.0 ++ g.4.0) ++ g.4.4.0), g.4.4.1, sum_goes_on Minus g.0 g.4.0 g.4.4.0 g.4.4.1 ks g.1 g.4.1 g.2 g.4.2 g.4.4.2, goes, g.4.4.4)
summands_stepped _ s new ks e h = absurd (cc)

shifts_stepped : (k : TokenKind) (s new : List ParserSymbol) (ks : List TokenKind) → parser_after Shifts k ≡ Some new → Bring (new ++ s) ks → Bring (Shifts ∷ s) (k ∷ ks)
shifts_stepped ShiftLeft s new ks e h =
    let g = behind_end Digits (Shifts ∷ s) ks (into s new (Digits ∷ End ∷ Shifts ∷ []) ks e h) in
    let goes : Brings Shifts (ShiftLeft ∷ (g.0 ++ g.4.0)) = λ p a i.
    let first = subst (λ z. (x : SyntaxTree) × Spells Whole (p ++ ShiftLeft ∷ z) x) (sym g.3.1) (_, left p a g.3.0 i) in
    let r = g.4.3 (p ++ ShiftLeft ∷ g.0) first.0 first.1 in
    (r.0, subst (λ z. Spells Whole z r.0) (append_assoc p (ShiftLeft ∷ g.0) g.4.0) r.1)
    in
    (ShiftLeft ∷ (g.0 ++ g.4.0), g.4.1, goes_on_with ShiftLeft g.0 g.4.0 g.4.1 ks g.1 g.2 g.4.2, goes, g.4.4)
shifts_stepped ShiftRight s new ks e h =
    let g = behind_end Digits (Shifts ∷ s) ks (into s new (Digits ∷ End ∷ Shifts ∷ []) ks e h) in
    let goes : Brings Shifts (ShiftRight ∷ (g.0 ++ g.4.0)) = λ p a i.
    let first = subst (λ z. (x : SyntaxTree) × Spells Whole (p ++ ShiftRight ∷ z) x) (sym g.3.1) (_, right p a g.3.0 i) in
    let r = g.4.3 (p ++ ShiftRight ∷ g.0) first.0 first.1 in
    (r.0, subst (λ z. Spells Whole z r.0) (append_assoc p (ShiftRight ∷ g.0) g.4.0) r.1)
    in
    (ShiftRight ∷ (g.0 ++ g.4.0), g.4.1, goes_on_with ShiftRight g.0 g.4.0 g.4.1 ks g.1 g.2 g.4.2, goes, g.4.4)
shifts_stepped _ s new ks e h = absurd (cc)

offset_parts : (xs k1 c k2 ys k3 z q ks : List TokenKind) → ks ≡ xs ++ k1 → k1 ≡ c ++ k2 → c ≡ Comma ∷ [] → k2 ≡ ys ++ k3 → k3 ≡ z ++ q → z ≡ CloseSquare ∷ [] → ks ≡ (xs ++ Comma ∷ (ys ++ CloseSquare ∷ [])) ++ q
offset_parts xs k1 c k2 ys k3 z q ks e f g h i j = rw (e, f, g, h, i, j) (simp append_assoc)

offsets_stepped : (k : TokenKind) (s new : List ParserSymbol) (ks : List TokenKind) → parser_after Offsets k ≡ Some new → Bring (new ++ s) ks → Bring (Offsets ∷ s) (k ∷ ks)
offsets_stepped OpenSquare s new ks e h =
    let g = into s new (Column ∷ CommaSymbol ∷ Row ∷ CloseSquareSymbol ∷ []) ks e h in
    let c = g.4 in
    let y = c.4 in
    let z = y.4 in
    let goes : Brings Offsets (OpenSquare ∷ (g.0 ++ Comma ∷ (y.0 ++ CloseSquare ∷ []))) = λ w. (_, placed w g.0 y.0 g.3.0 y.3.0 g.3.1 y.3.1) in
    (OpenSquare ∷ (g.0 ++ Comma ∷ (y.0 ++ CloseSquare ∷ [])), z.1, ap (λ l. OpenSquare ∷ l) (offset_parts g.0 g.1 c.0 c.1 y.0 y.1 z.0 z.1 ks g.2 c.2 c.3 y.2 z.2 z.3), goes, z.4)
offsets_stepped _ s new ks e h = absurd (cc)

-- ---- what has to come
column_stepped : (k : TokenKind) (s new : List ParserSymbol) (ks : List TokenKind) → parser_after Column k ≡ Some new → Bring (new ++ s) ks → Bring (Column ∷ s) (k ∷ ks)
column_stepped (Number n) s new ks e h = (Number n ∷ [], ks, refl, (n, plain n), into s new [] ks e h)
column_stepped Minus s new ks e h =
    let g = into s new (NegatedColumn ∷ []) ks e h in
    (Minus ∷ Number g.3.0 ∷ [], g.1, ap (λ l. Minus ∷ l) (first_sign (Number g.3.0) ks g.0 g.1 g.2 g.3.1), (_, minus g.3.0), g.4)
column_stepped _ s new ks e h = absurd (cc)

row_stepped : (k : TokenKind) (s new : List ParserSymbol) (ks : List TokenKind) → parser_after Row k ≡ Some new → Bring (new ++ s) ks → Bring (Row ∷ s) (k ∷ ks)
row_stepped (Number n) s new ks e h = (Number n ∷ [], ks, refl, (n, plain n), into s new [] ks e h)
row_stepped Minus s new ks e h =
    let g = into s new (NegatedRow ∷ []) ks e h in
    (Minus ∷ Number g.3.0 ∷ [], g.1, ap (λ l. Minus ∷ l) (first_sign (Number g.3.0) ks g.0 g.1 g.2 g.3.1), (_, minus g.3.0), g.4)
row_stepped _ s new ks e h = absurd (cc)

negated_stepped : (k : TokenKind) (s new : List ParserSymbol) (ks : List TokenKind) → parser_after Negated k ≡ Some new → Bring (new ++ s) ks → Bring (Negated ∷ s) (k ∷ ks)
negated_stepped (Typed n u) s new ks e h =
    let both = if_some (is_in u (neg_ℤ n)) new e in
    (Typed n u ∷ [], ks, refl, (n, u, refl, both.0), tested s new ks both.1 h)
negated_stepped _ s new ks e h = absurd (cc)

-- one token
single : (x : ParserSymbol) (k : TokenKind) (s new : List ParserSymbol) (ks : List TokenKind) → Brings x (k ∷ []) → ◌≡◌ {A = Option (List ParserSymbol)} (Some []) (Some new) → Bring (new ++ s) ks → Bring (x ∷ s) (k ∷ ks)
single x k s new ks is e h = (k ∷ [], ks, refl, is, into s new [] ks e h)

sign_stepped : (x : ParserSymbol) (k : TokenKind) (s new : List ParserSymbol) (ks : List TokenKind) → parser_after x k ≡ Some new → Bring (new ++ s) ks → Bring (x ∷ s) (k ∷ ks)
sign_stepped Atom k s new ks e h = atom_stepped k s new ks e h
sign_stepped Factors k s new ks e h = factors_stepped k s new ks e h
sign_stepped Summands k s new ks e h = summands_stepped k s new ks e h
sign_stepped Shifts k s new ks e h = shifts_stepped k s new ks e h
sign_stepped Offsets k s new ks e h = offsets_stepped k s new ks e h
sign_stepped Column k s new ks e h = column_stepped k s new ks e h
sign_stepped Row k s new ks e h = row_stepped k s new ks e h
sign_stepped Negated k s new ks e h = negated_stepped k s new ks e h
sign_stepped NegatedColumn (Number n) s new ks e h = single NegatedColumn (Number n) s new ks (n, refl) e h
sign_stepped NegatedRow (Number n) s new ks e h = single NegatedRow (Number n) s new ks (n, refl) e h
sign_stepped Digits (Number n) s new ks e h = single Digits (Number n) s new ks (n, refl) e h
sign_stepped TypeName (TypeWord u) s new ks e h = single TypeName (TypeWord u) s new ks (u, refl) e h
sign_stepped Comparison Greater s new ks e h = single Comparison Greater s new ks (Greater, _, _, greater, refl) e h
sign_stepped Comparison Less s new ks e h = single Comparison Less s new ks (Less, _, _, less, refl) e h
sign_stepped Comparison Same s new ks e h = single Comparison Same s new ks (Same, _, _, equal_sign, refl) e h
sign_stepped OpenSymbol Open s new ks e h = single OpenSymbol Open s new ks refl e h
sign_stepped CloseSymbol Close s new ks e h = single CloseSymbol Close s new ks refl e h
sign_stepped CloseSquareSymbol CloseSquare s new ks e h = single CloseSquareSymbol CloseSquare s new ks refl e h
sign_stepped CommaSymbol Comma s new ks e h = single CommaSymbol Comma s new ks refl e h
sign_stepped _ k s new ks e h = absurd (cc)

-- what may be none
none_brought : (x : ParserSymbol) (s : List ParserSymbol) (ks : List TokenKind) → may_be_none x ≡ true → Bring s ks → Bring (x ∷ s) ks
none_brought Factors s ks none h = ([], ks, refl, no_factors, h)
none_brought Summands s ks none h = ([], ks, refl, no_summands, h)
none_brought Shifts s ks none h = ([], ks, refl, no_shifts, h)
none_brought Offsets s ks none h = ([], ks, refl, no_offsets, h)
none_brought End s ks none h = ([], ks, refl, refl, h)
none_brought _ s ks none h = absurd (let never : ◌≡◌ {A = Bool} false true = none in cc)

first_true : (a b : Bool) → (a && b) ≡ true → a ≡ true
first_true true b h = refl
first_true false b h = h

followed_stepped : (x : ParserSymbol) (s t : List ParserSymbol) (k : TokenKind) (ks : List TokenKind) (o : Option (List ParserSymbol)) → parser_after x k ≡ o → followed s o ≡ Some t → Bring t ks → Bring (x ∷ s) (k ∷ ks)
followed_stepped x s t k ks (Some new) is e h = sign_stepped x k s new ks is (subst (λ z. Bring z ks) (sym (some_same (new ++ s) t e)) h)
followed_stepped x s t k ks None is e h = absurd (cc)

stepped_by : (x : ParserSymbol) (s t : List ParserSymbol) (k : TokenKind) (ks : List TokenKind) (p : Bool) → passes x k ≡ p → (if p then parser_step s k else followed s (parser_after x k)) ≡ Some t → Bring t ks → (parser_step s k ≡ Some t → Bring s (k ∷ ks)) → Bring (x ∷ s) (k ∷ ks)
stepped_by x s t k ks true is e h ih = none_brought x s (k ∷ ks) (first_true (may_be_none x) (not (goes_on x k)) is) (ih e)
stepped_by x s t k ks false is e h ih = followed_stepped x s t k ks (parser_after x k) refl e h

stepped : (s t : List ParserSymbol) (k : TokenKind) (ks : List TokenKind) → parser_step s k ≡ Some t → Bring t ks → Bring s (k ∷ ks)
stepped [] t k ks e h = absurd (cc)
stepped (x ∷ s) t k ks e h = stepped_by x s t k ks (passes x k) refl e h (λ f. stepped s t k ks f h)

done_by : (x : ParserSymbol) (s : List ParserSymbol) (found : Option Build) (r : Build) (p : Bool) → may_be_none x ≡ p → (if p then found else None) ≡ Some r → (found ≡ Some r → Bring s []) → Bring (x ∷ s) []
done_by x s found r true is e ih = none_brought x s [] is (ih e)
done_by x s found r false is e ih = absurd (cc)

done : (s : List ParserSymbol) (b r : Build) → finished s b ≡ Some r → Bring s []
done [] b r h = refl
done (x ∷ s) b r h = done_by x s (finished s (passed x b)) r (may_be_none x) refl h (λ e. done s (passed x b) r e)

brought : (ks : List TokenKind) (s : List ParserSymbol) (b r : Build) → parser_run ks s b ≡ Some r → Bring s ks
brought [] s b r h = done s b r h
brought (k ∷ ks) s b r h = by (λ t. brought ks t (built s k b) r) (parser_step s k) refl h where
  by : ((t : List ParserSymbol) → parser_run ks t (built s k b) ≡ Some r → Bring t ks) → (o : Option (List ParserSymbol)) → parser_step s k ≡ o → then_on (λ t. parser_run ks t (built s k b)) o ≡ Some r → Bring s (k ∷ ks)
  by ih (Some t) e g = stepped s t k ks e (ih t g)
  by ih None e g = absurd (cc)

pub run_spelled : (ks : List TokenKind) (b r : Build) → parser_run ks expression_symbols b ≡ Some r → IsSpelled ks
run_spelled ks b r h =
    let g = whole_parts [] ks (brought ks expression_symbols b r h) in
    let is : ks ≡ g.0 = g.2 ∙ ap (λ l. g.0 ++ l) g.4 ∙ append-nil g.0 in
    (g.3.0, subst (λ z. Spells Whole z g.3.0) (sym is) g.3.1)
