-- What is spelled is built.
use Rattle.std.proofs.Common.{◌≡◌, refl, sym, ap, ◌∙◌, Bool, true, false, List, [], ◌∷◌, ◌++◌, ℕ, append_assoc, append-nil, ℤ, pos}
use Rattle.std.specs.Prelude.{None, if◌then◌else◌, Option, Some, not, ◌&&◌}
use Rattle.pf_values.specs.declared.op.Op.{Op}
use Rattle.pf_values.specs.declared.op.Op.TheVariants.{Cast, Add, Sub, Mul, SelectGreater, ShiftLeft as ShiftLeftBy, ShiftRight as ShiftRightBy}
use Rattle.pf_terms.specs.declared.parse.syntax_tree.SyntaxTree.{SyntaxTree}
use Rattle.pf_terms.specs.declared.parse.syntax_tree.SyntaxTree.TheVariants.{Node}
use Rattle.pf_terms.specs.declared.parse.symbol.ParserSymbol.{ParserSymbol}
use Rattle.pf_terms.specs.declared.parse.symbol.ParserSymbol.TheVariants.{Atom, Factors, Summands, Shifts, Offsets, Column, Row, Digits, TypeName, Comparison, Open as OpenSymbol, Close as CloseSymbol, CloseSquare as CloseSquareSymbol, Comma as CommaSymbol, End}
use Rattle.pf_terms.specs.declared.parse.symbol.CallShape.{CallShape}
use Rattle.pf_terms.specs.declared.parse.symbol.CallShape.TheVariants.{One, Two, OneAndAmount, TwoAndAmount, TypeAndOne}
use Rattle.pf_terms.specs.declared.token.TokenKind.{TokenKind}
use Rattle.pf_terms.specs.declared.token.TokenKind.TheVariants.{TypeWord, Number, Word, Open, Close, CloseSquare, Comma, Plus, Minus, Times, ShiftLeft, ShiftRight}
use Rattle.pf_terms.specs.declared.parse.build.Opened.{Opened}
use Rattle.pf_terms.specs.declared.parse.build.Opened.TheVariants.{Name as NameOpened, Tap as TapOpened, Node as NodeOpened}
use Rattle.pf_terms.specs.declared.parse.build.Frame.{Frame}
use Rattle.pf_terms.specs.declared.parse.build.Build.{Build}
use Rattle.pf_terms.specs.Meaning.Grammar.{call_shape, Rank, Atoms, Products, Sums, Whole, IsInteger, plain, minus, IsComparison, greater, less, equal_sign, Spells, literal, negated, plain_name, placed, in_brackets, cast, one, two, one_by, two_by, typed_call, chosen, alone, product, term, sum, difference, unshifted, left, right}
use Rattle.pf_terms.specs.Steps.Parsing.{parser_run, then_on, followed, parser_step, built, finished, passed, parser_taken, passes, may_be_none, goes_on, parser_after, expression_symbols, call_symbols, node_of, made, whole_frame}

-- nothing is ready, or an expression is
abbrev pub fresh : List Frame → Build
fresh fs = record { frames = fs; ready = None }

abbrev pub holding : List Frame → SyntaxTree → Build
holding fs e = record { frames = fs; ready = Some e }

abbrev begun_with : Opened → List SyntaxTree → Frame
begun_with h args = record { opened = h; args = args }

-- the tokens don't go on with the symbol
abbrev pub Stops : ParserSymbol → List TokenKind → Type 0
Stops x [] = Unit {0}
Stops x (k ∷ _) = goes_on x k ≡ false

abbrev StopsProduct : List TokenKind → Type 0
StopsProduct rest = Stops Offsets rest × Stops Factors rest

abbrev StopsSum : List TokenKind → Type 0
StopsSum rest = Stops Offsets rest × Stops Factors rest × Stops Summands rest

pub passes_by : (x : ParserSymbol) (k : TokenKind) → may_be_none x ≡ true → goes_on x k ≡ false → passes x k ≡ true
passes_by x k none stops = ap (λ m. m && not (goes_on x k)) none ∙ ap not stops

pub skip : (x : ParserSymbol) (rest : List TokenKind) (s : List ParserSymbol) (b : Build) → may_be_none x ≡ true → Stops x rest → parser_run rest (x ∷ s) b ≡ parser_run rest s (passed x b)
skip x [] s b none stops = ap (λ m. if m then finished s (passed x b) else None) none
skip x (k ∷ rest) s b none stops =
    ap (λ m. then_on (λ t. parser_run rest t (if m then built s k (passed x b) else parser_taken x k b)) (if m then parser_step s k else followed s (parser_after x k))) (passes_by x k none stops)

end_stops : (rest : List TokenKind) → Stops End rest
end_stops [] = tt
end_stops (k ∷ rest) = refl

ends : (rest : List TokenKind) (s : List ParserSymbol) (f : Frame) (fs : List Frame) (e : SyntaxTree) → parser_run rest (End ∷ s) (holding (f ∷ fs) e) ≡ parser_run rest s (holding fs (whole_frame f (Some e)))
ends rest s f fs e = skip End rest s (holding (f ∷ fs) e) refl (end_stops rest)

ends_alone : (rest : List TokenKind) (s : List ParserSymbol) (f : Frame) (fs : List Frame) → parser_run rest (End ∷ s) (fresh (f ∷ fs)) ≡ parser_run rest s (holding fs (whole_frame f None))
ends_alone rest s f fs = skip End rest s (fresh (f ∷ fs)) refl (end_stops rest)

-- said of the tokens of each rank: they bring what is to come, and this is built
abbrev Reads : Rank → List TokenKind → SyntaxTree → Type 0
Reads Atoms ks e = (s : List ParserSymbol) (fs : List Frame) (rest : List TokenKind) → Stops Offsets rest → parser_run (ks ++ rest) (Atom ∷ s) (fresh fs) ≡ parser_run rest s (holding fs e)
Reads Products ks e = (s : List ParserSymbol) (fs : List Frame) (rest : List TokenKind) → Stops Offsets rest → parser_run (ks ++ rest) (Atom ∷ Factors ∷ s) (fresh fs) ≡ parser_run rest (Factors ∷ s) (holding fs e)
Reads Sums ks e = (s : List ParserSymbol) (fs : List Frame) (rest : List TokenKind) → StopsProduct rest → parser_run (ks ++ rest) (Atom ∷ Factors ∷ Summands ∷ s) (fresh fs) ≡ parser_run rest (Summands ∷ s) (holding fs e)
Reads Whole ks e = (s : List ParserSymbol) (fs : List Frame) (rest : List TokenKind) → StopsSum rest → parser_run (ks ++ rest) (expression_symbols ++ s) (fresh fs) ≡ parser_run rest (Shifts ∷ s) (holding fs e)

column_reads : (xs : List TokenKind) (n : ℤ) → IsInteger xs n → (w : List ℕ) (dx dy : ℤ) (args : List SyntaxTree) (fs : List Frame) (s : List ParserSymbol) (rest : List TokenKind) →
    parser_run (xs ++ rest) (Column ∷ s) (fresh (begun_with (TapOpened w dx dy) args ∷ fs)) ≡ parser_run rest s (fresh (begun_with (TapOpened w n dy) args ∷ fs))
column_reads _ _ (plain n) w dx dy args fs s rest = refl
column_reads _ _ (minus n) w dx dy args fs s rest = refl

row_reads : (xs : List TokenKind) (n : ℤ) → IsInteger xs n → (w : List ℕ) (dx dy : ℤ) (args : List SyntaxTree) (fs : List Frame) (s : List ParserSymbol) (rest : List TokenKind) →
    parser_run (xs ++ rest) (Row ∷ s) (fresh (begun_with (TapOpened w dx dy) args ∷ fs)) ≡ parser_run rest s (fresh (begun_with (TapOpened w dx n) args ∷ fs))
row_reads _ _ (plain n) w dx dy args fs s rest = refl
row_reads _ _ (minus n) w dx dy args fs s rest = refl

-- an expression inside of a longer text
inside : (ks tail rest : List TokenKind) (e : SyntaxTree) (s : List ParserSymbol) (fs : List Frame) → Reads Whole ks e → StopsSum (tail ++ rest) →
    parser_run ((ks ++ tail) ++ rest) (expression_symbols ++ s) (fresh fs) ≡ parser_run (tail ++ rest) (Shifts ∷ s) (holding fs e)
inside ks tail rest e s fs ih stops = ap (λ l. parser_run l (expression_symbols ++ s) (fresh fs)) (append_assoc ks tail rest) ∙ ih s fs (tail ++ rest) stops

closed : (ks rest : List TokenKind) (e : SyntaxTree) (s : List ParserSymbol) (fs : List Frame) → Reads Whole ks e → parser_run ((ks ++ Close ∷ []) ++ rest) (expression_symbols ++ CloseSymbol ∷ s) (fresh fs) ≡ parser_run rest s (holding fs e)
closed ks rest e s fs ih = inside ks (Close ∷ []) rest e (CloseSymbol ∷ s) fs ih (refl, refl, refl)

-- the last operand
last_closed : (ks rest : List TokenKind) (e : SyntaxTree) (s : List ParserSymbol) (f : Frame) (fs : List Frame) → Reads Whole ks e →
    parser_run ((ks ++ Close ∷ []) ++ rest) (expression_symbols ++ CloseSymbol ∷ End ∷ s) (fresh (f ∷ fs)) ≡ parser_run rest s (holding fs (whole_frame f (Some e)))
last_closed ks rest e s f fs ih = closed ks rest e (End ∷ s) (f ∷ fs) ih ∙ ends rest s f fs e

two_closed : (ks ls rest : List TokenKind) (e g : SyntaxTree) (s : List ParserSymbol) (h : Opened) (args : List SyntaxTree) (fs : List Frame) → Reads Whole ks e → Reads Whole ls g →
    parser_run ((ks ++ Comma ∷ (ls ++ Close ∷ [])) ++ rest) (expression_symbols ++ CommaSymbol ∷ (expression_symbols ++ CloseSymbol ∷ End ∷ s)) (fresh (begun_with h args ∷ fs)) ≡ parser_run rest s (holding fs (made h ((args ++ e ∷ []) ++ g ∷ [])))
two_closed ks ls rest e g s h args fs ih jh =
    inside ks (Comma ∷ (ls ++ Close ∷ [])) rest e (CommaSymbol ∷ (expression_symbols ++ CloseSymbol ∷ End ∷ s)) (begun_with h args ∷ fs) ih (refl, refl, refl)
    ∙ last_closed ls rest g s (begun_with h (args ++ e ∷ [])) fs jh

amount_closed : (ks rest : List TokenKind) (e : SyntaxTree) (n k : ℤ) (o : Op) (args : List SyntaxTree) (fs : List Frame) (s : List ParserSymbol) → Reads Whole ks e →
    parser_run ((ks ++ Comma ∷ Number n ∷ Close ∷ []) ++ rest) (expression_symbols ++ CommaSymbol ∷ Digits ∷ CloseSymbol ∷ End ∷ s) (fresh (begun_with (NodeOpened o false None k) args ∷ fs))
    ≡ parser_run rest s (holding fs (Node o false None n (args ++ e ∷ [])))
amount_closed ks rest e n k o args fs s ih =
    inside ks (Comma ∷ Number n ∷ Close ∷ []) rest e (CommaSymbol ∷ Digits ∷ CloseSymbol ∷ End ∷ s) (begun_with (NodeOpened o false None k) args ∷ fs) ih (refl, refl, refl)
    ∙ ends_alone rest s (begun_with (NodeOpened o false None n) (args ++ e ∷ [])) fs

-- a call, by what stands in its brackets
called_by : (o : Op) (shape : CallShape) (inner : List ParserSymbol) (body : List TokenKind) (s : List ParserSymbol) (fs : List Frame) (r : Option Build) → call_shape o ≡ shape → call_symbols shape ≡ Some (OpenSymbol ∷ inner) →
    parser_run body (inner ++ s) (fresh (begun_with (node_of o) [] ∷ fs)) ≡ r → parser_run (Word o ∷ Open ∷ body) (Atom ∷ s) (fresh fs) ≡ r
called_by o shape inner body s fs r is brings reads =
    ap (λ c. then_on (λ t. parser_run (Open ∷ body) t (fresh (begun_with (node_of o) [] ∷ fs))) (followed s (call_symbols c))) is
    ∙ ap (λ c. then_on (λ t. parser_run (Open ∷ body) t (fresh (begun_with (node_of o) [] ∷ fs))) (followed s c)) brings ∙ reads

compared : (c : TokenKind) (o : Op) (swap : Bool) → IsComparison c o swap → (ks : List TokenKind) (e : SyntaxTree) (args : List SyntaxTree) (fs : List Frame) (s : List ParserSymbol) →
    StopsSum (c ∷ ks) × (parser_run (c ∷ ks) (Shifts ∷ Comparison ∷ s) (holding (begun_with (node_of SelectGreater) args ∷ fs) e) ≡ parser_run ks s (fresh (begun_with (NodeOpened o swap None (pos 0)) (args ++ e ∷ []) ∷ fs)))
compared _ _ _ greater ks e args fs s = ((refl, refl, refl), refl)
compared _ _ _ less ks e args fs s = ((refl, refl, refl), refl)
compared _ _ _ equal_sign ks e args fs s = ((refl, refl, refl), refl)

chosen_closed : (c : TokenKind) (o : Op) (swap : Bool) (cs bs xs ys rest : List TokenKind) (a b x y : SyntaxTree) (fs : List Frame) (s : List ParserSymbol) → IsComparison c o swap → Reads Whole cs a → Reads Whole bs b → Reads Whole xs x → Reads Whole ys y →
    parser_run ((cs ++ c ∷ (bs ++ Comma ∷ (xs ++ Comma ∷ (ys ++ Close ∷ [])))) ++ rest) (expression_symbols ++ Comparison ∷ (expression_symbols ++ CommaSymbol ∷ (expression_symbols ++ CommaSymbol ∷ (expression_symbols ++ CloseSymbol ∷ End ∷ s)))) (fresh (begun_with (node_of SelectGreater) [] ∷ fs))
    ≡ parser_run rest s (holding fs (Node o swap None (pos 0) (a ∷ b ∷ x ∷ y ∷ [])))
chosen_closed c o swap cs bs xs ys rest a b x y fs s is ih jh kh lh =
    let tail = bs ++ Comma ∷ (xs ++ Comma ∷ (ys ++ Close ∷ [])) in
    let behind = expression_symbols ++ CommaSymbol ∷ (expression_symbols ++ CommaSymbol ∷ (expression_symbols ++ CloseSymbol ∷ End ∷ s)) in
    let sign = compared c o swap is (tail ++ rest) a [] fs behind in
    inside cs (c ∷ tail) rest a (Comparison ∷ behind) (begun_with (node_of SelectGreater) [] ∷ fs) ih sign.0 ∙ sign.1
    ∙ inside bs (Comma ∷ (xs ++ Comma ∷ (ys ++ Close ∷ []))) rest b (CommaSymbol ∷ (expression_symbols ++ CommaSymbol ∷ (expression_symbols ++ CloseSymbol ∷ End ∷ s))) (begun_with (NodeOpened o swap None (pos 0)) (a ∷ []) ∷ fs) jh (refl, refl, refl)
    ∙ two_closed xs ys rest x y s (NodeOpened o swap None (pos 0)) (a ∷ b ∷ []) fs kh lh

-- the second operand of a sum
second : (o : Op) (ls : List TokenKind) (f : SyntaxTree) (rest : List TokenKind) (e : SyntaxTree) (s : List ParserSymbol) (fs : List Frame) → Reads Products ls f → StopsProduct rest →
    parser_run (ls ++ rest) (Atom ∷ Factors ∷ End ∷ Summands ∷ s) (fresh (begun_with (node_of o) (e ∷ []) ∷ fs)) ≡ parser_run rest (Summands ∷ s) (holding fs (made (node_of o) (e ∷ f ∷ [])))
second o ls f rest e s fs jh h =
    let under = begun_with (node_of o) (e ∷ []) ∷ fs in
    jh (End ∷ Summands ∷ s) under rest h.0 ∙ skip Factors rest (End ∷ Summands ∷ s) (holding under f) refl h.1 ∙ ends rest (Summands ∷ s) (begun_with (node_of o) (e ∷ [])) fs f

pub reads : (r : Rank) (ks : List TokenKind) (e : SyntaxTree) → Spells r ks e → Reads r ks e
reads _ _ e (literal n t i) = λ s fs rest h. ap (λ b. then_on (λ u. parser_run rest u (holding fs e)) (followed s (if b then Some [] else None))) i
reads _ _ e (negated n t i) = λ s fs rest h. ap (λ b. then_on (λ u. parser_run rest u (holding fs e)) (followed s (if b then Some [] else None))) i
reads _ _ _ (plain_name w) = λ s fs rest h. skip Offsets rest (End ∷ s) (fresh (begun_with (NameOpened w) [] ∷ fs)) refl h ∙ ends_alone rest s (begun_with (NameOpened w) []) fs
reads _ _ _ (placed w xs ys dx dy a b) = λ s fs rest h.
    ap (λ l. parser_run l (Column ∷ CommaSymbol ∷ Row ∷ CloseSquareSymbol ∷ End ∷ s) (fresh (begun_with (TapOpened w (pos 0) (pos 0)) [] ∷ fs))) (append_assoc xs (Comma ∷ (ys ++ CloseSquare ∷ [])) rest)
    ∙ column_reads xs dx a w (pos 0) (pos 0) [] fs (CommaSymbol ∷ Row ∷ CloseSquareSymbol ∷ End ∷ s) (Comma ∷ ((ys ++ CloseSquare ∷ []) ++ rest))
    ∙ ap (λ l. parser_run l (Row ∷ CloseSquareSymbol ∷ End ∷ s) (fresh (begun_with (TapOpened w dx (pos 0)) [] ∷ fs))) (append_assoc ys (CloseSquare ∷ []) rest)
    ∙ row_reads ys dy b w dx (pos 0) [] fs (CloseSquareSymbol ∷ End ∷ s) (CloseSquare ∷ rest)
    ∙ ends_alone rest s (begun_with (TapOpened w dx dy) []) fs
reads _ _ _ (in_brackets ks e i) = λ s fs rest h. closed ks rest e s fs (reads Whole ks e i)
reads _ _ _ (cast t ks e i) = λ s fs rest h. last_closed ks rest e s (begun_with (NodeOpened Cast false (Some t) (pos 0)) []) fs (reads Whole ks e i)
reads _ _ d (one o ks e is i) = λ s fs rest h.
    called_by o One (expression_symbols ++ CloseSymbol ∷ End ∷ []) ((ks ++ Close ∷ []) ++ rest) s fs (parser_run rest s (holding fs d)) is refl (last_closed ks rest e s (begun_with (node_of o) []) fs (reads Whole ks e i))
reads _ _ d (two o ks ls e f is i j) = λ s fs rest h.
    called_by o Two (expression_symbols ++ CommaSymbol ∷ (expression_symbols ++ CloseSymbol ∷ End ∷ [])) ((ks ++ Comma ∷ (ls ++ Close ∷ [])) ++ rest) s fs (parser_run rest s (holding fs d)) is refl
    (two_closed ks ls rest e f s (node_of o) [] fs (reads Whole ks e i) (reads Whole ls f j))
reads _ _ d (one_by o ks e k is i) = λ s fs rest h.
    called_by o OneAndAmount (expression_symbols ++ CommaSymbol ∷ Digits ∷ CloseSymbol ∷ End ∷ []) ((ks ++ Comma ∷ Number k ∷ Close ∷ []) ++ rest) s fs (parser_run rest s (holding fs d)) is refl
    (amount_closed ks rest e k (pos 0) o [] fs s (reads Whole ks e i))
reads _ _ d (two_by o ks ls e f k is i j) = λ s fs rest h.
    called_by o TwoAndAmount (expression_symbols ++ CommaSymbol ∷ (expression_symbols ++ CommaSymbol ∷ Digits ∷ CloseSymbol ∷ End ∷ [])) ((ks ++ Comma ∷ (ls ++ Comma ∷ Number k ∷ Close ∷ [])) ++ rest) s fs (parser_run rest s (holding fs d)) is refl
    (inside ks (Comma ∷ (ls ++ Comma ∷ Number k ∷ Close ∷ [])) rest e (CommaSymbol ∷ (expression_symbols ++ CommaSymbol ∷ Digits ∷ CloseSymbol ∷ End ∷ s)) (begun_with (node_of o) [] ∷ fs) (reads Whole ks e i) (refl, refl, refl)
    ∙ amount_closed ls rest f k (pos 0) o (e ∷ []) fs s (reads Whole ls f j))
reads _ _ d (typed_call o t ks e is i) = λ s fs rest h.
    called_by o TypeAndOne (TypeName ∷ CommaSymbol ∷ (expression_symbols ++ CloseSymbol ∷ End ∷ [])) (TypeWord t ∷ Comma ∷ ((ks ++ Close ∷ []) ++ rest)) s fs (parser_run rest s (holding fs d)) is refl
    (last_closed ks rest e s (begun_with (NodeOpened o false (Some t) (pos 0)) []) fs (reads Whole ks e i))
reads _ _ _ (chosen c o swap cs bs xs ys a b x y is i j k l) = λ s fs rest h.
    chosen_closed c o swap cs bs xs ys rest a b x y fs s is (reads Whole cs a i) (reads Whole bs b j) (reads Whole xs x k) (reads Whole ys y l)
reads _ _ _ (alone ks e i) = λ s fs rest h. reads Atoms ks e i (Factors ∷ s) fs rest h
reads _ _ _ (product ks ls e f i j) = λ s fs rest h.
    ap (λ l. parser_run l (Atom ∷ Factors ∷ s) (fresh fs)) (append_assoc ks (Times ∷ ls) rest) ∙ reads Products ks e i s fs (Times ∷ (ls ++ rest)) refl
    ∙ reads Atoms ls f j (End ∷ Factors ∷ s) (begun_with (node_of Mul) (e ∷ []) ∷ fs) rest h ∙ ends rest (Factors ∷ s) (begun_with (node_of Mul) (e ∷ [])) fs f
reads _ _ _ (term ks e i) = λ s fs rest h. reads Products ks e i (Summands ∷ s) fs rest h.0 ∙ skip Factors rest (Summands ∷ s) (holding fs e) refl h.1
reads _ _ _ (sum ks ls e f i j) = λ s fs rest h.
    ap (λ l. parser_run l (Atom ∷ Factors ∷ Summands ∷ s) (fresh fs)) (append_assoc ks (Plus ∷ ls) rest) ∙ reads Sums ks e i s fs (Plus ∷ (ls ++ rest)) (refl, refl)
    ∙ second Add ls f rest e s fs (reads Products ls f j) h
reads _ _ _ (difference ks ls e f i j) = λ s fs rest h.
    ap (λ l. parser_run l (Atom ∷ Factors ∷ Summands ∷ s) (fresh fs)) (append_assoc ks (Minus ∷ ls) rest) ∙ reads Sums ks e i s fs (Minus ∷ (ls ++ rest)) (refl, refl)
    ∙ second Sub ls f rest e s fs (reads Products ls f j) h
reads _ _ _ (unshifted ks e i) = λ s fs rest h. reads Sums ks e i (Shifts ∷ s) fs rest (h.0, h.1) ∙ skip Summands rest (Shifts ∷ s) (holding fs e) refl h.2
reads _ _ _ (left ks e k i) = λ s fs rest h.
    inside ks (ShiftLeft ∷ Number k ∷ []) rest e s fs (reads Whole ks e i) (refl, refl, refl) ∙ ends_alone rest (Shifts ∷ s) (begun_with (NodeOpened ShiftLeftBy false None k) (e ∷ [])) fs
reads _ _ _ (right ks e k i) = λ s fs rest h.
    inside ks (ShiftRight ∷ Number k ∷ []) rest e s fs (reads Whole ks e i) (refl, refl, refl) ∙ ends_alone rest (Shifts ∷ s) (begun_with (NodeOpened ShiftRightBy false None k) (e ∷ [])) fs

-- what is built first, and what is built of an expression
pub spelled_built : (ks : List TokenKind) (e : SyntaxTree) → Spells Whole ks e → parser_run ks expression_symbols (fresh []) ≡ Some (holding [] e)
spelled_built ks e h = ap (λ l. parser_run l expression_symbols (fresh [])) (sym (append-nil ks)) ∙ reads Whole ks e h [] [] [] (tt, tt, tt)
