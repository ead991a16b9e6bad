-- An expression from the left: what is to come after each token, and what is built so far.
use Rattle.std.specs.Prelude.{if◌then◌else◌, neg_ℤ, pos, Bool, true, false, ◌&&◌, not, List, [], ◌∷◌, ◌++◌, Option, Some, None, int_le, ◌≡◌}
use Rattle.pf_values.specs.declared.op.Op.{Op}
use Rattle.pf_values.specs.declared.op.Op.TheVariants.{Cast, Add, Sub, Mul, SelectGreater, SelectEqual, ShiftLeft as ShiftLeftBy, ShiftRight as ShiftRightBy}
use Rattle.pf_terms.specs.declared.parse.symbol.ParserSymbol.{ParserSymbol}
use Rattle.pf_terms.specs.declared.parse.symbol.ParserSymbol.TheVariants.{Atom, Factors, Summands, Shifts, Offsets, Column, Row, NegatedColumn, NegatedRow, Digits, Negated, TypeName, Comparison, Open as OpenSymbol, Close as CloseSymbol, CloseSquare as CloseSquareSymbol, Comma as CommaSymbol, End}
use Rattle.pf_terms.specs.declared.parse.symbol.CallShape.{CallShape}
use Rattle.pf_terms.specs.declared.parse.symbol.CallShape.TheVariants.{One, Two, OneAndAmount, TwoAndAmount, TypeAndOne, NoCall}
use Rattle.pf_terms.specs.declared.token.TokenKind.{TokenKind}
use Rattle.pf_terms.specs.declared.token.TokenKind.TheVariants.{Name, TypeWord, Number, Typed, Word, Choose, Open, Close, OpenSquare, CloseSquare, Comma, Plus, Minus, Times, ShiftLeft, ShiftRight, Less, Greater, Same}
use Rattle.pf_terms.specs.declared.parse.syntax_tree.SyntaxTree.{SyntaxTree}
use Rattle.pf_terms.specs.declared.parse.syntax_tree.SyntaxTree.TheVariants.{Number as NumberOf, Name as NameTree, Tap, Node}
use Rattle.pf_terms.specs.declared.parse.build.Opened.{Opened}
use Rattle.pf_terms.specs.declared.parse.build.Opened.TheVariants.{Name as NameOpened, Tap as TapOpened, Node as NodeOpened}
use Rattle.pf_terms.specs.declared.parse.build.Frame.{Frame}
use Rattle.pf_terms.specs.declared.parse.build.Build.{Build}
use Rattle.pf_ints.specs.Meaning.Lanes.{is_in}
use Rattle.pf_terms.specs.Meaning.Grammar.{call_shape}

-- a number's token has no sign
abbrev pub is_unsigned : TokenKind → Bool
is_unsigned (Number n) = int_le (pos 0) n
is_unsigned (Typed n t) = int_le (pos 0) n
is_unsigned _ = true

-- the symbols of an expression
abbrev pub expression_symbols : List ParserSymbol
expression_symbols = Atom ∷ Factors ∷ Summands ∷ Shifts ∷ []

-- what is to come behind the word of a call
abbrev pub call_symbols : CallShape → Option (List ParserSymbol)
call_symbols One = Some (OpenSymbol ∷ (expression_symbols ++ CloseSymbol ∷ End ∷ []))
call_symbols Two = Some (OpenSymbol ∷ (expression_symbols ++ CommaSymbol ∷ (expression_symbols ++ CloseSymbol ∷ End ∷ [])))
call_symbols OneAndAmount = Some (OpenSymbol ∷ (expression_symbols ++ CommaSymbol ∷ Digits ∷ CloseSymbol ∷ End ∷ []))
call_symbols TwoAndAmount = Some (OpenSymbol ∷ (expression_symbols ++ CommaSymbol ∷ (expression_symbols ++ CommaSymbol ∷ Digits ∷ CloseSymbol ∷ End ∷ [])))
call_symbols TypeAndOne = Some (OpenSymbol ∷ TypeName ∷ CommaSymbol ∷ (expression_symbols ++ CloseSymbol ∷ End ∷ []))
call_symbols NoCall = None

abbrev pub choice_symbols : List ParserSymbol
choice_symbols = OpenSymbol ∷ (expression_symbols ++ Comparison ∷ (expression_symbols ++ CommaSymbol ∷ (expression_symbols ++ CommaSymbol ∷ (expression_symbols ++ CloseSymbol ∷ End ∷ []))))

-- what is to come in a symbol's place behind its first token, or None where it doesn't begin so
abbrev pub after_atom : TokenKind → Option (List ParserSymbol)
after_atom (Typed n t) = if is_in t n then Some [] else None
after_atom Minus = Some (Negated ∷ [])
after_atom (Name w) = Some (Offsets ∷ End ∷ [])
after_atom (TypeWord t) = Some (OpenSymbol ∷ (expression_symbols ++ CloseSymbol ∷ End ∷ []))
after_atom Open = Some (expression_symbols ++ CloseSymbol ∷ [])
after_atom (Word o) = call_symbols (call_shape o)
after_atom Choose = Some choice_symbols
after_atom _ = None

-- a symbol that stands for one token is met by it
abbrev pub meets : ParserSymbol → TokenKind → Bool
meets Column (Number n) = true
meets Row (Number n) = true
meets NegatedColumn (Number n) = true
meets NegatedRow (Number n) = true
meets Digits (Number n) = true
meets Negated (Typed n t) = is_in t (neg_ℤ n)
meets TypeName (TypeWord t) = true
meets Comparison Greater = true
meets Comparison Less = true
meets Comparison Same = true
meets OpenSymbol Open = true
meets CloseSymbol Close = true
meets CloseSquareSymbol CloseSquare = true
meets CommaSymbol Comma = true
meets _ _ = false

abbrev pub parser_after : ParserSymbol → TokenKind → Option (List ParserSymbol)
parser_after Atom k = after_atom k
parser_after Factors Times = Some (Atom ∷ End ∷ Factors ∷ [])
parser_after Summands Plus = Some (Atom ∷ Factors ∷ End ∷ Summands ∷ [])
parser_after Summands Minus = Some (Atom ∷ Factors ∷ End ∷ Summands ∷ [])
parser_after Shifts ShiftLeft = Some (Digits ∷ End ∷ Shifts ∷ [])
parser_after Shifts ShiftRight = Some (Digits ∷ End ∷ Shifts ∷ [])
parser_after Offsets OpenSquare = Some (Column ∷ CommaSymbol ∷ Row ∷ CloseSquareSymbol ∷ [])
parser_after Column Minus = Some (NegatedColumn ∷ [])
parser_after Row Minus = Some (NegatedRow ∷ [])
parser_after x k = if meets x k then Some [] else None

abbrev pub may_be_none : ParserSymbol → Bool
may_be_none Factors = true
may_be_none Summands = true
may_be_none Shifts = true
may_be_none Offsets = true
may_be_none End = true
may_be_none _ = false

-- the token goes on with what may be none
abbrev pub goes_on : ParserSymbol → TokenKind → Bool
goes_on Factors Times = true
goes_on Summands Plus = true
goes_on Summands Minus = true
goes_on Shifts ShiftLeft = true
goes_on Shifts ShiftRight = true
goes_on Offsets OpenSquare = true
goes_on _ _ = false

-- the symbol brings nothing where this token comes
abbrev pub passes : ParserSymbol → TokenKind → Bool
passes x k = may_be_none x && not (goes_on x k)

abbrev pub followed : List ParserSymbol → Option (List ParserSymbol) → Option (List ParserSymbol)
followed s (Some new) = Some (new ++ s)
followed s None = None

-- what is to come after the token, or None where it doesn't fit
abbrev pub parser_step : List ParserSymbol → TokenKind → Option (List ParserSymbol)
parser_step [] k = None
parser_step (x ∷ s) k = if passes x k then parser_step s k else followed s (parser_after x k)

-- the symbol that takes the token
abbrev pub taker : List ParserSymbol → TokenKind → Option ParserSymbol
taker [] k = None
taker (x ∷ s) k = if passes x k then taker s k else Some x

-- ---- what is built

-- an operator before its operands
abbrev pub node_of : Op → Opened
node_of o = NodeOpened o false None (pos 0)

abbrev pub made : Opened → List SyntaxTree → SyntaxTree
made (NameOpened w) args = NameTree w
made (TapOpened w dx dy) args = Tap w dx dy
made (NodeOpened o less t k) args = Node o less t k args

abbrev pub operands_joined : List SyntaxTree → Option SyntaxTree → List SyntaxTree
operands_joined args None = args
operands_joined args (Some e) = args ++ e ∷ []

-- something begins, and what is ready is its first operand
abbrev pub parser_begun : Opened → Build → Build
parser_begun h b = record { frames = record { opened = h; args = operands_joined [] b.ready } ∷ b.frames; ready = None }

abbrev pub whole_frame : Frame → Option SyntaxTree → SyntaxTree
whole_frame f r = made f.opened (operands_joined f.args r)

-- what was begun last is whole
abbrev pub parser_ended_by : List Frame → Option SyntaxTree → Build
parser_ended_by [] r = record { frames = []; ready = r }
parser_ended_by (f ∷ fs) r = record { frames = fs; ready = Some (whole_frame f r) }

abbrev pub parser_ended : Build → Build
parser_ended b = parser_ended_by b.frames b.ready

-- what is ready is an operand of what was begun last
abbrev pub adopted_by : List Frame → Option SyntaxTree → Build
adopted_by [] r = record { frames = []; ready = r }
adopted_by (f ∷ fs) r = record { frames = record { opened = f.opened; args = operands_joined f.args r } ∷ fs; ready = None }

abbrev pub adopted : Build → Build
adopted b = adopted_by b.frames b.ready

abbrev pub put : SyntaxTree → Build → Build
put e b = record { frames = b.frames; ready = Some e }

-- what a token tells of what was begun
abbrev pub told : ParserSymbol → TokenKind → Opened → Opened
told Offsets k (NameOpened w) = TapOpened w (pos 0) (pos 0)
told Column (Number n) (TapOpened w dx dy) = TapOpened w n dy
told NegatedColumn (Number n) (TapOpened w dx dy) = TapOpened w (neg_ℤ n) dy
told Row (Number n) (TapOpened w dx dy) = TapOpened w dx n
told NegatedRow (Number n) (TapOpened w dx dy) = TapOpened w dx (neg_ℤ n)
told Digits (Number n) (NodeOpened o less t k) = NodeOpened o less t n
told TypeName (TypeWord t) (NodeOpened o less u k) = NodeOpened o less (Some t) k
told Comparison Greater (NodeOpened o less t k) = NodeOpened SelectGreater false t k
told Comparison Less (NodeOpened o less t k) = NodeOpened SelectGreater true t k
told Comparison Same (NodeOpened o less t k) = NodeOpened SelectEqual false t k
told _ _ h = h

abbrev pub told_frames : ParserSymbol → TokenKind → List Frame → List Frame
told_frames x k [] = []
told_frames x k (f ∷ fs) = record { opened = told x k f.opened; args = f.args } ∷ fs

abbrev pub retold : ParserSymbol → TokenKind → Build → Build
retold x k b = record { frames = told_frames x k b.frames; ready = b.ready }

abbrev pub atom_taken : TokenKind → Build → Build
atom_taken (Typed n t) b = put (NumberOf n t) b
atom_taken (Name w) b = parser_begun (NameOpened w) b
atom_taken (TypeWord t) b = parser_begun (NodeOpened Cast false (Some t) (pos 0)) b
atom_taken (Word o) b = parser_begun (node_of o) b
atom_taken Choose b = parser_begun (node_of SelectGreater) b
atom_taken _ b = b

-- what is built when the symbol has taken the token
abbrev pub parser_taken : ParserSymbol → TokenKind → Build → Build
parser_taken Atom k b = atom_taken k b
parser_taken Negated (Typed n t) b = put (NumberOf (neg_ℤ n) t) b
parser_taken Factors k b = parser_begun (node_of Mul) b
parser_taken Summands Plus b = parser_begun (node_of Add) b
parser_taken Summands k b = parser_begun (node_of Sub) b
parser_taken Shifts ShiftLeft b = parser_begun (node_of ShiftLeftBy) b
parser_taken Shifts k b = parser_begun (node_of ShiftRightBy) b
parser_taken CommaSymbol k b = adopted b
parser_taken Comparison k b = retold Comparison k (adopted b)
parser_taken OpenSymbol k b = b
parser_taken CloseSymbol k b = b
parser_taken CloseSquareSymbol k b = b
parser_taken x k b = retold x k b

abbrev pub passed : ParserSymbol → Build → Build
passed End b = parser_ended b
passed _ b = b

-- what is built after the token
abbrev pub built : List ParserSymbol → TokenKind → Build → Build
built [] k b = b
built (x ∷ s) k b = if passes x k then built s k (passed x b) else parser_taken x k b

-- what is built where nothing more comes, or None where something has to
abbrev pub finished : List ParserSymbol → Build → Option Build
finished [] b = Some b
finished (x ∷ s) b = if may_be_none x then finished s (passed x b) else None

-- the answer which symbol took a token, or None where it doesn't fit, and what is to come and built then
abbrev pub Advances : Option ParserSymbol → List ParserSymbol → Build → TokenKind → List ParserSymbol → Build → Type 0
Advances (Some x) s b k t c = (parser_step s k ≡ Some t) × (taker s k ≡ Some x) × (built s k b ≡ c)
Advances None s b k t c = parser_step s k ≡ None

-- the answer whether nothing more has to come
abbrev pub Finishes : Bool → Option Build → Build → Type 0
Finishes true found b = found ≡ Some b
Finishes false found b = found ≡ None

abbrev pub then_on : (List ParserSymbol → Option Build) → Option (List ParserSymbol) → Option Build
then_on f (Some s) = f s
then_on f None = None

-- what is built of the tokens, or None where they aren't what is to come
abbrev pub parser_run : List TokenKind → List ParserSymbol → Build → Option Build
parser_run [] s b = finished s b
parser_run (k ∷ ks) s b = then_on (λ t. parser_run ks t (built s k b)) (parser_step s k)
