-- What is to come can always come.
use Rattle.std.proofs.Common.{◌≡◌, refl, ◌∙◌, Bool, true, false, List, [], ◌∷◌, ◌++◌, pos}
use Rattle.std.specs.Prelude.{Some}
use Rattle.pf_terms.specs.declared.parse.symbol.ParserSymbol.{ParserSymbol}
use Rattle.pf_terms.specs.declared.parse.symbol.ParserSymbol.TheVariants.{Atom, Factors, Summands, Shifts, Offsets, Column, Row, NegatedColumn, NegatedRow, Digits, Negated, TypeName, Comparison, Open as OpenSymbol, Close as CloseSymbol, CloseSquare as CloseSquareSymbol, Comma as CommaSymbol, End}
use Rattle.pf_terms.specs.declared.token.TokenKind.{TokenKind}
use Rattle.pf_terms.specs.declared.token.TokenKind.TheVariants.{TypeWord, Number, Typed, Open, Close, OpenSquare, CloseSquare, Comma, Plus, Minus, Times, ShiftLeft, ShiftRight, Greater}
use Rattle.pf_terms.specs.declared.parse.build.Build.{Build}
use Rattle.pf_values.specs.Meaning.Terms.{typed_as}
use Rattle.pf_ints.specs.declared.lane.Bits.TheVariants.{Eight}
use Rattle.pf_terms.specs.Steps.Parsing.{parser_run, goes_on, may_be_none, passed}
use Rattle.pf_terms.proofs.Complete.{Stops, skip}

-- a shortest way to bring what is to come
abbrev least_kinds : ParserSymbol → List TokenKind
least_kinds Atom = Typed (pos 0) (typed_as false Eight) ∷ []
least_kinds Factors = []
least_kinds Summands = []
least_kinds Shifts = []
least_kinds Offsets = []
least_kinds Column = Number (pos 0) ∷ []
least_kinds Row = Number (pos 0) ∷ []
least_kinds NegatedColumn = Number (pos 0) ∷ []
least_kinds NegatedRow = Number (pos 0) ∷ []
least_kinds Digits = Number (pos 0) ∷ []
least_kinds Negated = Typed (pos 0) (typed_as false Eight) ∷ []
least_kinds TypeName = TypeWord (typed_as false Eight) ∷ []
least_kinds Comparison = Greater ∷ []
least_kinds OpenSymbol = Open ∷ []
least_kinds CloseSymbol = Close ∷ []
least_kinds CloseSquareSymbol = CloseSquare ∷ []
least_kinds CommaSymbol = Comma ∷ []
least_kinds End = []

abbrev pub completion : List ParserSymbol → List TokenKind
completion [] = []
completion (x ∷ s) = least_kinds x ++ completion s

-- with such a token nothing goes on
abbrev pub is_plain : TokenKind → Bool
is_plain Times = false
is_plain Plus = false
is_plain Minus = false
is_plain ShiftLeft = false
is_plain ShiftRight = false
is_plain OpenSquare = false
is_plain _ = true

pub plain_stops : (x : ParserSymbol) (k : TokenKind) → is_plain k ≡ true → goes_on x k ≡ false
plain_stops Factors Times h = absurd (let never : ◌≡◌ {A = Bool} false true = h in cc)
plain_stops Summands Plus h = absurd (let never : ◌≡◌ {A = Bool} false true = h in cc)
plain_stops Summands Minus h = absurd (let never : ◌≡◌ {A = Bool} false true = h in cc)
plain_stops Shifts ShiftLeft h = absurd (let never : ◌≡◌ {A = Bool} false true = h in cc)
plain_stops Shifts ShiftRight h = absurd (let never : ◌≡◌ {A = Bool} false true = h in cc)
plain_stops Offsets OpenSquare h = absurd (let never : ◌≡◌ {A = Bool} false true = h in cc)
plain_stops _ _ h = refl

completion_stops : (x : ParserSymbol) (s : List ParserSymbol) → Stops x (completion s)
completion_stops x [] = tt
completion_stops x (Factors ∷ s) = completion_stops x s
completion_stops x (Summands ∷ s) = completion_stops x s
completion_stops x (Shifts ∷ s) = completion_stops x s
completion_stops x (Offsets ∷ s) = completion_stops x s
completion_stops x (End ∷ s) = completion_stops x s
completion_stops x (Atom ∷ s) = plain_stops x (Typed (pos 0) (typed_as false Eight)) refl
completion_stops x (Negated ∷ s) = plain_stops x (Typed (pos 0) (typed_as false Eight)) refl
completion_stops x (TypeName ∷ s) = plain_stops x (TypeWord (typed_as false Eight)) refl
completion_stops x (Comparison ∷ s) = plain_stops x Greater refl
completion_stops x (OpenSymbol ∷ s) = plain_stops x Open refl
completion_stops x (CloseSymbol ∷ s) = plain_stops x Close refl
completion_stops x (CloseSquareSymbol ∷ s) = plain_stops x CloseSquare refl
completion_stops x (CommaSymbol ∷ s) = plain_stops x Comma refl
completion_stops x (_ ∷ s) = plain_stops x (Number (pos 0)) refl

-- something is built
abbrev pub Runs : List TokenKind → List ParserSymbol → Build → Type 0
Runs ks s b = (r : Build) × (parser_run ks s b ≡ Some r)

skipped : (x : ParserSymbol) (s : List ParserSymbol) (b : Build) → may_be_none x ≡ true → Runs (completion s) s (passed x b) → Runs (completion s) (x ∷ s) b
skipped x s b none h = (h.0, skip x (completion s) s b none (completion_stops x s) ∙ h.1)

pub completes : (s : List ParserSymbol) (b : Build) → Runs (completion s) s b
completes [] b = (b, refl)
completes (Factors ∷ s) b = skipped Factors s b refl (completes s b)
completes (Summands ∷ s) b = skipped Summands s b refl (completes s b)
completes (Shifts ∷ s) b = skipped Shifts s b refl (completes s b)
completes (Offsets ∷ s) b = skipped Offsets s b refl (completes s b)
completes (End ∷ s) b = skipped End s b refl (completes s (passed End b))
completes (Atom ∷ s) b = completes s _
completes (Column ∷ s) b = completes s _
completes (Row ∷ s) b = completes s _
completes (NegatedColumn ∷ s) b = completes s _
completes (NegatedRow ∷ s) b = completes s _
completes (Digits ∷ s) b = completes s _
completes (Negated ∷ s) b = completes s _
completes (TypeName ∷ s) b = completes s _
completes (Comparison ∷ s) b = completes s _
completes (OpenSymbol ∷ s) b = completes s _
completes (CloseSymbol ∷ s) b = completes s _
completes (CloseSquareSymbol ∷ s) b = completes s _
completes (CommaSymbol ∷ s) b = completes s _
