-- Which texts are expressions, and where another text is faulty first.
use Rattle.std.specs.Prelude.{if◌then◌else◌, nat_lt, ◌≡◌, ℕ, ◌+◌, ◌-◌, ◌<◌, ◌≤◌, pos, List, [], ◌∷◌, ◌++◌, length, take, Option, Some, None, Result, Ok, Err}
use Rattle.pf_terms.specs.declared.parse.syntax_tree.SyntaxTree.{SyntaxTree}
use Rattle.pf_terms.specs.declared.parse.syntax_tree.TreeFault.{TreeFault}
use Rattle.pf_terms.specs.declared.parse.syntax_tree.TreeFault.TheVariants.{Syntax, Memory}
use Rattle.pf_terms.specs.declared.token.TokenKind.{TokenKind}
use Rattle.pf_terms.specs.declared.token.TokenKind.TheVariants.{Number, Typed, Long, Open, Close, Minus}
use Rattle.pf_terms.specs.declared.token.Token.{Token}
use Rattle.pf_terms.specs.Meaning.Tokens.{IsLexed, kinds, token_place}
use Rattle.pf_terms.specs.Meaning.Grammar.{Whole, Spells, IsSpelled, IsBegun}

-- how deep round brackets may be nested
unfoldable pub bracket_limit : ℕ
bracket_limit = 1024

-- how many round brackets are open behind the token, or None where it is nested too deep
abbrev pub nested : ℕ → TokenKind → Option ℕ
nested n Open = if nat_lt n bracket_limit then Some (n + 1) else None
nested n Close = Some (n - 1)
nested n _ = Some n

-- no round bracket is nested deeper, n being open in front
abbrev pub IsShallow : ℕ → List TokenKind → Type 0
IsShallow n [] = Unit {0}
IsShallow n (Open ∷ ks) = (n < bracket_limit) × IsShallow (n + 1) ks
IsShallow n (Close ∷ ks) = IsShallow (n - 1) ks
IsShallow n (_ ∷ ks) = IsShallow n ks

-- the text is an expression, as it is written
pub record IsTreeText (text : List ℕ) (d : SyntaxTree) : Type 0 where
  pub tokens : List Token
  pub lexed : IsLexed 0 text tokens
  pub spelled : Spells Whole (kinds tokens) d
  pub shallow : IsShallow 0 (kinds tokens)

-- the first token, counted from 0, with which no expression begins or that is a bracket nested too deep; where the tokens end too early it is their count
pub record IsFirstBadToken (ks : List TokenKind) (n : ℕ) : Type 0 where
  pub within : n ≤ length ks
  pub begun : IsBegun (take n ks)
  pub shallow : IsShallow 0 (take n ks)
  pub fault : n < length ks → IsBegun (take (n + 1) ks) → IsShallow 0 (take (n + 1) ks) → ⊥
  pub end : n ≡ length ks → IsSpelled ks → ⊥

-- a number like this one that is not too large
abbrev pub small_number : TokenKind → Option TokenKind
small_number (Typed n t) = Some (Typed (pos 0) t)
small_number (Long None) = Some (Number (pos 0))
small_number (Long (Some t)) = Some (Typed (pos 0) t)
small_number _ = None

-- token n is a number, and the minus in front of it is its own: a number could stand there without it
pub record IsNegative (ks : List TokenKind) (n : ℕ) : Type 0 where
  pub front : List TokenKind
  pub rest : List TokenKind
  pub number : TokenKind
  pub small : TokenKind
  pub tokens : ks ≡ front ++ Minus ∷ number ∷ rest
  pub here : n ≡ length front + 1
  pub like : small_number number ≡ Some small
  pub own : IsBegun (front ++ small ∷ [])

-- the place in the text of a faulty token: its first byte, or that of a number's own minus, or one past the last token where the text ends too early
pub data IsFaultPlace : List Token → ℕ → ℕ → Type 0 where
  at_minus : (ts : List Token) (n : ℕ) → IsNegative (kinds ts) n → IsFaultPlace ts n (token_place ts (n - 1))
  first : (ts : List Token) (n : ℕ) → (IsNegative (kinds ts) n → ⊥) → IsFaultPlace ts n (token_place ts n)

-- the text is no expression, and this is the place of its first fault, counted from 0
pub record IsSyntaxFault (text : List ℕ) (place : ℕ) : Type 0 where
  pub tokens : List Token
  pub lexed : IsLexed 0 text tokens
  pub n : ℕ
  pub first : IsFirstBadToken (kinds tokens) n
  pub stands : IsFaultPlace tokens n place

-- the answer is this syntax tree, or memory was wanting
abbrev pub IsTreeOr : SyntaxTree → Result SyntaxTree TreeFault → Type 0
IsTreeOr d (Ok e) = e ≡ d
IsTreeOr d (Err Memory) = Unit {0}
IsTreeOr d (Err (Syntax at)) = ⊥

-- what a refusal says of the text
abbrev pub IsRefusal : List ℕ → TreeFault → Type 0
IsRefusal text (Syntax at) = IsSyntaxFault text at
IsRefusal text Memory = Unit {0}

-- the answer is a fault at this place, or memory was wanting
abbrev pub IsSyntaxOr : ℕ → Result SyntaxTree TreeFault → Type 0
IsSyntaxOr place (Ok d) = ⊥
IsSyntaxOr place (Err Memory) = Unit {0}
IsSyntaxOr place (Err (Syntax at)) = at ≡ place
