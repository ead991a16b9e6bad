-- What the reader keeps from token to token, and what each changes.
use Rattle.std.specs.Prelude.{◌≡◌, ◌⊎◌, ℕ, ◌-◌, Bool, true, false, List, Option, Some, None, if◌then◌else◌}
use Rattle.pf_terms.specs.declared.parse.symbol.ParserSymbol.{ParserSymbol}
use Rattle.pf_terms.specs.declared.parse.symbol.ParserSymbol.TheVariants.{Atom, Column, Row}
use Rattle.pf_terms.specs.declared.token.TokenKind.{TokenKind}
use Rattle.pf_terms.specs.declared.token.TokenKind.TheVariants.{Typed, Long, Minus}
use Rattle.pf_terms.specs.declared.token.Token.{Token}
use Rattle.pf_terms.specs.declared.parse.syntax_tree.SyntaxTree.{SyntaxTree}
use Rattle.pf_terms.specs.declared.parse.syntax_tree.TreeFault.{TreeFault}
use Rattle.pf_terms.specs.declared.parse.syntax_tree.TreeFault.TheVariants.{Syntax, Memory}
use Rattle.pf_terms.specs.declared.parse.build.Build.{Build}
use Rattle.pf_terms.specs.declared.parse.reader.Reader.{Reader}
use Rattle.pf_terms.specs.Meaning.Grammar.{Whole, Spells}
use Rattle.pf_terms.specs.Steps.Parsing.{parser_step, taker, built}
use Rattle.pf_terms.specs.Meaning.Tokens.{kinds, token_place}
use Rattle.pf_terms.specs.Meaning.SyntaxTrees.{nested, IsShallow, IsFirstBadToken, IsFaultPlace}

-- what took a minus
abbrev pub minus_of : ParserSymbol → TokenKind → Option ParserSymbol
minus_of x Minus = Some x
minus_of x _ = None

-- the minus before, by what took it, is the number's own
abbrev pub is_own : Option ParserSymbol → TokenKind → Bool
is_own (Some Atom) (Typed n t) = true
is_own (Some Atom) (Long (Some t)) = true
is_own (Some Column) (Long None) = true
is_own (Some Row) (Long None) = true
is_own _ _ = false

-- the answer whether the token fits, and the reader then
abbrev pub Takes : Bool → Reader → TokenKind → Reader → Type 0
Takes true r k q = (x : ParserSymbol) × (parser_step r.symbols k ≡ Some q.symbols) × (taker r.symbols k ≡ Some x) × (built r.symbols k r.build ≡ q.build) × (nested r.depth k ≡ Some q.depth) × (q.minus ≡ minus_of x k)
Takes false r k q = ((parser_step r.symbols k ≡ None) ⊎ (nested r.depth k ≡ None)) × (q.minus ≡ r.minus)

-- what is ready where all is whole
abbrev pub tree_of_build : Option Build → Option SyntaxTree
tree_of_build (Some b) = b.ready
tree_of_build None = None

abbrev pub fault_place : List Token → ℕ → Bool → ℕ
fault_place ts n own = token_place ts (if own then n - 1 else n)

-- the tokens spell the expression
pub record IsTreeOf (ts : List Token) (d : SyntaxTree) : Type 0 where
  pub spelled : Spells Whole (kinds ts) d
  pub shallow : IsShallow 0 (kinds ts)

-- what a refusal says of the tokens
pub record IsFaultOf (ts : List Token) (place : ℕ) : Type 0 where
  pub n : ℕ
  pub first : IsFirstBadToken (kinds ts) n
  pub stands : IsFaultPlace ts n place

abbrev pub IsRefusalOf : List Token → TreeFault → Type 0
IsRefusalOf ts (Syntax at) = IsFaultOf ts at
IsRefusalOf ts Memory = Unit {0}
