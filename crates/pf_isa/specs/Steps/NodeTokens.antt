-- The tokens of a term's text that make a node each.
use Rattle.std.specs.Prelude.{ℕ, ◌≤◌, Bool, true, false, List}
use Rattle.pf_values.specs.declared.names.Names.{Names}
use Rattle.pf_values.specs.declared.term.Term.{Term}
use Rattle.pf_terms.specs.declared.token.TokenKind.{TokenKind}
use Rattle.pf_terms.specs.declared.token.TokenKind.TheVariants.{Name, Typed, Word, Choose, ShiftLeft, ShiftRight}
use Rattle.pf_terms.specs.Meaning.Meanings.{IsTermText}
use Rattle.pf_values.specs.Meaning.Terms.{node_count}

-- a number, a name, the word of an operator, and the sign of a shift
abbrev pub makes_node : TokenKind → Bool
makes_node (Typed n t) = true
makes_node (Name s) = true
makes_node (Word op) = true
makes_node Choose = true
makes_node ShiftLeft = true
makes_node ShiftRight = true
makes_node _ = false

-- a term of the text has at least so many nodes
abbrev pub HasNodes : List ℕ → ℕ → Type 0
HasNodes text n = (names : Names) (t : Term) (after : Names) → IsTermText names text t after → n ≤ node_count t
