-- What is said of the tokens, said of the text.
use Rattle.std.proofs.Common.{◌≡◌, refl, sym, ◌∙◌, subst, ℕ, ◌-◌, List, true, inl, inr}
use Rattle.std.specs.Prelude.{◌⊎◌, All, IfOk, IfErr, Result, Ok, Err}
use Rattle.pf_terms.specs.declared.parse.syntax_tree.SyntaxTree.{SyntaxTree}
use Rattle.pf_terms.specs.declared.parse.syntax_tree.TreeFault.{TreeFault}
use Rattle.pf_terms.specs.declared.parse.syntax_tree.TreeFault.TheVariants.{Syntax, Memory}
use Rattle.pf_terms.specs.declared.token.Token.{Token}
use Rattle.pf_terms.specs.Meaning.Tokens.{IsLexed, kinds, token_place}
use Rattle.pf_terms.specs.Meaning.Grammar.{Whole, Spells}
use Rattle.pf_terms.specs.Steps.Parsing.{is_unsigned}
use Rattle.pf_terms.specs.Meaning.SyntaxTrees.{IsShallow, IsTreeText, IsTreeOr, IsNegative, IsFaultPlace, at_minus, first, IsSyntaxFault, IsSyntaxOr}
use Rattle.pf_terms.specs.Steps.Reading.{IsTreeOf, IsFaultOf, IsRefusalOf}
use Rattle.pf_terms.proofs.FirstFaults.{one_tree, one_fault, no_fault}
use Rattle.pf_terms.proofs.OneLexing.{one_lexing, unsigned_tokens}

pub unsigned_here : (text : List ℕ) (ts us : List Token) → IsLexed 0 text ts → us ≡ ts → All (λ t. is_unsigned t.kind ≡ true) us
unsigned_here text ts us h is = subst (All (λ t. is_unsigned t.kind ≡ true)) (sym is) (unsigned_tokens text ts h)

-- the tokens of a syntax tree's text are these
spelled_here : (text : List ℕ) (ts us : List Token) (d : SyntaxTree) → IsLexed 0 text ts → us ≡ ts → IsTreeText text d → IsTreeOf us d
spelled_here text ts us d h is g =
    let same : g.tokens ≡ us = one_lexing 0 text g.tokens us g.lexed (subst (IsLexed 0 text) (sym is) h) in
    record { spelled = subst (λ l. Spells Whole (kinds l) d) same g.spelled; shallow = subst (λ l. IsShallow 0 (kinds l)) same g.shallow }

pub tree_only : (text : List ℕ) (ts us : List Token) (result : Result SyntaxTree TreeFault) → IsLexed 0 text ts → us ≡ ts → IfOk result (IsTreeOf us) → IfErr result (IsRefusalOf us) →
    (d : SyntaxTree) → IsTreeText text d → IsTreeOr d result
tree_only text ts us (Ok e) h is found fault d g = one_tree (kinds us) e d found.spelled (spelled_here text ts us d h is g).spelled
tree_only text ts us (Err Memory) h is found fault d g = tt
tree_only text ts us (Err (Syntax at)) h is found fault d g =
    let i = spelled_here text ts us d h is g in
    no_fault (kinds us) fault.n d i.spelled i.shallow fault.first

-- the place of a faulty token, by whether it is a number with its own minus
abbrev Placed : List Token → ℕ → ℕ → Type 0
Placed ts n p = (IsNegative (kinds ts) n × (p ≡ token_place ts (n - 1))) ⊎ ((IsNegative (kinds ts) n → ⊥) × (p ≡ token_place ts n))

placed_by : (ts : List Token) (n p : ℕ) → IsFaultPlace ts n p → Placed ts n p
placed_by _ _ _ (at_minus ts n h) = inl (h, refl)
placed_by _ _ _ (first ts n h) = inr (h, refl)

one_place : (ts : List Token) (n p q : ℕ) → Placed ts n p → Placed ts n q → p ≡ q
one_place ts n p q (inl h) (inl i) = h.1 ∙ sym i.1
one_place ts n p q (inl h) (inr i) = absurd (i.0 h.0)
one_place ts n p q (inr h) (inl i) = absurd (h.0 i.0)
one_place ts n p q (inr h) (inr i) = h.1 ∙ sym i.1

-- the fault of a text is that of its tokens
fault_of : (text : List ℕ) (ts us : List Token) (place : ℕ) → IsLexed 0 text ts → us ≡ ts → IsSyntaxFault text place → IsFaultOf us place
fault_of text ts us place h is g =
    let same : g.tokens ≡ us = one_lexing 0 text g.tokens us g.lexed (subst (IsLexed 0 text) (sym is) h) in
    subst (λ l. IsFaultOf l place) same (record { n = g.n; first = g.first; stands = g.stands })

pub tree_told : (text : List ℕ) (ts us : List Token) (result : Result SyntaxTree TreeFault) → IsLexed 0 text ts → us ≡ ts → IfOk result (IsTreeOf us) → IfErr result (IsRefusalOf us) →
    (place : ℕ) → IsSyntaxFault text place → IsSyntaxOr place result
tree_told text ts us (Ok e) h is found fault place g = let f = fault_of text ts us place h is g in no_fault (kinds us) f.n e found.spelled found.shallow f.first
tree_told text ts us (Err Memory) h is found fault place g = tt
tree_told text ts us (Err (Syntax at)) h is found fault place g =
    let f = fault_of text ts us place h is g in
    let n : fault.n ≡ f.n = one_fault (kinds us) fault.n f.n fault.first f.first in
    one_place us f.n at place (placed_by us f.n at (subst (λ m. IsFaultPlace us m at) n fault.stands)) (placed_by us f.n place f.stands)
