-- A text has one first fault, and it is told.
use Rattle.std.proofs.Common.{◌≡◌, ◌≢◌, refl, sym, ap, ◌∙◌, subst, ℕ, ◌+◌, ◌<◌, ◌≤◌, nat_lt, Bool, true, false, ℤ, pos, List, length, arith}
use Rattle.std.specs.Prelude.{Option, Some, None, Result, Ok, Err, IfOk, IfErr}
use Rattle.std.proofs.lemmas.Bool.Decides.{nat_tests}
use Rattle.pf_ints.specs.declared.lane.LaneType.{LaneType}
use Rattle.pf_terms.specs.declared.parse.syntax_tree.SyntaxTree.{SyntaxTree}
use Rattle.pf_terms.specs.declared.parse.syntax_tree.TreeFault.{TreeFault}
use Rattle.pf_terms.specs.declared.parse.syntax_tree.TreeFault.TheVariants.{Syntax as NoSyntax, Memory as NoMemory}
use Rattle.pf_values.specs.declared.fault.TermFault.{TermFault}
use Rattle.pf_values.specs.declared.fault.TermFault.TheVariants.{Types as TypesAt, Amount as AmountAt, Memory as MemoryAt}
use Rattle.pf_values.specs.declared.limit.LimitKind.TheVariants.{Bytes, Amount as Amounts, Images, Taps, Definitions, Offset, Depth, Nodes}
use Rattle.pf_terms.specs.declared.meaning.ReadFault.{ReadFault}
use Rattle.pf_terms.specs.declared.meaning.ReadFault.TheVariants.{Syntax, Name, Types, Amount, Limit, Memory}
use Rattle.pf_values.specs.declared.names.Names.{Names}
use Rattle.pf_values.specs.declared.term.Term.{Term}
use Rattle.pf_terms.specs.Steps.Building.{IsFaultOrMemory}
use Rattle.pf_terms.specs.Meaning.SyntaxTrees.{IsTreeText, IsTreeOr, IsSyntaxFault, IsSyntaxOr}
use Rattle.pf_terms.specs.Meaning.Meanings.{Means, IsMeaningFault, IsReadFault, IsReadFaultOr, names_after, first_far, first_unknown, term_of}
use Rattle.pf_values.specs.Meaning.Terms.{typing}
use Rattle.pf_terms.proofs.TreeTexts.{tree_only, tree_told}
use Rattle.pf_terms.proofs.Meant.{refused}

-- a text has one syntax tree, or else one fault
pub one_tree_text : (text : List ℕ) (d e : SyntaxTree) → IsTreeText text d → IsTreeText text e → d ≡ e
one_tree_text text d e h k = tree_only text h.tokens h.tokens (Ok d) h.lexed refl (record { spelled = h.spelled; shallow = h.shallow }) tt e k

pub one_syntax_fault : (text : List ℕ) (at place : ℕ) → IsSyntaxFault text at → IsSyntaxFault text place → at ≡ place
one_syntax_fault text at place h k = tree_told text h.tokens h.tokens (Err (NoSyntax at)) h.lexed refl tt (record { n = h.n; first = h.first; stands = h.stands }) place k

pub no_syntax_fault : (text : List ℕ) (d : SyntaxTree) (place : ℕ) → IsTreeText text d → IsSyntaxFault text place → ⊥
no_syntax_fault text d place h k = tree_told text h.tokens h.tokens (Ok d) h.lexed refl (record { spelled = h.spelled; shallow = h.shallow }) tt place k

-- the first fault of a syntax tree, by its first unknown name, its type, whether its taps are too many, their count and its first far offset
abbrev fault_by : Option (List ℕ) → Result LaneType TermFault → Bool → ℕ → Option ℤ → Option ReadFault
fault_by (Some s) typed many taps far = Some (Name s)
fault_by None (Err (TypesAt path want got)) many taps far = Some (Types want got)
fault_by None (Err (AmountAt path k)) many taps far = Some (Amount k)
fault_by None (Err MemoryAt) many taps far = None
fault_by None (Ok ty) true taps far = Some (Limit Taps (pos taps))
fault_by None (Ok ty) false taps None = None
fault_by None (Ok ty) false taps (Some n) = Some (Limit Offset n)

abbrev taps_of : Names → SyntaxTree → ℕ
taps_of names d = length (names_after names d).taps

first_fault : Names → SyntaxTree → Option ReadFault
first_fault names d = fault_by (first_unknown names d) (typing (term_of (names_after names d) d)) (nat_lt 64 (taps_of names d)) (taps_of names d) (first_far d)

module _ (unknown : Option (List ℕ)) (typed : Result LaneType TermFault) (many : Bool) (taps : ℕ) (far : Option ℤ) where
  by_type : (t : Result LaneType TermFault) → unknown ≡ None → typed ≡ t → fault_by unknown typed many taps far ≡ fault_by None t many taps far
  by_type t h k = ap (λ u. fault_by u typed many taps far) h ∙ ap (λ v. fault_by None v many taps far) k

  by_taps : (ty : LaneType) (m : Bool) → unknown ≡ None → typed ≡ Ok ty → many ≡ m → fault_by unknown typed many taps far ≡ fault_by None (Ok ty) m taps far
  by_taps ty m h k l = by_type (Ok ty) h k ∙ ap (λ v. fault_by None (Ok ty) v taps far) l

  by_far : (ty : LaneType) (o : Option ℤ) → unknown ≡ None → typed ≡ Ok ty → many ≡ false → far ≡ o → fault_by unknown typed many taps far ≡ fault_by None (Ok ty) false taps o
  by_far ty o h k l e = by_taps ty false h k l ∙ ap (λ p. fault_by None (Ok ty) false taps p) e

is_many : (n : ℕ) → 64 < n → nat_lt 64 n ≡ true
is_many n h = grind (arith, nat_tests)

is_few : (n : ℕ) → n ≤ 64 → nat_lt 64 n ≡ false
is_few n h = grind (arith, nat_tests)

-- a fault of the meaning is the first
first_is : (names : Names) (d : SyntaxTree) (f : ReadFault) → IsMeaningFault names d f → first_fault names d ≡ Some f
unfolding first_fault
first_is names d (Name s) h = ap (λ u. fault_by u (typing (term_of (names_after names d) d)) (nat_lt 64 (taps_of names d)) (taps_of names d) (first_far d)) h
first_is names d (Types want got) h = by_type _ _ _ _ _ _ h.0 h.1.1
first_is names d (Amount k) h = by_type _ _ _ _ _ _ h.0 h.1.1
first_is names d (Limit Taps n) h = by_taps _ _ _ _ _ _ true h.0 h.1 (is_many _ h.2) ∙ ap (λ k. Some (Limit Taps k)) (sym h.3)
first_is names d (Limit Offset n) h = by_far _ _ _ _ _ _ _ h.0 h.1 (is_few _ h.2) h.3
first_is names d (Limit Bytes n) h = absurd h
first_is names d (Limit Amounts n) h = absurd h
first_is names d (Limit Images n) h = absurd h
first_is names d (Limit Definitions n) h = absurd h
first_is names d (Limit Depth n) h = absurd h
first_is names d (Limit Nodes n) h = absurd h
first_is names d (Syntax column) h = absurd h
first_is names d Memory h = absurd h

none_meant : (names : Names) (d : SyntaxTree) (t : Term) (after : Names) → Means names d t after → first_fault names d ≡ None
unfolding first_fault
none_meant names d t after h = by_far _ _ _ _ _ _ _ h.known h.typed (is_few _ h.few) h.near

same_fault : (names : Names) (d : SyntaxTree) (e f : ReadFault) → IsMeaningFault names d e → first_fault names d ≡ Some f → e ≡ f
same_fault names d e f h k = let both : ◌≡◌ {A = Option ReadFault} (Some e) (Some f) = sym (first_is names d e h) ∙ k in cc

-- what is told of a syntax tree with this first fault
told_by : (names : Names) (d : SyntaxTree) (now : Names) (r : Result Term ReadFault) (f : ReadFault) → first_fault names d ≡ Some f → IfOk r (λ t. Means names d t now) → IfErr r (IsFaultOrMemory names d) → IsReadFaultOr f r
told_by names d now (Ok t) f h read fault = absurd (let both : ◌≡◌ {A = Option ReadFault} None (Some f) = sym (none_meant names d t now read) ∙ h in cc)
told_by names d now (Err Memory) f h read fault = tt
told_by names d now (Err (Syntax column)) f h read fault = absurd fault
told_by names d now (Err (Name s)) f h read fault = same_fault names d (Name s) f fault h
told_by names d now (Err (Types want got)) f h read fault = same_fault names d (Types want got) f fault h
told_by names d now (Err (Amount k)) f h read fault = same_fault names d (Amount k) f fault h
told_by names d now (Err (Limit what n)) f h read fault = same_fault names d (Limit what n) f fault h

-- of a text that is an expression
pub meaning_told : (names : Names) (text : List ℕ) (d : SyntaxTree) (now : Names) (r : Result Term ReadFault) → ((e : SyntaxTree) → IsTreeText text e → d ≡ e) → ((place : ℕ) → IsSyntaxFault text place → ⊥) → IfOk r (λ t. Means names d t now) →
    IfErr r (IsFaultOrMemory names d) → (f : ReadFault) → f ≢ Memory → IsReadFault names text f → IsReadFaultOr f r
meaning_told names text d now r only none read fault f some h = by f some h where
  first : (f : ReadFault) (e : SyntaxTree) → IsTreeText text e → IsMeaningFault names e f → IsReadFaultOr f r
  first f e spelled broken = told_by names d now r f (first_is names d f (subst (λ x. IsMeaningFault names x f) (sym (only e spelled)) broken)) read fault

  by : (f : ReadFault) → f ≢ Memory → IsReadFault names text f → IsReadFaultOr f r
  by (Syntax column) some h = absurd (none h.0 h.1)
  by Memory some h = absurd (some refl)
  by (Name s) some h = first (Name s) h.0 h.1 h.2
  by (Types want got) some h = first (Types want got) h.0 h.1 h.2
  by (Amount k) some h = first (Amount k) h.0 h.1 h.2
  by (Limit what n) some h = first (Limit what n) h.0 h.1 h.2

same_place : (e : TreeFault) (at place : ℕ) → e ≡ NoSyntax at → IsSyntaxOr place (Err e) → at ≡ place
same_place (NoSyntax b) at place is h = let same : b ≡ at = cc in sym same ∙ h
same_place NoMemory at place is h = absurd (cc)

-- of a text that is none
pub syntax_told : (names : Names) (text : List ℕ) (e : TreeFault) (at column : ℕ) → e ≡ NoSyntax at → column ≡ at + 1 → ((d : SyntaxTree) → IsTreeText text d → IsTreeOr d (Err e)) →
    ((place : ℕ) → IsSyntaxFault text place → IsSyntaxOr place (Err e)) → (f : ReadFault) → f ≢ Memory → IsReadFault names text f → IsReadFaultOr f (Err (Syntax column))
syntax_told names text e at column is told only here (Syntax other) some h =
    ap (λ n. Syntax n) (told ∙ ap (λ n. n + 1) (same_place e at h.0 is (here h.0 h.1)) ∙ sym h.2)
syntax_told names text e at column is told only here Memory some h = absurd (some refl)
syntax_told names text e at column is told only here (Name s) some h = absurd (refused h.0 e at is (only h.0 h.1))
syntax_told names text e at column is told only here (Types want got) some h = absurd (refused h.0 e at is (only h.0 h.1))
syntax_told names text e at column is told only here (Amount k) some h = absurd (refused h.0 e at is (only h.0 h.1))
syntax_told names text e at column is told only here (Limit what n) some h = absurd (refused h.0 e at is (only h.0 h.1))
