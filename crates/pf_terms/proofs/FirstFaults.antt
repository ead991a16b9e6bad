-- The first token that doesn't fit is the first fault.
use Rattle.std.proofs.Common.{◌≡◌, refl, sym, ap, ◌∙◌, subst, ℕ, ◌+◌, ◌≤◌, ◌<◌, Bool, true, false, List, [], ◌∷◌, ◌++◌, length, take, get_or, append_assoc, append-nil, arith, inl, inr, ltb-true, ltb-false, lt-ltb, ◌-◌, drop, take-take}
use Rattle.std.specs.Prelude.{Option, Some, None, if◌then◌else◌, nat_lt, ◌⊎◌}
use Rattle.std.proofs.lemmas.List.{take_more, take_all, take-append-drop}
use Rattle.pf_terms.specs.declared.parse.symbol.ParserSymbol.{ParserSymbol}
use Rattle.pf_terms.specs.declared.token.TokenKind.{TokenKind}
use Rattle.pf_terms.specs.declared.token.TokenKind.TheVariants.{Open, Close}
use Rattle.pf_terms.specs.declared.parse.syntax_tree.SyntaxTree.{SyntaxTree}
use Rattle.pf_terms.specs.declared.parse.build.Build.{Build}
use Rattle.pf_terms.specs.Meaning.Grammar.{Whole, Spells, IsSpelled, IsBegun}
use Rattle.pf_terms.specs.Steps.Parsing.{parser_step, built, parser_run, then_on, finished, expression_symbols}
use Rattle.pf_terms.specs.Meaning.SyntaxTrees.{bracket_limit, nested, IsShallow, IsFirstBadToken}
use Rattle.pf_terms.proofs.Complete.{fresh, holding, spelled_built}
use Rattle.pf_terms.proofs.Sound.{run_spelled}
use Rattle.pf_terms.proofs.Viable.{completion, completes}

-- ---- brackets

-- one token more in front
pub deeper : (n m : ℕ) (k : TokenKind) (rest : List TokenKind) → nested n k ≡ Some m → IsShallow m rest → IsShallow n (k ∷ rest)
deeper n m Open rest e h = by (nat_lt n bracket_limit) refl e where
  by : (b : Bool) → nat_lt n bracket_limit ≡ b → (if b then Some (n + 1) else None) ≡ Some m → (n < bracket_limit) × IsShallow (n + 1) rest
  by true is e = let same : n + 1 ≡ m = cc in (ltb-true n bracket_limit is, subst (λ d. IsShallow d rest) (sym same) h)
  by false is e = absurd (cc)
deeper n m Close rest e h = let same : n - 1 ≡ m = cc in subst (λ d. IsShallow d rest) (sym same) h
deeper n m _ rest e h = let same : n ≡ m = cc in subst (λ d. IsShallow d rest) (sym same) h

pub shallower : (n m : ℕ) (k : TokenKind) (rest : List TokenKind) → nested n k ≡ Some m → IsShallow n (k ∷ rest) → IsShallow m rest
shallower n m Open rest e h = by (nat_lt n bracket_limit) e where
  by : (b : Bool) → (if b then Some (n + 1) else None) ≡ Some m → IsShallow m rest
  by true e = let same : n + 1 ≡ m = cc in subst (λ d. IsShallow d rest) same h.1
  by false e = absurd (cc)
shallower n m Close rest e h = let same : n - 1 ≡ m = cc in subst (λ d. IsShallow d rest) same h
shallower n m _ rest e h = let same : n ≡ m = cc in subst (λ d. IsShallow d rest) same h

pub too_deep : (n : ℕ) (k : TokenKind) → nested n k ≡ None → IsShallow n (k ∷ []) → ⊥
too_deep n Open e h = by (nat_lt n bracket_limit) refl e where
  by : (b : Bool) → nat_lt n bracket_limit ≡ b → ◌≡◌ {A = Option ℕ} (if b then Some (n + 1) else None) None → ⊥
  by true is e = absurd (cc)
  by false is e = let yes : nat_lt n bracket_limit ≡ true = lt-ltb n bracket_limit h.0 in let never : ◌≡◌ {A = Bool} false true = sym is ∙ yes in absurd (cc)
too_deep n _ e h = absurd (cc)

-- what holds of tokens holds of the first of them
pub shallow_front : (n : ℕ) (ks rest : List TokenKind) → IsShallow n (ks ++ rest) → IsShallow n ks
shallow_front n [] rest h = tt
shallow_front n (Open ∷ ks) rest h = (h.0, shallow_front (n + 1) ks rest h.1)
shallow_front n (Close ∷ ks) rest h = shallow_front (n - 1) ks rest h
shallow_front n (_ ∷ ks) rest h = shallow_front n ks rest h

-- ---- the reader behind the first n tokens: what is to come, what is built, and how many brackets are open
pub record Stands (ks : List TokenKind) (n : ℕ) (s : List ParserSymbol) (b : Build) (depth : ℕ) : Type 0 where
  pub onward : (rest : List TokenKind) → parser_run (take n ks ++ rest) expression_symbols (fresh []) ≡ parser_run rest s b
  pub inner : (rest : List TokenKind) → IsShallow depth rest → IsShallow 0 (take n ks ++ rest)
  pub outer : (rest : List TokenKind) → IsShallow 0 (take n ks ++ rest) → IsShallow depth rest

pub stands_first : (ks : List TokenKind) → Stands ks 0 expression_symbols (fresh []) 0
stands_first ks = record { onward = λ rest. refl; inner = λ rest h. h; outer = λ rest h. h }

-- the tokens up to and with the next
with_next : (ks : List TokenKind) (n : ℕ) (k : TokenKind) (rest : List TokenKind) → n < length ks → k ≡ get_or ks n k → take (n + 1) ks ++ rest ≡ take n ks ++ k ∷ rest
with_next ks n k rest below at =
    ap (λ l. l ++ rest) (take_more ks n k below ∙ ap (λ j. take n ks ++ j ∷ []) (sym at)) ∙ append_assoc (take n ks) (k ∷ []) rest

pub stands_next : (ks : List TokenKind) (n : ℕ) (k : TokenKind) (s t : List ParserSymbol) (b c : Build) (d e : ℕ) → n < length ks → k ≡ get_or ks n k →
    parser_step s k ≡ Some t → built s k b ≡ c → nested d k ≡ Some e → Stands ks n s b d → Stands ks (n + 1) t c e
stands_next ks n k s t b c d e below at steps builds nests h =
    record {
      onward = λ rest.
          ap (λ l. parser_run l expression_symbols (fresh [])) (with_next ks n k rest below at) ∙ h.onward (k ∷ rest) ∙ ap (then_on (λ u. parser_run rest u (built s k b))) steps ∙ ap (parser_run rest t) builds;
      inner = λ rest shallow. subst (IsShallow 0) (sym (with_next ks n k rest below at)) (h.inner (k ∷ rest) (deeper d e k rest nests shallow));
      outer = λ rest shallow. shallower d e k rest nests (h.outer (k ∷ rest) (subst (IsShallow 0) (with_next ks n k rest below at) shallow));
    }

pub begun_at : (ks : List TokenKind) (n : ℕ) (s : List ParserSymbol) (b : Build) (d : ℕ) → Stands ks n s b d → IsBegun (take n ks)
begun_at ks n s b d h =
    let r = completes s b in
    (completion s, run_spelled (take n ks ++ completion s) (fresh []) r.0 (h.onward (completion s) ∙ r.1))

shallow_at : (ks : List TokenKind) (n : ℕ) (s : List ParserSymbol) (b : Build) (d : ℕ) → Stands ks n s b d → IsShallow 0 (take n ks)
shallow_at ks n s b d h = subst (IsShallow 0) (append-nil (take n ks)) (h.inner [] tt)

-- what is spelled isn't nothing
pub built_some : (ks : List TokenKind) → IsSpelled ks → parser_run ks expression_symbols (fresh []) ≡ None → ⊥
built_some ks h none = absurd (let some = spelled_built ks h.0 h.1 in let never : ◌≡◌ {A = Option Build} (Some (holding [] h.0)) None = sym some ∙ none in cc)

pub fault_here : (ks : List TokenKind) (n : ℕ) (k : TokenKind) (s : List ParserSymbol) (b : Build) (d : ℕ) → n < length ks → k ≡ get_or ks n k → (parser_step s k ≡ None) ⊎ (nested d k ≡ None) → Stands ks n s b d → IsFirstBadToken ks n
fault_here ks n k s b d below at why h =
    record {
      within = omega arith;
      begun = begun_at ks n s b d h;
      shallow = shallow_at ks n s b d h;
      fault = λ under more shallow. by why more shallow;
      end = λ is spelled. absurd (omega arith);
    } where
      by : (parser_step s k ≡ None) ⊎ (nested d k ≡ None) → IsBegun (take (n + 1) ks) → IsShallow 0 (take (n + 1) ks) → ⊥
      by (inl none) more shallow =
          built_some (take (n + 1) ks ++ more.0) more.1
          (ap (λ l. parser_run l expression_symbols (fresh [])) (with_next ks n k more.0 below at) ∙ h.onward (k ∷ more.0) ∙ ap (then_on (λ u. parser_run more.0 u (built s k b))) none)
      by (inr none) more shallow =
          too_deep d k none (h.outer (k ∷ []) (subst (IsShallow 0) (sym (append-nil (take (n + 1) ks)) ∙ with_next ks n k [] below at) shallow))

all_taken : (ks : List TokenKind) (n : ℕ) → n ≡ length ks → take n ks ++ [] ≡ ks
all_taken ks n is = append-nil (take n ks) ∙ take_all n ks (omega arith)

-- what is built of all tokens
pub built_at_end : (ks : List TokenKind) (n : ℕ) (s : List ParserSymbol) (b : Build) (d : ℕ) → n ≡ length ks → Stands ks n s b d → parser_run ks expression_symbols (fresh []) ≡ finished s b
built_at_end ks n s b d is h = ap (λ l. parser_run l expression_symbols (fresh [])) (sym (all_taken ks n is)) ∙ h.onward []

pub shallow_at_end : (ks : List TokenKind) (n : ℕ) (s : List ParserSymbol) (b : Build) (d : ℕ) → n ≡ length ks → Stands ks n s b d → IsShallow 0 ks
shallow_at_end ks n s b d is h = subst (IsShallow 0) (all_taken ks n is) (h.inner [] tt)

pub fault_at_end : (ks : List TokenKind) (n : ℕ) (s : List ParserSymbol) (b : Build) (d : ℕ) → n ≡ length ks → (IsSpelled ks → ⊥) → Stands ks n s b d → IsFirstBadToken ks n
fault_at_end ks n s b d is never h =
    record { within = omega arith; begun = begun_at ks n s b d h; shallow = shallow_at ks n s b d h; fault = λ under more shallow. absurd (omega arith); end = λ same spelled. never spelled }

-- ---- the answers

-- the tokens spell one expression at most
pub one_tree : (ks : List TokenKind) (d e : SyntaxTree) → Spells Whole ks d → Spells Whole ks e → d ≡ e
one_tree ks d e h i =
    let both : ◌≡◌ {A = Option Build} (Some (holding [] d)) (Some (holding [] e)) = sym (spelled_built ks d h) ∙ spelled_built ks e i in
    let builds : holding [] d ≡ holding [] e = cc in
    let readies : ◌≡◌ {A = Option SyntaxTree} (Some d) (Some e) = ap (λ b. b.ready) builds in
    cc

-- what is spelled has no fault
pub no_fault : (ks : List TokenKind) (n : ℕ) (d : SyntaxTree) → Spells Whole ks d → IsShallow 0 ks → IsFirstBadToken ks n → ⊥
no_fault ks n d h shallow f = by (nat_lt n (length ks)) refl where
  by : (b : Bool) → nat_lt n (length ks) ≡ b → ⊥
  by true is =
      let parts : take (n + 1) ks ++ drop (n + 1) ks ≡ ks = take-append-drop (n + 1) ks in
      f.fault (ltb-true n (length ks) is) (drop (n + 1) ks, (d, subst (λ l. Spells Whole l d) (sym parts) h)) (shallow_front 0 (take (n + 1) ks) (drop (n + 1) ks) (subst (IsShallow 0) (sym parts) shallow))
  by false is = let past : length ks ≤ n = ltb-false n (length ks) is in f.end (omega (arith, f.within)) (d, h)

-- what begins so, begins with less of it too
begun_front : (a b : List TokenKind) → IsBegun (a ++ b) → IsBegun a
begun_front a b h = (b ++ h.0, (h.1.0, subst (λ l. Spells Whole l h.1.0) (append_assoc a b h.0) h.1.1))

-- a fault comes behind no other
not_later : (ks : List TokenKind) (m n : ℕ) → IsFirstBadToken ks m → IsFirstBadToken ks n → m < n → ⊥
not_later ks m n f g below =
    let parts : take n ks ≡ take (m + 1) ks ++ drop (m + 1) (take n ks) =
    sym (take-append-drop (m + 1) (take n ks)) ∙ ap (λ l. l ++ drop (m + 1) (take n ks)) (take-take (m + 1) n ks (omega arith)) in
    f.fault (omega (arith, g.within)) (begun_front (take (m + 1) ks) (drop (m + 1) (take n ks)) (subst IsBegun parts g.begun))
    (shallow_front 0 (take (m + 1) ks) (drop (m + 1) (take n ks)) (subst (IsShallow 0) parts g.shallow))

one_size : (m n : ℕ) → (m < n → ⊥) → (n < m → ⊥) → m ≡ n
one_size m n a b = by (nat_lt m n) (nat_lt n m) refl refl where
  by : (t u : Bool) → nat_lt m n ≡ t → nat_lt n m ≡ u → m ≡ n
  by true u e f = absurd (a (ltb-true m n e))
  by false true e f = absurd (b (ltb-true n m f))
  by false false e f = omega (arith, ltb-false m n e, ltb-false n m f)

pub one_fault : (ks : List TokenKind) (m n : ℕ) → IsFirstBadToken ks m → IsFirstBadToken ks n → m ≡ n
one_fault ks m n f g = one_size m n (not_later ks m n f g) (not_later ks n m g f)
