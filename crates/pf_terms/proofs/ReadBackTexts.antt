-- What a text's tokens are when something is put in front of it.
use Rattle.std.proofs.Common.{◌≡◌, refl, sym, ap, ◌∙◌, subst, ℕ, zero, suc, ◌+◌, ◌≤◌, inl, inr, Bool, true, false, ◌||◌, List, [], ◌∷◌, ◌++◌, length, get_or, drop, arith}
use Rattle.std.specs.Prelude.{All, ◌==◌}
use Rattle.std.specs.List.{list_all}
use Rattle.std.proofs.Math.Seq.{take-append_seam, drop-append_seam}
use Rattle.std.proofs.lemmas.List.{length-append}
use Rattle.std.proofs.lemmas.Bool.Decides.{nat_tests}
use Rattle.pf_text.specs.Meaning.Words.{is_name_byte}
use Rattle.pf_terms.specs.declared.token.TokenKind.{TokenKind}
use Rattle.pf_terms.specs.declared.token.TokenKind.TheVariants.{Open, Close, OpenSquare, CloseSquare, Comma, Plus, Minus, Times, ShiftLeft, ShiftRight, Less, Greater, Same, Equals}
use Rattle.pf_terms.specs.declared.token.Token.{Token}
use Rattle.pf_terms.specs.Meaning.Tokens.{kinds, is_blank, sign_text, IsRunToken, IsNoRun, IsShort, IsFrontRun, IsFront, IsSolid, IsLexed, at_end, blank, token}
use Rattle.pf_terms.proofs.Lexing.{long_front, short_front}
use Rattle.pf_values.proofs.Typing.{and_left, and_right}

-- the tokens of a text at place n are of these kinds
pub record IsReadAt (n : ℕ) (text : List ℕ) (ks : List TokenKind) : Type 0 where
  pub tokens : List Token
  pub lexed : IsLexed n text tokens
  pub told : kinds tokens ≡ ks

-- and so at each place
abbrev pub Reads : List ℕ → List TokenKind → Type 0
Reads text ks = (n : ℕ) → IsReadAt n text ks

pub reads_nothing : Reads [] []
reads_nothing n = record { tokens = []; lexed = at_end n; told = refl }

pub reads_blank : (r : List ℕ) (ls : List TokenKind) → Reads r ls → Reads (32 ∷ r) ls
reads_blank r ls h n =
    let x = h (n + 1) in
    record { tokens = x.tokens; lexed = blank n 32 r x.tokens refl x.lexed; told = x.told }

reads_token : (text : List ℕ) (size : ℕ) (k : TokenKind) (ls : List TokenKind) → IsSolid text → IsFront text size k → Reads (drop size text) ls → Reads text (k ∷ ls)
reads_token text size k ls solid front h n =
    let x = h (n + size) in
    record { tokens = record { start = n; end = n + size; kind = k } ∷ x.tokens; lexed = token n size text k x.tokens solid front x.lexed; told = ap (λ zs. k ∷ zs) x.told }

-- ---- signs
abbrev may_be_double : ℕ → Bool
may_be_double a = (a == 60) || (a == 61) || (a == 62)

abbrev first_of_text : List ℕ → ℕ
first_of_text xs = get_or xs 0 0

abbrev second_of_text : List ℕ → ℕ
second_of_text xs = get_or xs 1 0

-- a sign of two bytes has one of three bytes twice
double : (k : TokenKind) (a b : ℕ) → sign_text k ≡ a ∷ b ∷ [] → (may_be_double a ≡ true) × (b ≡ a)
double ShiftLeft a b e = (ap (λ xs. may_be_double (first_of_text xs)) (sym e), ap second_of_text (sym e) ∙ ap first_of_text e)
double ShiftRight a b e = (ap (λ xs. may_be_double (first_of_text xs)) (sym e), ap second_of_text (sym e) ∙ ap first_of_text e)
double Same a b e = (ap (λ xs. may_be_double (first_of_text xs)) (sym e), ap second_of_text (sym e) ∙ ap first_of_text e)
double Open a b e = absurd (omega (arith, ap length e))
double Close a b e = absurd (omega (arith, ap length e))
double OpenSquare a b e = absurd (omega (arith, ap length e))
double CloseSquare a b e = absurd (omega (arith, ap length e))
double Comma a b e = absurd (omega (arith, ap length e))
double Plus a b e = absurd (omega (arith, ap length e))
double Minus a b e = absurd (omega (arith, ap length e))
double Times a b e = absurd (omega (arith, ap length e))
double Less a b e = absurd (omega (arith, ap length e))
double Greater a b e = absurd (omega (arith, ap length e))
double Equals a b e = absurd (omega (arith, ap length e))
double _ a b e = absurd (omega (arith, ap length e))

single_is_short : (a : ℕ) (r : List ℕ) → may_be_double a ≡ false → IsShort (a ∷ r)
single_is_short a [] h = tt
single_is_short a (b ∷ r) h = λ k e. let both : may_be_double a ≡ true = (double k a b e).0 in absurd (cc)

-- a sign that no longer one begins with
pub reads_sign : (a : ℕ) (k : TokenKind) (r : List ℕ) (ls : List TokenKind) → sign_text k ≡ a ∷ [] → may_be_double a ≡ false → is_name_byte a ≡ false → is_blank a ≡ false → Reads r ls → Reads (a ∷ r) (k ∷ ls)
reads_sign a k r ls is single none solid h = reads_token (a ∷ r) 1 k ls solid (inr (inl (short_front a r k none (single_is_short a r single) is))) h

-- one of any other signs, before a blank
pub reads_spaced_sign : (a : ℕ) (k : TokenKind) (r : List ℕ) (ls : List TokenKind) → sign_text k ≡ a ∷ [] → (32 ≡ a → ⊥) → is_name_byte a ≡ false → is_blank a ≡ false → Reads (32 ∷ r) ls → Reads (a ∷ 32 ∷ r) (k ∷ ls)
reads_spaced_sign a k r ls is other none solid h = reads_token (a ∷ 32 ∷ r) 1 k ls solid (inr (inl (short_front a (32 ∷ r) k none (λ j e. other (double j a 32 e).1) is))) h

-- a sign of two bytes
pub reads_double_sign : (a b : ℕ) (k : TokenKind) (r : List ℕ) (ls : List TokenKind) → sign_text k ≡ a ∷ b ∷ [] → is_name_byte a ≡ false → is_blank a ≡ false → Reads r ls → Reads (a ∷ b ∷ r) (k ∷ ls)
reads_double_sign a b k r ls is none solid h = reads_token (a ∷ b ∷ r) 2 k ls solid (inr (inl (long_front (a ∷ b ∷ r) k none (omega arith, is)))) h

-- ---- runs
all_bytes : (w : List ℕ) → list_all is_name_byte w ≡ true → All (λ b. is_name_byte b ≡ true) w
all_bytes [] h n d below = absurd (omega arith)
all_bytes (b ∷ w) h zero d below = and_left (is_name_byte b) (list_all is_name_byte w) h
all_bytes (b ∷ w) h (suc n) d below = all_bytes w (and_right (is_name_byte b) (list_all is_name_byte w) h) n d (omega arith)

no_blank : (b : ℕ) → is_name_byte b ≡ true → is_blank b ≡ false
no_blank b h = grind (arith, nat_tests)

begins_solid : (w r : List ℕ) → 1 ≤ length w → list_all is_name_byte w ≡ true → IsSolid (w ++ r)
begins_solid [] r some h = absurd (omega arith)
begins_solid (b ∷ w) r some h = no_blank b (and_left (is_name_byte b) (list_all is_name_byte w) h)

front_run : (w r : List ℕ) (k : TokenKind) → 1 ≤ length w → list_all is_name_byte w ≡ true → IsRunToken w k → IsNoRun r → IsFrontRun (w ++ r) (length w) k
front_run w r k some bytes is none =
    record {
      some = some;
      within = omega (arith, length-append w r);
      bytes = subst (λ xs. All (λ b. is_name_byte b ≡ true) xs) (sym (take-append_seam w r)) (all_bytes w bytes);
      longest = subst IsNoRun (sym (drop-append_seam w r)) none;
      kind = subst (λ xs. IsRunToken xs k) (sym (take-append_seam w r)) is;
    }

-- a run of such bytes, before something that doesn't go on so
pub reads_run : (w : List ℕ) (k : TokenKind) (r : List ℕ) (ls : List TokenKind) → 1 ≤ length w → list_all is_name_byte w ≡ true → IsRunToken w k → IsNoRun r → Reads r ls → Reads (w ++ r) (k ∷ ls)
reads_run w k r ls some bytes is none h =
    reads_token (w ++ r) (length w) k ls (begins_solid w r some bytes) (inl (front_run w r k some bytes is none)) (subst (λ xs. Reads xs ls) (sym (drop-append_seam w r)) h)
