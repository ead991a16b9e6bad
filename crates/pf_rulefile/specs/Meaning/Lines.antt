-- The grammar of the lines of a file of rules.
use Rattle.std.specs.Prelude.{◌≡◌, ℕ, ℤ, pos, int_le, unsigned_abs, List, [], ◌∷◌, ◌++◌, Bool, true, false, ◌&&◌, ◌||◌, if◌then◌else◌, Option, Some, None, codes}
use Rattle.std.specs.Str.{bytes_eq}
use Rattle.pf_ints.specs.declared.target.Target.TheVariants.{Neon, Avx2, Hvx}
use Rattle.pf_rules.specs.declared.number.Number.{Number}
use Rattle.pf_rules.specs.declared.pattern.PatType.{PatType}
use Rattle.pf_rules.specs.declared.rule.VarDecl.{VarDecl}
use Rattle.pf_rules.specs.declared.rule.Kind.{Kind}
use Rattle.pf_rules.specs.Meaning.Rules.{is_free}
use Rattle.pf_rules.specs.declared.rule.Kind.TheVariants.{Lift, Lower}
use Rattle.pf_rulefile.specs.declared.word.Language.TheVariants.{Operators}
use Rattle.pf_rulefile.specs.Meaning.Tokens.{int_of}
use Rattle.pf_rulefile.specs.Meaning.Words.{ptype_of, is_variable, is_rule_name, is_word, language_of}
use Rattle.pf_rulefile.specs.Meaning.Grammar.{Tokens, AreParts, IsNumber, Written, Whole, IsSide}

-- ---- headers
abbrev pub kind_of : List ℕ → Option Kind
kind_of w =
    if bytes_eq w (codes "lift") then Some Lift else (if bytes_eq w (codes "neon") then Some (Lower Neon) else (if bytes_eq w (codes "avx2") then Some (Lower Avx2)
    else (if bytes_eq w (codes "hvx") then Some (Lower Hvx) else None)))

abbrev pub format_of : List ℕ → Option ℕ
format_of w = if bytes_eq w (codes "1") then Some 1 else (if bytes_eq w (codes "2") then Some 2 else None)

-- the first line, of a file of this format and kind
pub data IsHeader : ℕ → Kind → Tokens → Type 0 where
  is_header : {f w : List ℕ} {format : ℕ} {kind : Kind} → format_of f ≡ Some format → kind_of w ≡ Some kind → IsHeader format kind (codes "rules" ∷ f ∷ w ∷ [])

-- ---- widths: some of 8, 16 and 32, in this order
abbrev pub when : {A : Type 0} → Bool → A → List A
when true x = x ∷ []
when false x = []

abbrev pub chosen : {A : Type 0} → A → A → A → Bool → Bool → Bool → List A
chosen x y z a b c = when a x ++ (when b y ++ when c z)

pub data AreWidths : List ℤ → Tokens → Type 0 where
  some_widths : (a b c : Bool) → (a || b || c) ≡ true → AreWidths (chosen (pos 8) (pos 16) (pos 32) a b c) (chosen (codes "8") (codes "16") (codes "32") a b c)

-- ---- ranges
pub data IsRange : Number × Number → Tokens → Tokens → Type 0 where
  from_to : {lo hi : Number} {ts us vs : Tokens} → IsNumber 1 lo ts (codes "to" ∷ us) → IsNumber 1 hi us vs → IsRange (lo, hi) (codes "from" ∷ ts) vs

-- ---- paths
abbrev pub slash_sign : List ℕ → Option Bool
slash_sign w = if bytes_eq w (codes "/") then Some false else None

-- the number of a child, at most 255
pub data IsChild (minus : Bool) : ℕ → Tokens → Tokens → Type 0 where
  child_number : {w : List ℕ} {n : ℤ} {ts : Tokens} → int_of w ≡ Some n → int_le n (pos 255) ≡ true → IsChild minus (unsigned_abs n) (w ∷ ts) ts

pub data IsPath : List ℕ → Tokens → Tokens → Type 0 where
  root_path : {ts : Tokens} → IsPath [] (codes "/" ∷ ts) ts
  below_path : {ns : List ℕ} {ts us : Tokens} → AreParts slash_sign IsChild false ns ts us → IsPath ns (codes "/" ∷ ts) us

-- ---- lines
abbrev pub side_word : List ℕ → Option Bool
side_word w = if bytes_eq w (codes "l") then Some true else (if bytes_eq w (codes "r") then Some false else None)

-- what justifies a step: an axiom's word, or the name of a rule
pub data Cause : Type 0 where
  Axiom : List ℕ → Cause
  Use : List ℕ → Cause

-- only a file of format 2 uses rules
pub data IsCause (format : ℕ) : Cause → Tokens → Type 0 where
  by_axiom : {w : List ℕ} → is_word w ≡ true → IsCause format (Axiom w) (w ∷ [])
  by_rule : {n : List ℕ} → format ≡ 2 → is_rule_name n ≡ true → IsCause format (Use n) (codes "use" ∷ n ∷ [])

pub data Line : Type 0 where
  Blank : Line
  Rule : List ℕ → Line
  Widths : List ℤ → Line
  Shift : Number × Number → Line
  Var : VarDecl → Line
  Left : Written → Line
  Right : Written → Line
  Step : Bool → List ℕ → Cause → Line
  End : Line

abbrev pub var : List ℕ → PatType → Option (Number × Number) → VarDecl
var n ty range = record { name = n; ty = ty; range = range }

-- how deep round brackets of sides may be nested
unfoldable pub bracket_limit : ℕ
bracket_limit = 1024

-- a line behind the first
pub data IsLine (format : ℕ) (kind : Kind) : Line → Tokens → Type 0 where
  blank_line : IsLine format kind Blank []
  begins : {n : List ℕ} → is_rule_name n ≡ true → IsLine format kind (Rule n) (codes "rule" ∷ n ∷ [])
  has_widths : {ws : List ℤ} {ts : Tokens} → AreWidths ws ts → IsLine format kind (Widths ws) (codes "widths" ∷ ts)
  has_shift : {r : Number × Number} {ts : Tokens} → IsRange r ts [] → (is_free r.0 && is_free r.1) ≡ true → IsLine format kind (Shift r) (codes "shift" ∷ codes "k" ∷ ts)
  has_var : {n t : List ℕ} {ty : PatType} → is_variable n ≡ true → ptype_of t ≡ Some ty → IsLine format kind (Var (var n ty None)) (codes "var" ∷ n ∷ t ∷ [])
  has_ranged : {n t : List ℕ} {ty : PatType} {r : Number × Number} {ts : Tokens} → is_variable n ≡ true → ptype_of t ≡ Some ty → IsRange r ts [] → IsLine format kind (Var (var n ty (Some r))) (codes "var" ∷ n ∷ t ∷ ts)
  has_left : {p : Written} {ts : Tokens} → IsSide bracket_limit (Whole Operators) p ts [] → IsLine format kind (Left p) (codes "left" ∷ ts)
  has_right : {p : Written} {ts : Tokens} → IsSide bracket_limit (Whole (language_of kind)) p ts [] → IsLine format kind (Right p) (codes "right" ∷ ts)
  has_step : {w : List ℕ} {side : Bool} {path : List ℕ} {cause : Cause} {ts us : Tokens} → side_word w ≡ Some side → IsPath path ts us → IsCause format cause us → IsLine format kind (Step side path cause) (codes "step" ∷ w ∷ ts)
  ends : IsLine format kind End (codes "end" ∷ [])
