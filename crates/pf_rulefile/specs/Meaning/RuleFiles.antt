-- Which texts are files of rules, and the first fault of any other text.
use Rattle.std.specs.Prelude.{◌≡◌, ℕ, ◌+◌, ◌≤◌, ◌<◌, List, ◌∷◌, length, take, nat_lt, Bool, true, not, ◌||◌, ◌==◌, if◌then◌else◌, None, Ok, Err}
use Rattle.std.specs.List.{before_first}
use Rattle.std.specs.Str.Lines.{lines}
use Rattle.pf_text.specs.Meaning.FirstFaults.{Steps, IsFirstFault}
use Rattle.pf_rules.specs.declared.rule.Kind.{Kind}
use Rattle.pf_rules.specs.declared.rule_file.FileParts.{FileParts}
use Rattle.pf_rules.specs.Meaning.Files.{is_file}
use Rattle.pf_rulefile.specs.declared.fault.RuleTextKind.{RuleTextKind}
use Rattle.pf_rulefile.specs.declared.fault.RuleTextKind.TheVariants.{Header, Syntax, Limit}
use Rattle.pf_rulefile.specs.declared.fault.RuleTextFault.{RuleTextFault}
use Rattle.pf_rulefile.specs.declared.fault.RuleTextFault.TheVariants.{At, Memory}
use Rattle.pf_rulefile.specs.declared.reading.Reading.{Reading}
use Rattle.pf_rulefile.specs.Meaning.Tokens.{tokens}
use Rattle.pf_rulefile.specs.Meaning.Words.{is_some}
use Rattle.pf_rulefile.specs.Meaning.Lines.{IsHeader, Line, IsLine}
use Rattle.pf_rulefile.specs.Meaning.Says.{nothing, reading, says}

-- a line up to its comment
abbrev pub uncommented : List ℕ → List ℕ
uncommented line = before_first (λ c. c == 35) line

abbrev pub line_tokens : List ℕ → List (List ℕ)
line_tokens line = tokens (uncommented line)

module _ (format : ℕ) (kind : Kind) where
  -- with the line there is said this
  pub record IsStep (r : Reading) (line : List ℕ) (s : Reading) : Type 0 where
    pub said : Line
    pub spelled : IsLine format kind said (line_tokens line)
    pub next : says r said ≡ Ok s

  -- the line says what it may not there, or is none of the grammar
  pub data IsLineFault (r : Reading) (line : List ℕ) : RuleTextKind → Type 0 where
    says_fault : (l : Line) (k : RuleTextKind) → IsLine format kind l (line_tokens line) → says r l ≡ Err k → IsLineFault r line k
    no_line : ((l : Line) → IsLine format kind l (line_tokens line) → ⊥) → IsLineFault r line Syntax

-- how many bytes a text may have
unfoldable pub byte_limit : ℕ
byte_limit = 2097152

-- a text with too many bytes is judged on one byte more than it may have
abbrev pub judged : List ℕ → List ℕ
judged text = if nat_lt byte_limit (length text) then take (byte_limit + 1) text else text

abbrev pub file : ℕ → Kind → Reading → FileParts
file format kind r = record { format = format; kind = kind; rules = r.rules }

-- the text is one of the file
pub record IsRules (text : List ℕ) (f : FileParts) : Type 0 where
  pub short : length text ≤ byte_limit
  pub first : List ℕ
  pub rest : List (List ℕ)
  pub are_lines : lines text ≡ first ∷ rest
  pub header : IsHeader f.format f.kind (line_tokens first)
  pub read : Steps (IsStep f.format f.kind) nothing rest (reading f.rules None)
  pub kept : is_file f ≡ true

-- a rule isn't whole
abbrev pub is_inside : ℕ → Kind → Reading → Bool
is_inside format kind r = is_some r.current || not (is_file (file format kind r))

abbrev pub HasHeader : ℕ → Kind → List (List ℕ) → List (List ℕ) → Type 0
HasHeader format kind ls rest = (first : List ℕ) × (ls ≡ first ∷ rest) × IsHeader format kind (line_tokens first)

-- the text is no file's, and this is the line of its first fault, counted from 1, and what that breaks
pub data IsRulesFault (text : List ℕ) : ℕ → RuleTextKind → Type 0 where
  no_header : ((format : ℕ) (kind : Kind) (rest : List (List ℕ)) → HasHeader format kind (lines (judged text)) rest → ⊥) → IsRulesFault text 1 Header
  in_line : (format : ℕ) (kind : Kind) (rest : List (List ℕ)) (n : ℕ) (k : RuleTextKind) → HasHeader format kind (lines (judged text)) rest →
      IsFirstFault (IsStep format kind) (IsLineFault format kind) nothing rest n k → IsRulesFault text (n + 2) k
  too_long : (format : ℕ) (kind : Kind) (rest : List (List ℕ)) (r : Reading) → byte_limit < length text → HasHeader format kind (lines (judged text)) rest →
      Steps (IsStep format kind) nothing rest r → IsRulesFault text (length rest + 1) Limit
  ends_early : (format : ℕ) (kind : Kind) (rest : List (List ℕ)) (r : Reading) → length text ≤ byte_limit → HasHeader format kind (lines (judged text)) rest →
      Steps (IsStep format kind) nothing rest r → is_inside format kind r ≡ true → IsRulesFault text (length rest + 2) Syntax

-- the same of a fault; want of memory is none of a text
abbrev pub IsFaultOf : List ℕ → RuleTextFault → Type 0
IsFaultOf text (At line kind) = IsRulesFault text line kind
IsFaultOf text Memory = ⊥
