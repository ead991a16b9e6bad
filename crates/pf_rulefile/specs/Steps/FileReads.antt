-- What the lines of a file say, one after another, and the first fault.
use Rattle.std.specs.Prelude.{◌≡◌, ℕ, ◌+◌, ◌-◌, ◌≤◌, nat_lt, List, [], ◌∷◌, length, take, Bool, true, false, if◌then◌else◌, Option, Some, None, MatchOption, Result, Ok, Err, codes}
use Rattle.std.specs.Str.{bytes_eq}
use Rattle.std.specs.Str.Lines.{lines}
use Rattle.pf_rules.specs.declared.rule.RuleParts.{RuleParts}
use Rattle.pf_rules.specs.declared.rule.Kind.{Kind}
use Rattle.pf_rules.specs.declared.rule_file.FileParts.{FileParts}
use Rattle.pf_rulefile.specs.declared.fault.RuleTextKind.{RuleTextKind}
use Rattle.pf_rulefile.specs.declared.fault.RuleTextKind.TheVariants.{Header, Syntax, Limit}
use Rattle.pf_rulefile.specs.declared.fault.RuleTextFault.{RuleTextFault}
use Rattle.pf_rulefile.specs.declared.fault.RuleTextFault.TheVariants.{At, Memory}
use Rattle.pf_rulefile.specs.declared.line.Open.{Open}
use Rattle.pf_rulefile.specs.declared.reading.Reading.{Reading}
use Rattle.pf_rulefile.specs.Meaning.Tokens.{tokens}
use Rattle.pf_rulefile.specs.Meaning.Words.{is_some}
use Rattle.pf_rulefile.specs.Meaning.Says.{or_syntax, nothing, opened, rule_of, added_rule}
use Rattle.pf_rulefile.specs.Meaning.RuleFiles.{uncommented, byte_limit, file, is_inside}
use Rattle.pf_rulefile.specs.Steps.FieldReads.{no_more, lone_name, header_of}
use Rattle.pf_rulefile.specs.Steps.LineReads.{widths_line, shift_line, var_line, left_line, right_line, step_line}

-- what is kept while a file is read
pub record IsReading (r : Reading) : Type 0 where
  pub few : length r.rules ≤ 1024
  pub vars : MatchOption r.current (Unit {0}) (λ o. length o.vars ≤ 8)

-- reading goes on with what was read
abbrev pub then_line : {A B : Type 0} → Result A RuleTextKind → (A → Result B RuleTextKind) → Result B RuleTextKind
then_line (Ok x) f = f x
then_line (Err k) f = Err k

abbrev pub rule_line : Reading → List (List ℕ) → Result Reading RuleTextKind
rule_line r ts = if is_some r.current then Err Syntax else or_syntax (lone_name ts) (opened r)

abbrev pub end_line : Reading → List (List ℕ) → Result Reading RuleTextKind
end_line r ts = if no_more ts then or_syntax r.current (λ o. or_syntax (rule_of o) (added_rule r.rules)) else Err Syntax

abbrev pub inside : ℕ → Kind → ℕ → List RuleParts → Open → List ℕ → List (List ℕ) → Result Open RuleTextKind
inside format kind most rules o word ts =
    if bytes_eq word (codes "widths") then widths_line o ts else (if bytes_eq word (codes "shift") then shift_line most o ts else (if bytes_eq word (codes "var") then var_line most o ts
    else (if bytes_eq word (codes "left") then left_line most o ts else (if bytes_eq word (codes "right") then right_line kind most o ts
    else (if bytes_eq word (codes "step") then step_line format rules most o ts else Err Syntax)))))

abbrev pub inside_reading : ℕ → Kind → ℕ → Reading → List ℕ → List (List ℕ) → Result Reading RuleTextKind
inside_reading format kind most r word ts = or_syntax r.current (λ o. then_line (inside format kind most r.rules o word ts) (λ p. Ok (record { rules = r.rules; current = Some p })))

abbrev pub words_read : ℕ → Kind → ℕ → Reading → List (List ℕ) → Result Reading RuleTextKind
words_read format kind most r [] = Ok r
words_read format kind most r (t ∷ ts) =
    if bytes_eq t (codes "rule") then rule_line r ts else (if bytes_eq t (codes "end") then end_line r ts else inside_reading format kind most r t ts)

unfoldable pub line_read : ℕ → Kind → Reading → List ℕ → Result Reading RuleTextKind
line_read format kind r line = words_read format kind (length (uncommented line)) r (tokens (uncommented line))

-- ---- files
abbrev pub numbered : {A : Type 0} → ℕ → Result A RuleTextKind → Result A (ℕ × RuleTextKind)
numbered n (Ok x) = Ok x
numbered n (Err k) = Err (n, k)

abbrev pub next_read : ℕ → Kind → ℕ → Reading → List ℕ → Result Reading (ℕ × RuleTextKind)
next_read format kind n r line = numbered n (line_read format kind r line)

abbrev pub then_next : {A B : Type 0} → Result A (ℕ × RuleTextKind) → (A → Result B (ℕ × RuleTextKind)) → Result B (ℕ × RuleTextKind)
then_next (Ok x) f = f x
then_next (Err k) f = Err k

-- what was read behind the lines, the first of them being line n, and the number of the line behind them
abbrev pub lines_from : ℕ → Kind → ℕ → Reading → List (List ℕ) → Result (Reading × ℕ) (ℕ × RuleTextKind)
lines_from format kind n r [] = Ok (r, n)
lines_from format kind n r (l ∷ ls) = then_next (next_read format kind n r l) (λ s. lines_from format kind (n + 1) s ls)

-- a text that goes on passes the limit of bytes in its last line
abbrev pub finished : Bool → ℕ → Kind → Reading → ℕ → Result FileParts (ℕ × RuleTextKind)
finished true format kind r n = Err (n - 1, Limit)
finished false format kind r n = if is_inside format kind r then Err (n, Syntax) else Ok (file format kind r)

abbrev pub header_by : Option (ℕ × Kind) → (ℕ → Kind → Result FileParts (ℕ × RuleTextKind)) → Result FileParts (ℕ × RuleTextKind)
header_by None f = Err (1, Header)
header_by (Some h) f = f h.0 h.1

abbrev pub text_read : Bool → List (List ℕ) → Result FileParts (ℕ × RuleTextKind)
text_read is_long [] = Err (1, Header)
text_read is_long (l ∷ ls) =
    header_by (header_of (tokens (uncommented l))) (λ format kind. then_next (lines_from format kind 2 nothing ls) (λ p. finished is_long format kind p.0 p.1))

-- the file of a text, or the line of its first fault and this; a text with too many bytes is judged on one byte more than it may have
unfoldable pub rules_read : List ℕ → Result FileParts (ℕ × RuleTextKind)
rules_read text = if nat_lt byte_limit (length text) then text_read true (lines (take (byte_limit + 1) text)) else text_read false (lines text)

-- ---- answers
abbrev pub TellsLine : Result Reading RuleTextFault → Result Reading (ℕ × RuleTextKind) → Type 0
TellsLine (Ok x) answer = answer ≡ Ok x
TellsLine (Err (At line kind)) answer = answer ≡ Err (line, kind)
TellsLine (Err Memory) answer = Unit {0}

abbrev pub TellsLines : Result (Reading × ℕ) RuleTextFault → Result (Reading × ℕ) (ℕ × RuleTextKind) → Type 0
TellsLines (Ok x) answer = answer ≡ Ok x
TellsLines (Err (At line kind)) answer = answer ≡ Err (line, kind)
TellsLines (Err Memory) answer = Unit {0}

abbrev pub TellsFile : Result FileParts RuleTextFault → Result FileParts (ℕ × RuleTextKind) → Type 0
TellsFile (Ok x) answer = answer ≡ Ok x
TellsFile (Err (At line kind)) answer = answer ≡ Err (line, kind)
TellsFile (Err Memory) answer = Unit {0}
