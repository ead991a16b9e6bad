-- What the lines of a rule say, and the first fault of each.
use Rattle.std.specs.Prelude.{◌≡◌, ℕ, zero, suc, List, [], ◌∷◌, length, Bool, true, not, ◌&&◌, ◌||◌, if◌then◌else◌, Option, Some, None, option_map, Result, Ok, Err, codes}
use Rattle.std.specs.Str.{bytes_eq}
use Rattle.pf_rules.specs.declared.pattern.Pattern.{Pattern}
use Rattle.pf_rules.specs.declared.rule.VarDecl.{VarDecl}
use Rattle.pf_rules.specs.declared.rule.RuleParts.{RuleParts}
use Rattle.pf_rules.specs.declared.rule.Kind.{Kind}
use Rattle.pf_rulefile.specs.declared.stop.Stop.{Stop}
use Rattle.pf_rulefile.specs.declared.stop.Stop.TheVariants as stop
use Rattle.pf_rulefile.specs.declared.fault.RuleTextKind.{RuleTextKind}
use Rattle.pf_rulefile.specs.declared.fault.RuleTextKind.TheVariants as fault
use Rattle.pf_rulefile.specs.declared.fault.LineStop.{LineStop}
use Rattle.pf_rulefile.specs.declared.fault.LineStop.TheVariants.{Told, Memory}
use Rattle.pf_rulefile.specs.declared.part.Part.{Part}
use Rattle.pf_rulefile.specs.declared.line.Open.{Open}
use Rattle.pf_rulefile.specs.declared.word.Language.{Language}
use Rattle.pf_rulefile.specs.declared.word.Language.TheVariants.{Operators}
use Rattle.pf_rulefile.specs.Meaning.Words.{is_some, language_of}
use Rattle.pf_rulefile.specs.Meaning.Grammar.{Written, Name, Typed, Pair, Node, Lane}
use Rattle.pf_rulefile.specs.Meaning.Lines.{Line, Blank, Rule as RuleOf, Widths as WidthsOf, Shift as ShiftOf, Var as VarOf, Left as LeftOf, Right as RightOf, Step as StepOf, End}
use Rattle.pf_rulefile.specs.Steps.NumberReads.{then_read}
use Rattle.pf_rulefile.specs.Meaning.Says.{or_syntax, or_limit, may_shift, may_var, added_var, differs, step_by}
use Rattle.pf_rulefile.specs.Steps.Parts.{parts, used}
use Rattle.pf_rulefile.specs.Steps.SideReads.{Algebra, side_read}
use Rattle.pf_rulefile.specs.Steps.FieldReads.{no_more, lone_name, cause_read, widths_read, shift_read, var_read, step_side, path_read, by_read}

abbrev pub line_stop : Stop → LineStop
line_stop stop.Syntax = Told fault.Syntax
line_stop stop.Memory = Memory

-- the answer is what is read, or the fault
abbrev pub GivesLine : {A : Type 0} → Result A LineStop → Result A RuleTextKind → Type 0
GivesLine (Ok x) answer = answer ≡ Ok x
GivesLine (Err (Told kind)) answer = answer ≡ Err kind
GivesLine (Err Memory) answer = Unit {0}

-- ---- sides
abbrev pub all_of : {P : Type 0} → Option (P × List (List ℕ)) → Option P
all_of None = None
all_of (Some p) = if no_more p.1 then Some p.0 else None

unfoldable pub depth_limit : ℕ
depth_limit = 1025

abbrev pub whole_side : Language → ℕ → List VarDecl → List (List ℕ) → Option Part
whole_side l most vars ts = all_of (side_read (parts vars) most l depth_limit ts)

abbrev pub all_used : ℕ → List Bool → Bool
all_used zero us = true
all_used (suc n) us = used us n && all_used n us

abbrev pub kept : Option (List Pattern) → Option Pattern
kept (Some (p ∷ [])) = Some p
kept _ = None

-- ---- lines, `most` being the bytes of the line
abbrev pub widths_line : Open → List (List ℕ) → Result Open RuleTextKind
widths_line o ts = if not (is_some o.widths) then or_syntax (widths_read ts) (λ ws. Ok (record o { widths = Some ws })) else Err fault.Syntax

abbrev pub shift_line : ℕ → Open → List (List ℕ) → Result Open RuleTextKind
shift_line most o ts = if may_shift o then or_syntax (shift_read most ts) (λ r. Ok (record o { shift = Some r })) else Err fault.Syntax

abbrev pub var_line : ℕ → Open → List (List ℕ) → Result Open RuleTextKind
var_line most o ts = if may_var o then or_syntax (var_read most ts) (added_var o) else Err fault.Syntax

abbrev pub left_part : Open → Part → Result Open RuleTextKind
left_part o p =
    if p.bare || differs p.has_k (is_some o.shift) then Err fault.Syntax else (if p.unknown then Err fault.Name
    else (if all_used (length o.vars) p.used then or_limit (kept p.patterns) (λ x. record o { lhs = Some x }) else Err fault.Unbound))

abbrev pub left_line : ℕ → Open → List (List ℕ) → Result Open RuleTextKind
left_line most o ts = if may_var o then or_syntax (whole_side Operators most o.vars ts) (left_part o) else Err fault.Syntax

abbrev pub right_part : Open → Part → Result Open RuleTextKind
right_part o p =
    if p.has_k && not (is_some o.shift) then Err fault.Syntax else (if p.unknown then Err fault.Name else or_limit (kept p.patterns) (λ x. record o { rhs = Some x }))

abbrev pub right_line : Kind → ℕ → Open → List (List ℕ) → Result Open RuleTextKind
right_line kind most o ts = if is_some o.lhs && not (is_some o.rhs) then or_syntax (whole_side (language_of kind) most o.vars ts) (right_part o) else Err fault.Syntax

abbrev pub step_place : ℕ → List (List ℕ) → Option ((Bool × List ℕ) × List (List ℕ))
step_place most ts = then_read (step_side ts) (λ left us. option_map (λ q. ((left, q.0), q.1)) (path_read most us))

abbrev pub step_line : ℕ → List RuleParts → ℕ → Open → List (List ℕ) → Result Open RuleTextKind
step_line format rules most o ts =
    if is_some o.rhs then or_syntax (step_place most ts) (λ p. or_syntax (by_read format rules p.1) (step_by o p.0)) else Err fault.Syntax

-- ---- what lines are by themselves
-- expressions as they are
abbrev pub trees : Algebra Written
trees = record { name = Name; typed = Typed; join = Pair; node = Node; lane = Lane }

abbrev pub tree_read : Language → ℕ → List (List ℕ) → Option Written
tree_read l most ts = all_of (side_read trees most l depth_limit ts)

abbrev pub step_read : ℕ → ℕ → List (List ℕ) → Option Line
step_read format most ts = then_read (step_place most ts) (λ p us. option_map (StepOf p.0 p.1) (cause_read format us))

abbrev pub inner_line : ℕ → Kind → ℕ → List ℕ → List (List ℕ) → Option Line
inner_line format kind most word ts =
    if bytes_eq word (codes "widths") then option_map WidthsOf (widths_read ts) else (if bytes_eq word (codes "shift") then option_map ShiftOf (shift_read most ts) else (if bytes_eq word (codes "var") then option_map VarOf (var_read most ts)
    else (if bytes_eq word (codes "left") then option_map LeftOf (tree_read Operators most ts) else (if bytes_eq word (codes "right") then option_map RightOf (tree_read (language_of kind) most ts)
    else (if bytes_eq word (codes "step") then step_read format most ts else None)))))

abbrev pub line_of : ℕ → Kind → ℕ → List (List ℕ) → Option Line
line_of format kind most [] = Some Blank
line_of format kind most (t ∷ ts) =
    if bytes_eq t (codes "rule") then option_map RuleOf (lone_name ts) else (if bytes_eq t (codes "end") then (if no_more ts then Some End else None) else inner_line format kind most t ts)
