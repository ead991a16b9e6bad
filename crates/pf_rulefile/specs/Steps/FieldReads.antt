-- How the parts of lines are read.
use Rattle.std.specs.Prelude.{◌≡◌, ℕ, ℤ, pos, int_le, unsigned_abs, ◌==◌, List, [], ◌∷◌, Bool, true, false, ◌&&◌, ◌||◌, if◌then◌else◌, Option, Some, None, option_map, option_and_then, Result, Ok, Err, codes}
use Rattle.std.specs.Str.{bytes_eq}
use Rattle.pf_rules.specs.declared.number.Number.{Number}
use Rattle.pf_rules.specs.declared.pattern.PatType.{PatType}
use Rattle.pf_rules.specs.declared.rule.VarDecl.{VarDecl}
use Rattle.pf_rules.specs.declared.rule.RuleParts.{RuleParts}
use Rattle.pf_rules.specs.declared.rule.By.{By}
use Rattle.pf_rules.specs.declared.rule.By.TheVariants as by
use Rattle.pf_rules.specs.declared.rule.Kind.{Kind}
use Rattle.pf_rules.specs.Meaning.Rules.{is_free}
use Rattle.pf_rulefile.specs.declared.stop.Stop.{Stop}
use Rattle.pf_rulefile.specs.declared.stop.Stop.TheVariants.{Syntax, Memory}
use Rattle.pf_rulefile.specs.Meaning.Tokens.{int_of}
use Rattle.pf_rulefile.specs.Meaning.Words.{is_some, is_word, is_rule_name, is_variable, ptype_of}
use Rattle.pf_rulefile.specs.Steps.Fronts.{after, sign_by}
use Rattle.pf_rulefile.specs.Meaning.Lines.{slash_sign, side_word, kind_of, format_of, chosen, var, Cause, Axiom as AxiomWord, Use}
use Rattle.pf_rulefile.specs.Meaning.Says.{axiom_in, axioms, rule_place}
use Rattle.pf_rulefile.specs.Steps.NumberReads.{then_read, number_read, sum_read}
use Rattle.pf_rulefile.specs.Steps.SideReads.{on_behind}

-- the answer is what is read
abbrev pub GivesOnly : {A : Type 0} → Result A Stop → Option A → Type 0
GivesOnly (Ok x) answer = answer ≡ Some x
GivesOnly (Err Syntax) answer = answer ≡ None
GivesOnly (Err Memory) answer = Unit {0}

abbrev pub name_of : List ℕ → Option (List ℕ)
name_of w = if is_rule_name w then Some w else None

abbrev pub no_more : List (List ℕ) → Bool
no_more [] = true
no_more (t ∷ ts) = false

abbrev pub lone_name : List (List ℕ) → Option (List ℕ)
lone_name [] = None
lone_name (t ∷ ts) = if no_more ts then name_of t else None

-- ---- widths
abbrev pub optional_by : List (List ℕ) → Option (List (List ℕ)) → Bool × List (List ℕ)
optional_by ts (Some us) = (true, us)
optional_by ts None = (false, ts)

abbrev pub optional : List ℕ → List (List ℕ) → Bool × List (List ℕ)
optional w ts = optional_by ts (after w ts)

abbrev pub widths_of : Bool → Bool → Bool → List ℤ
widths_of a b c = chosen (pos 8) (pos 16) (pos 32) a b c

abbrev pub widths_by : Bool → Bool → Bool × List (List ℕ) → Option (List ℤ)
widths_by a b c = if no_more c.1 && (a || b || c.0) then Some (widths_of a b c.0) else None

abbrev pub later_widths : Bool → Bool × List (List ℕ) → Option (List ℤ)
later_widths a b = widths_by a b.0 (optional (codes "32") b.1)

abbrev pub behind_eight : Bool × List (List ℕ) → Option (List ℤ)
behind_eight a = later_widths a.0 (optional (codes "16") a.1)

abbrev pub widths_read : List (List ℕ) → Option (List ℤ)
widths_read ts = behind_eight (optional (codes "8") ts)

-- ---- ranges
abbrev pub range_read : ℕ → List (List ℕ) → Option ((Number × Number) × List (List ℕ))
range_read most ts =
    on_behind (after (codes "from") ts) (λ us. then_read (number_read most 1 us) (λ lo vs. on_behind (after (codes "to") vs) (λ ws. option_map (λ q. ((lo, q.0), q.1)) (number_read most 1 ws))))

abbrev pub free_range : Number × Number → Bool
free_range r = is_free r.0 && is_free r.1

abbrev pub shift_read : ℕ → List (List ℕ) → Option (Number × Number)
shift_read most ts = on_behind (after (codes "k") ts) (λ us. then_read (range_read most us) (λ r vs. if no_more vs && is_free r.0 && is_free r.1 then Some r else None))

-- ---- variables
abbrev pub typed_name : List ℕ → List (List ℕ) → Option ((List ℕ × PatType) × List (List ℕ))
typed_name n [] = None
typed_name n (t ∷ ts) = option_map (λ ty. ((n, ty), ts)) (ptype_of t)

abbrev pub var_head : List (List ℕ) → Option ((List ℕ × PatType) × List (List ℕ))
var_head [] = None
var_head (t ∷ ts) = if is_variable t then option_and_then (λ n. typed_name n ts) (name_of t) else None

abbrev pub var_read : ℕ → List (List ℕ) → Option VarDecl
var_read most ts =
    then_read (var_head ts) (λ h us. if no_more us then Some (var h.0 h.1 None) else then_read (range_read most us) (λ r vs. if no_more vs then Some (var h.0 h.1 (Some r)) else None))

-- ---- paths
abbrev pub child_by : List (List ℕ) → ℤ → Option (ℕ × List (List ℕ))
child_by ts n = if int_le n (pos 255) then Some (unsigned_abs n, ts) else None

abbrev pub child_read : List (List ℕ) → Option (ℕ × List (List ℕ))
child_read [] = None
child_read (t ∷ ts) = option_and_then (child_by ts) (int_of t)

abbrev pub child_part : Bool → List (List ℕ) → Option (ℕ × List (List ℕ))
child_part minus ts = child_read ts

abbrev pub children_read : ℕ → List (List ℕ) → Option (List ℕ × List (List ℕ))
children_read most ts = sum_read (sign_by slash_sign) child_part most false ts

abbrev pub begins_int : List (List ℕ) → Bool
begins_int [] = false
begins_int (t ∷ ts) = is_some (int_of t)

abbrev pub path_at : ℕ → List (List ℕ) → Option (List ℕ × List (List ℕ))
path_at most ts = if begins_int ts then children_read most ts else Some ([], ts)

abbrev pub path_read : ℕ → List (List ℕ) → Option (List ℕ × List (List ℕ))
path_read most ts = on_behind (after (codes "/") ts) (path_at most)

abbrev pub axiom_by : List ℕ → Option (Option By)
axiom_by w = if is_word w then Some (option_map by.Axiom (axiom_in axioms w)) else None

abbrev pub used_by : List RuleParts → Option (List ℕ) → Option (Option By)
used_by rules None = None
used_by rules (Some n) = Some (option_map by.Rule (rule_place 0 rules n))

abbrev pub by_read : ℕ → List RuleParts → List (List ℕ) → Option (Option By)
by_read format rules [] = None
by_read format rules (t ∷ ts) = if no_more ts then axiom_by t else (if format == 2 && bytes_eq t (codes "use") then used_by rules (lone_name ts) else None)

-- an axiom's word or a rule's name
abbrev pub cause_read : ℕ → List (List ℕ) → Option Cause
cause_read format [] = None
cause_read format (t ∷ ts) = if no_more ts then (if is_word t then Some (AxiomWord t) else None) else (if format == 2 && bytes_eq t (codes "use") then option_map Use (lone_name ts) else None)

abbrev pub step_side : List (List ℕ) → Option (Bool × List (List ℕ))
step_side [] = None
step_side (t ∷ ts) = option_map (λ left. (left, ts)) (side_word t)

abbrev pub kind_read : ℕ → List (List ℕ) → Option (ℕ × Kind)
kind_read format [] = None
kind_read format (t ∷ ts) = option_and_then (λ kind. if no_more ts then Some (format, kind) else None) (kind_of t)

abbrev pub format_read : List (List ℕ) → Option (ℕ × Kind)
format_read [] = None
format_read (t ∷ ts) = option_and_then (λ format. kind_read format ts) (format_of t)

abbrev pub header_of : List (List ℕ) → Option (ℕ × Kind)
header_of ts = option_and_then format_read (after (codes "rules") ts)
