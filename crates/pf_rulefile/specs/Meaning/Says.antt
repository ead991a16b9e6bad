-- What the lines of a file of rules say, one behind the other, and which fault of a line is told.
use Rattle.std.specs.Prelude.{ℕ, zero, suc, ◌+◌, ◌==◌, nat_le, List, [], ◌∷◌, ◌++◌, length, Bool, true, false, not, ◌&&◌, ◌||◌, if◌then◌else◌, Option, Some, None, option_map, Result, Ok, Err}
use Rattle.std.specs.Str.{bytes_eq}
use Rattle.pf_forms.specs.declared.axioms.Axiom.{Axiom}
use Rattle.pf_forms.specs.declared.axioms.Axiom.TheVariants as law
use Rattle.pf_forms.specs.Meaning.Axioms.{axiom_name}
use Rattle.pf_rules.specs.declared.pattern.Pattern.{Pattern}
use Rattle.pf_rules.specs.declared.pattern.Pattern.TheVariants as pattern
use Rattle.pf_rules.specs.declared.rule.VarDecl.{VarDecl}
use Rattle.pf_rules.specs.declared.rule.RuleParts.{RuleParts}
use Rattle.pf_rules.specs.declared.rule.By.{By}
use Rattle.pf_rules.specs.declared.rule.By.TheVariants as by
use Rattle.pf_rules.specs.declared.rule.Step.{Step as StepParts}
use Rattle.pf_rules.specs.Meaning.Rules.{is_free, is_free_amount, is_free_shift, is_rule}
use Rattle.pf_rulefile.specs.declared.fault.RuleTextKind.{RuleTextKind}
use Rattle.pf_rulefile.specs.declared.fault.RuleTextKind.TheVariants as fault
use Rattle.pf_rulefile.specs.declared.line.Open.{Open}
use Rattle.pf_rulefile.specs.declared.reading.Reading.{Reading}
use Rattle.pf_rulefile.specs.Meaning.Words.{is_some}
use Rattle.pf_rulefile.specs.Meaning.Grammar.{Written, Name, Typed, Pair, Node, Lane}
use Rattle.pf_rulefile.specs.Meaning.Lines.{Cause, Axiom as AxiomOf, Use, Line, Blank, Rule, Widths, Shift, Var, Left, Right, Step, End}

-- ---- names
-- the number of the first variable of this name, the first of them being n
abbrev pub place_in : ℕ → List VarDecl → List ℕ → Option ℕ
place_in n [] w = None
place_in n (d ∷ ds) w = if bytes_eq d.name w then Some n else place_in (n + 1) ds w

-- the number of the first rule of this name, the first of them being n
abbrev pub rule_place : ℕ → List RuleParts → List ℕ → Option ℕ
rule_place n [] w = None
rule_place n (r ∷ rs) w = if bytes_eq r.name w then Some n else rule_place (n + 1) rs w

abbrev pub axiom_in : List Axiom → List ℕ → Option Axiom
axiom_in [] w = None
axiom_in (a ∷ rest) w = if bytes_eq (axiom_name a) w then Some a else axiom_in rest w

abbrev pub axioms : List Axiom
axioms = law.AddComm ∷ law.AddAssoc ∷ law.AddBack ∷ law.AddZero ∷ law.SubAdd ∷ law.Cancel ∷ law.MulComm ∷ law.MulAssoc ∷ law.MulBack ∷ law.MulOne ∷ law.Distribute ∷ law.Fold ∷ law.DropWrap ∷ law.WrapWrap ∷ law.WrapAdd ∷ law.WrapMul ∷ law.MulZero ∷ law.Factor ∷ law.PowNum ∷ law.NumPow ∷ law.PowAdd ∷ law.DivOne ∷ law.DivDiv ∷ law.DivScale ∷ law.DivOut ∷ law.DivIn ∷ law.DivInner ∷ law.NegDiv ∷ law.DivZero ∷ law.DivNeg ∷ law.DropSat ∷ law.SatClamp ∷ law.SatSat ∷ law.SatHigh ∷ law.SatLow ∷ law.MinComm ∷ law.MaxComm ∷ law.MinLeft ∷ law.MaxLeft ∷ law.MinAdd ∷ law.MaxAdd ∷ law.MinDiv ∷ law.MaxDiv ∷ law.SelMax ∷ law.SelMin ∷ law.SelSame ∷ law.MaxMinAbs ∷ law.AbsPos ∷ law.AbsNeg ∷ []

-- ---- what is said of a side
abbrev pub nodes : Written → ℕ
nodes (Name w) = 1
nodes (Typed n ty) = 1
nodes (Pair a b) = nodes a + nodes b
nodes (Node op to k args) = nodes args + 1
nodes (Lane op to k args) = nodes args + 1

-- a variable or a number alone
abbrev pub is_bare : Written → Bool
is_bare (Name w) = true
is_bare (Typed n ty) = true
is_bare _ = false

abbrev pub has_k : Written → Bool
has_k (Name w) = false
has_k (Typed n ty) = not (is_free n)
has_k (Pair a b) = has_k a || has_k b
has_k (Node op to k args) = has_k args || not (is_free_amount k)
has_k (Lane op to k args) = has_k args || not (is_free_amount k)

-- a name in it isn't declared, or a lane operation in it there isn't
abbrev pub is_unknown : List VarDecl → Written → Bool
is_unknown vars (Name w) = not (is_some (place_in 0 vars w))
is_unknown vars (Typed n ty) = false
is_unknown vars (Pair a b) = is_unknown vars a || is_unknown vars b
is_unknown vars (Node op to k args) = is_unknown vars args
is_unknown vars (Lane op to k args) = is_unknown vars args || not (is_some op)

abbrev pub is_number : ℕ → Option ℕ → Bool
is_number n None = false
is_number n (Some m) = m == n

-- variable n stands in it
abbrev pub stands : List VarDecl → ℕ → Written → Bool
stands vars n (Name w) = is_number n (place_in 0 vars w)
stands vars n (Typed m ty) = false
stands vars n (Pair a b) = stands vars n a || stands vars n b
stands vars n (Node op to k args) = stands vars n args
stands vars n (Lane op to k args) = stands vars n args

-- the first so many variables stand in it
abbrev pub all_stand : List VarDecl → ℕ → Written → Bool
all_stand vars zero p = true
all_stand vars (suc n) p = stands vars n p && all_stand vars n p

abbrev pub variable : Option ℕ → List Pattern
variable None = []
variable (Some n) = pattern.Var n ∷ []

-- the patterns of operands, by the numbers of the declared variables
abbrev pub patterns : List VarDecl → Written → List Pattern
patterns vars (Name w) = variable (place_in 0 vars w)
patterns vars (Typed n ty) = pattern.Const n ty ∷ []
patterns vars (Pair a b) = patterns vars a ++ patterns vars b
patterns vars (Node op to k args) = pattern.Node op to k (patterns vars args) ∷ []
patterns vars (Lane None to k args) = []
patterns vars (Lane (Some op) to k args) = pattern.Lane op to k (patterns vars args) ∷ []

abbrev pub one_pattern : List Pattern → Option Pattern
one_pattern (p ∷ []) = Some p
one_pattern _ = None

-- the pattern of a side of at most 64 nodes
abbrev pub pattern_of : List VarDecl → Written → Option Pattern
pattern_of vars p = if nat_le (nodes p) 64 then one_pattern (patterns vars p) else None

-- ---- lines of a rule, by what those before it say
abbrev pub or_syntax : {A B : Type 0} → Option A → (A → Result B RuleTextKind) → Result B RuleTextKind
or_syntax None f = Err fault.Syntax
or_syntax (Some x) f = f x

abbrev pub or_limit : {A B : Type 0} → Option A → (A → B) → Result B RuleTextKind
or_limit None f = Err fault.Limit
or_limit (Some x) f = Ok (f x)

-- behind the widths; a shift range stands there before all variables
abbrev pub may_shift : Open → Bool
may_shift o = is_some o.widths && not (is_some o.shift) && (length o.vars == 0) && not (is_some o.lhs)

abbrev pub may_var : Open → Bool
may_var o = is_some o.widths && not (is_some o.lhs)

-- where no shift is stated, k stands nowhere
abbrev pub added_var : Open → VarDecl → Result Open RuleTextKind
added_var o d =
    if not (is_some o.shift) && not (is_free_shift d.range) then Err fault.Syntax else (if is_some (place_in 0 o.vars d.name) then Err fault.Name
    else (if nat_le 8 (length o.vars) then Err fault.Limit else Ok (record o { vars = o.vars ++ d ∷ [] })))

abbrev pub differs : Bool → Bool → Bool
differs true b = not b
differs false b = b

abbrev pub added_left : Open → Written → Result Open RuleTextKind
added_left o p =
    if is_bare p || differs (has_k p) (is_some o.shift) then Err fault.Syntax else (if is_unknown o.vars p then Err fault.Name
    else (if all_stand o.vars (length o.vars) p then or_limit (pattern_of o.vars p) (λ x. record o { lhs = Some x }) else Err fault.Unbound))

abbrev pub added_right : Open → Written → Result Open RuleTextKind
added_right o p =
    if has_k p && not (is_some o.shift) then Err fault.Syntax else (if is_unknown o.vars p then Err fault.Name else or_limit (pattern_of o.vars p) (λ x. record o { rhs = Some x }))

abbrev pub by_of : List RuleParts → Cause → Option By
by_of rules (AxiomOf w) = option_map by.Axiom (axiom_in axioms w)
by_of rules (Use n) = option_map by.Rule (rule_place 0 rules n)

abbrev pub added_step : Open → StepParts → Result Open RuleTextKind
added_step o s = if nat_le 512 (length o.steps) then Err fault.Limit else Ok (record o { steps = o.steps ++ s ∷ [] })

abbrev pub step_by : Open → Bool × List ℕ → Option By → Result Open RuleTextKind
step_by o place None = Err fault.Name
step_by o place (Some by) = added_step o (record { left = place.0; path = place.1; by = by })

abbrev pub where_may : Bool → Result Open RuleTextKind → Result Open RuleTextKind
where_may may r = if may then r else Err fault.Syntax

-- what is said of a rule with one more of its lines
abbrev pub inside : List RuleParts → Open → Line → Result Open RuleTextKind
inside rules o (Widths ws) = where_may (not (is_some o.widths)) (Ok (record o { widths = Some ws }))
inside rules o (Shift r) = where_may (may_shift o) (Ok (record o { shift = Some r }))
inside rules o (Var d) = where_may (may_var o) (added_var o d)
inside rules o (Left p) = where_may (may_var o) (added_left o p)
inside rules o (Right p) = where_may (is_some o.lhs && not (is_some o.rhs)) (added_right o p)
inside rules o (Step left path cause) = where_may (is_some o.rhs) (step_by o (left, path) (by_of rules cause))
inside rules o _ = Err fault.Syntax

-- ---- lines of a file
abbrev pub nothing : Reading
nothing = record { rules = []; current = None }

abbrev pub begun : List ℕ → Open
begun n = record { name = n; widths = None; shift = None; vars = []; lhs = None; rhs = None; steps = [] }

abbrev pub reading : List RuleParts → Option Open → Reading
reading rules current = record { rules = rules; current = current }

abbrev pub opened : Reading → List ℕ → Result Reading RuleTextKind
opened r n = if is_some (rule_place 0 r.rules n) then Err fault.Name else (if nat_le 1024 (length r.rules) then Err fault.Limit else Ok (reading r.rules (Some (begun n))))

abbrev pub on_some : {A B : Type 0} → Option A → (A → Option B) → Option B
on_some None f = None
on_some (Some x) f = f x

abbrev pub rule_of : Open → Option RuleParts
rule_of o = on_some o.widths (λ ws. on_some o.lhs (λ l. on_some o.rhs (λ r. Some (record { name = o.name; widths = ws; shift = o.shift; vars = o.vars; lhs = l; rhs = r; steps = o.steps }))))

abbrev pub added_rule : List RuleParts → RuleParts → Result Reading RuleTextKind
added_rule rs r = if nat_le 1024 (length rs) then Err fault.Limit else (if is_rule r then Ok (reading (rs ++ r ∷ []) None) else Err fault.Syntax)

abbrev pub still_open : List RuleParts → Result Open RuleTextKind → Result Reading RuleTextKind
still_open rules (Ok o) = Ok (reading rules (Some o))
still_open rules (Err k) = Err k

-- what is said with one more line, or its fault
abbrev pub says : Reading → Line → Result Reading RuleTextKind
says r Blank = Ok r
says r (Rule n) = if is_some r.current then Err fault.Syntax else opened r n
says r End = or_syntax r.current (λ o. or_syntax (rule_of o) (added_rule r.rules))
says r line = or_syntax r.current (λ o. still_open r.rules (inside r.rules o line))
