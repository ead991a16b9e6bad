-- What is read of a line is what it says.
use Rattle.std.proofs.Common.{◌≡◌, refl, sym, ap, ◌∙◌, ℕ, ◌≤◌, List, [], ◌∷◌, length, Bool, true, false, arith}
use Rattle.std.specs.Prelude.{Option, Some, None, option_map, codes, if◌then◌else◌, ◌&&◌, not, ◌==◌, Result, Ok, Err, MatchOption}
use Rattle.std.specs.Str.{bytes_eq}
use Rattle.pf_rules.specs.declared.rule.VarDecl.{VarDecl}
use Rattle.pf_rules.specs.declared.rule.RuleParts.{RuleParts}
use Rattle.pf_rules.specs.declared.rule.By.{By}
use Rattle.pf_rules.specs.declared.rule.Kind.{Kind}
use Rattle.pf_rulefile.specs.declared.fault.RuleTextKind.{RuleTextKind}
use Rattle.pf_rulefile.specs.declared.fault.RuleTextKind.TheVariants as fault
use Rattle.pf_rulefile.specs.declared.part.Part.{Part}
use Rattle.pf_rulefile.specs.declared.line.Open.{Open}
use Rattle.pf_rulefile.specs.declared.reading.Reading.{Reading}
use Rattle.pf_rulefile.specs.declared.word.Language.{Language}
use Rattle.pf_rulefile.specs.declared.word.Language.TheVariants.{Operators}
use Rattle.pf_rulefile.specs.Meaning.Words.{is_some, is_word, language_of}
use Rattle.pf_rulefile.specs.Meaning.Grammar.{Tokens, Written}
use Rattle.pf_rulefile.specs.Meaning.Lines.{Cause, Axiom, Use, Line, Rule, Widths, Shift, Var, Left, Right, Step, End}
use Rattle.pf_rulefile.specs.Meaning.Says.{or_syntax, may_shift, may_var, added_var, added_left, added_right, by_of, step_by, where_may, still_open, says, opened, rule_of, added_rule}
use Rattle.pf_rulefile.specs.Steps.NumberReads.{then_read}
use Rattle.pf_rulefile.specs.Steps.SideReads.{made}
use Rattle.pf_rulefile.specs.Steps.Parts.{parts}
use Rattle.pf_rulefile.specs.Steps.FieldReads.{no_more, lone_name, widths_read, shift_read, var_read, by_read, cause_read, used_by}
use Rattle.pf_rulefile.specs.Steps.LineReads.{whole_side, widths_line, shift_line, var_line, left_part, left_line, right_part, right_line, step_place, step_line, tree_read, step_read, line_of}
use Rattle.pf_rulefile.specs.Steps.FileReads.{then_line, rule_line, end_line, words_read}
use Rattle.pf_rulefile.proofs.PartLaws.{left_same, right_same}
use Rattle.pf_rulefile.proofs.LineLaws.{side_found, side_again, tree_sound, tree_complete}

-- a side as it is kept, and as a tree
whole_same : (l : Language) (most : ℕ) (vars : List VarDecl) (ts : Tokens) → length ts ≤ most → whole_side l most vars ts ≡ option_map (made (parts vars)) (tree_read l most ts)
whole_same l most vars ts h = by (tree_read l most ts) (whole_side l most vars ts) refl refl
  where
    by : (a : Option Written) (b : _) → tree_read l most ts ≡ a → whole_side l most vars ts ≡ b → b ≡ option_map (made (parts vars)) a
    by (Some t) b ea eb = sym eb ∙ side_again (parts vars) l most ts t (tree_sound l most ts t ea) h
    by None None ea eb = refl
    by None (Some p) ea eb = absurd (let f = side_found (parts vars) l most ts p eb in let some : tree_read l most ts ≡ Some f.0 = tree_complete l most ts f.0 f.1 h in cc)

by_same : (format : ℕ) (rules : List RuleParts) (ts : Tokens) → by_read format rules ts ≡ option_map (by_of rules) (cause_read format ts)
by_same format rules [] = refl
by_same format rules (t ∷ ts) = by (no_more ts) (is_word t) (format == 2 && bytes_eq t (codes "use")) (lone_name ts)
  where
    by : (a b c : Bool) (n : Option (List ℕ)) →
        (if a then (if b then Some (by_of rules (Axiom t)) else None) else (if c then used_by rules n else None)) ≡ option_map (by_of rules) (if a then (if b then Some (Axiom t) else None) else (if c then option_map Use n else None))
    by true true c n = refl
    by true false c n = refl
    by false b true None = refl
    by false b true (Some n) = refl
    by false b false n = refl

module _ (r : Reading) where
  abbrev onward : Open → Result Reading RuleTextKind
  onward o = Ok (record { rules = r.rules; current = Some o })

  -- a line that may stand nowhere
  refused : (b : Bool) → then_line {B = Reading} (if b then Err fault.Syntax else Err fault.Syntax) onward ≡ Err fault.Syntax
  refused true = refl
  refused false = refl

  -- what lines of rules come to
  abbrev Inner : (Open → Result Open RuleTextKind) → Result Reading RuleTextKind
  Inner g = or_syntax r.current (λ o. then_line (g o) onward)

  opened_same : (e : Result Open RuleTextKind) → then_line e onward ≡ still_open r.rules e
  opened_same (Ok p) = refl
  opened_same (Err k) = refl

  chosen : (b : Bool) (g h : Open → Result Open RuleTextKind) (x y : Option Line) → Inner g ≡ or_syntax x (says r) → Inner h ≡ or_syntax y (says r) → Inner (λ o. if b then g o else h o) ≡ or_syntax (if b then x else y) (says r)
  chosen true g h x y e f = e
  chosen false g h x y e f = f

  module _ (X : Type 0) (F : X → Line) (may : Open → Bool) (f : Open → X → Result Open RuleTextKind) (agrees : (x : X) → says r (F x) ≡ or_syntax r.current (λ o. still_open r.rules (where_may (may o) (f o x)))) where
    on_field : (x : Option X) → Inner (λ o. if may o then or_syntax x (f o) else Err fault.Syntax) ≡ or_syntax (option_map F x) (says r)
    on_field None = by r.current
      where
        by : (c : Option Open) → or_syntax {B = Reading} c (λ o. then_line {B = Reading} (if may o then Err fault.Syntax else Err fault.Syntax) onward) ≡ Err fault.Syntax
        by None = refl
        by (Some o) = refused (may o)
    on_field (Some x) = by r.current ∙ sym (agrees x)
      where
        by : (c : Option Open) → or_syntax {B = Reading} c (λ o. then_line {B = Reading} (if may o then f o x else Err fault.Syntax) onward) ≡ or_syntax c (λ o. still_open r.rules (where_may (may o) (f o x)))
        by None = refl
        by (Some o) = opened_same (if may o then f o x else Err fault.Syntax)

  -- a step's place and its cause
  step_same : (format most : ℕ) (ts : Tokens) → Inner (λ o. step_line format r.rules most o ts) ≡ or_syntax (step_read format most ts) (says r)
  step_same format most ts = by (step_place most ts)
    where
      never : (c : Option Open) (g : Open → Bool) → or_syntax {B = Reading} c (λ o. then_line {B = Reading} (if g o then Err fault.Syntax else Err fault.Syntax) onward) ≡ Err fault.Syntax
      never None g = refl
      never (Some o) g = refused (g o)

      cause : (place : Bool × List ℕ) (c : Option Cause) → Inner (λ o. if is_some o.rhs then or_syntax (option_map (by_of r.rules) c) (step_by o place) else Err fault.Syntax) ≡ or_syntax (option_map (Step place.0 place.1) c) (says r)
      cause place None = never r.current (λ o. is_some o.rhs)
      cause place (Some c) = on_field Cause (Step place.0 place.1) (λ o. is_some o.rhs) (λ o c. step_by o place (by_of r.rules c)) (λ x. refl) (Some c)

      by : (p : Option ((Bool × List ℕ) × Tokens)) → Inner (λ o. if is_some o.rhs then or_syntax p (λ p. or_syntax (by_read format r.rules p.1) (step_by o p.0)) else Err fault.Syntax) ≡ or_syntax (then_read p (λ p us. option_map (Step p.0 p.1) (cause_read format us))) (says r)
      by None = never r.current (λ o. is_some o.rhs)
      by (Some p) =
          ap (λ (b : Option (Option By)). Inner (λ o. if is_some o.rhs then or_syntax b (step_by o p.0) else Err fault.Syntax)) (by_same format r.rules p.1) ∙ cause p.0 (cause_read format p.1)

  -- the sides, by what is kept of them
  module _ (l : Language) (most : ℕ) (ts : Tokens) (h : length ts ≤ most) where
    side_says : (o : Open) (f : Written → Result Open RuleTextKind) (g : Part → Result Open RuleTextKind) → ((t : Written) → g (made (parts o.vars) t) ≡ f t) → or_syntax (whole_side l most o.vars ts) g ≡ or_syntax (tree_read l most ts) f
    side_says o f g same = ap (λ (p : Option Part). or_syntax p g) (whole_same l most o.vars ts h) ∙ by (tree_read l most ts)
      where
        by : (t : Option Written) → or_syntax (option_map (made (parts o.vars)) t) g ≡ or_syntax t f
        by None = refl
        by (Some t) = same t

  left_says : (most : ℕ) (ts : Tokens) → length ts ≤ most → MatchOption r.current (Unit {0}) (λ o. length o.vars ≤ 8) → Inner (λ o. left_line most o ts) ≡ or_syntax (option_map Left (tree_read Operators most ts)) (says r)
  left_says most ts h few = by r.current few ∙ on_field Written Left may_var added_left (λ x. refl) (tree_read Operators most ts)
    where
      by : (c : Option Open) → MatchOption c (Unit {0}) (λ o. length o.vars ≤ 8) →
          or_syntax {B = Reading} c (λ o. then_line {B = Reading} (left_line most o ts) onward)
          ≡ or_syntax {B = Reading} c (λ o. then_line {B = Reading} (if may_var o then or_syntax (tree_read Operators most ts) (added_left o) else Err fault.Syntax) onward)
      by None few = refl
      by (Some o) few =
          ap (λ (e : Result Open RuleTextKind). then_line (if may_var o then e else Err fault.Syntax) onward)
          (side_says Operators most ts h o (added_left o) (left_part o) (λ t. left_same o t few))

  right_says : (kind : Kind) (most : ℕ) (ts : Tokens) → length ts ≤ most → Inner (λ o. right_line kind most o ts) ≡ or_syntax (option_map Right (tree_read (language_of kind) most ts)) (says r)
  right_says kind most ts h = by r.current ∙ on_field Written Right (λ o. is_some o.lhs && not (is_some o.rhs)) added_right (λ x. refl) (tree_read (language_of kind) most ts)
    where
      by : (c : Option Open) →
          or_syntax {B = Reading} c (λ o. then_line {B = Reading} (right_line kind most o ts) onward)
          ≡ or_syntax {B = Reading} c (λ o. then_line {B = Reading} (if is_some o.lhs && not (is_some o.rhs) then or_syntax (tree_read (language_of kind) most ts) (added_right o) else Err fault.Syntax) onward)
      by None = refl
      by (Some o) =
          ap (λ (e : Result Open RuleTextKind). then_line (if is_some o.lhs && not (is_some o.rhs) then e else Err fault.Syntax) onward)
          (side_says (language_of kind) most ts h o (added_right o) (right_part o) (λ t. right_same o t))

  nowhere : Inner (λ o. Err fault.Syntax) ≡ Err fault.Syntax
  nowhere = by r.current
    where
      by : (c : Option Open) → or_syntax {B = Reading} c (λ o. then_line {B = Reading} (Err fault.Syntax) onward) ≡ Err fault.Syntax
      by None = refl
      by (Some o) = refl

  rule_says : (ts : Tokens) → rule_line r ts ≡ or_syntax (option_map Rule (lone_name ts)) (says r)
  rule_says ts = by (lone_name ts)
    where
      none : (b : Bool) → ◌≡◌ {A = Result Reading RuleTextKind} (if b then Err fault.Syntax else Err fault.Syntax) (Err fault.Syntax)
      none true = refl
      none false = refl

      by : (n : Option (List ℕ)) → (if is_some r.current then Err fault.Syntax else or_syntax n (opened r)) ≡ or_syntax (option_map Rule n) (says r)
      by None = none (is_some r.current)
      by (Some n) = refl

  end_says : (ts : Tokens) → end_line r ts ≡ or_syntax (if no_more ts then Some End else None) (says r)
  end_says ts = by (no_more ts)
    where
      by : (b : Bool) → (if b then or_syntax r.current (λ o. or_syntax (rule_of o) (added_rule r.rules)) else Err fault.Syntax) ≡ or_syntax (if b then Some End else None) (says r)
      by true = refl
      by false = refl

  first_of_two : (b : Bool) (x y : Result Reading RuleTextKind) (u v : Option Line) → x ≡ or_syntax u (says r) → y ≡ or_syntax v (says r) → (if b then x else y) ≡ or_syntax (if b then u else v) (says r)
  first_of_two true x y u v e f = e
  first_of_two false x y u v e f = f

  module _ (format : ℕ) (kind : Kind) (most : ℕ) (few : MatchOption r.current (Unit {0}) (λ o. length o.vars ≤ 8)) where
    pub line_says : (ts : Tokens) → length ts ≤ most → words_read format kind most r ts ≡ or_syntax (line_of format kind most ts) (says r)
    line_says [] h = refl
    line_says (t ∷ ts) h =
        let short : length ts ≤ most = omega (arith, h) in
        first_of_two (bytes_eq t (codes "rule")) _ _ _ _ (rule_says ts)
        (first_of_two (bytes_eq t (codes "end")) _ _ _ _ (end_says ts)
        (chosen (bytes_eq t (codes "widths")) (λ o. widths_line o ts) _ _ _ (on_field _ Widths (λ o. not (is_some o.widths)) (λ o ws. Ok (record o { widths = Some ws })) (λ x. refl) (widths_read ts))
        (chosen (bytes_eq t (codes "shift")) (λ o. shift_line most o ts) _ _ _ (on_field _ Shift may_shift (λ o r. Ok (record o { shift = Some r })) (λ x. refl) (shift_read most ts))
        (chosen (bytes_eq t (codes "var")) (λ o. var_line most o ts) _ _ _ (on_field _ Var may_var added_var (λ x. refl) (var_read most ts))
        (chosen (bytes_eq t (codes "left")) (λ o. left_line most o ts) _ _ _ (left_says most ts short few)
        (chosen (bytes_eq t (codes "right")) (λ o. right_line kind most o ts) _ _ _ (right_says kind most ts short)
        (chosen (bytes_eq t (codes "step")) (λ o. step_line format r.rules most o ts) (λ o. Err fault.Syntax) _ None (step_same format most ts) nowhere)))))))

-- at most 8 variables are declared
abbrev pub FewVars : Reading → Type 0
FewVars r = MatchOption r.current (Unit {0}) (λ o. length o.vars ≤ 8)
