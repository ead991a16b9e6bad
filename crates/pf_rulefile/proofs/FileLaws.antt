-- Texts are read exactly as what they mean.
use Rattle.std.proofs.Common.{◌≡◌, refl, sym, ap, ◌∙◌, subst, ℕ, suc, ◌+◌, ◌-◌, ◌≤◌, ◌<◌, List, [], ◌∷◌, ◌++◌, length, Bool, true, false, arith, ⊎_elim, inl, inr, length-append}
use Rattle.std.specs.Prelude.{Option, Some, None, if◌then◌else◌, ◌||◌, not, nat_le, nat_lt, Result, Ok, Err, MatchOption}
use Rattle.std.specs.Str.Lines.{lines}
use Rattle.std.proofs.lemmas.Bool.{cases_Bool}
use Rattle.std.proofs.lemmas.Bool.Decides.{nat_tests}
use Rattle.pf_text.specs.Meaning.Answers.{Decides}
use Rattle.pf_text.specs.Meaning.FirstFaults.{Steps, IsFirstFault}
use Rattle.pf_text.specs.Meaning.Lines.{is_blank}
use Rattle.pf_rules.specs.declared.rule.RuleParts.{RuleParts}
use Rattle.pf_rules.specs.declared.rule.By.{By}
use Rattle.pf_rules.specs.declared.rule.Kind.{Kind}
use Rattle.pf_rules.specs.declared.rule_file.FileParts.{FileParts}
use Rattle.pf_rules.specs.Meaning.Rules.{is_rule}
use Rattle.pf_rules.specs.Meaning.Files.{is_file}
use Rattle.pf_rulefile.specs.declared.fault.RuleTextKind.{RuleTextKind}
use Rattle.pf_rulefile.specs.declared.fault.RuleTextKind.TheVariants as fault
use Rattle.pf_rulefile.specs.declared.fault.RuleTextFault.{RuleTextFault}
use Rattle.pf_rulefile.specs.declared.fault.RuleTextFault.TheVariants.{At, Memory}
use Rattle.pf_rulefile.specs.declared.line.Open.{Open}
use Rattle.pf_rulefile.specs.declared.reading.Reading.{Reading}
use Rattle.pf_rulefile.specs.Meaning.Tokens.{goes_on, longer, tokens}
use Rattle.pf_rulefile.specs.Meaning.Words.{is_some}
use Rattle.pf_rulefile.specs.Meaning.Lines.{IsHeader, Line, Blank, Rule, Widths, Shift, Var, Left, Right, Step, End, IsLine}
use Rattle.pf_rulefile.specs.Meaning.Says.{or_syntax, or_limit, all_stand, pattern_of, added_var, by_of, step_by, where_may, inside, nothing, begun, reading, opened, rule_of, added_rule, still_open, says}
use Rattle.pf_rulefile.specs.Meaning.RuleFiles.{uncommented, line_tokens, IsStep, IsLineFault, says_fault, no_line, byte_limit, judged, file, IsRules, is_inside, HasHeader, IsRulesFault, no_header, in_line, too_long, ends_early, IsFaultOf}
use Rattle.pf_rulefile.specs.Steps.FieldReads.{header_of}
use Rattle.pf_rulefile.specs.Steps.LineReads.{line_of}
use Rattle.pf_rulefile.specs.Steps.FileReads.{line_read, numbered, then_next, lines_from, finished, header_by, text_read, rules_read, TellsFile}
use Rattle.pf_rulefile.proofs.Fields.{header_sound, header_complete}
use Rattle.pf_rulefile.proofs.LineLaws.{line_sound, line_complete}
use Rattle.pf_rulefile.proofs.LineSays.{FewVars, line_says}

-- ---- at most 8 variables are declared
where_is : (b : Bool) (e : Result Open RuleTextKind) (p : Open) → where_may b e ≡ Ok p → e ≡ Ok p
where_is true e p h = h
where_is false e p h = absurd (cc)

not_err : {A : Type 0} (b : Bool) (k : RuleTextKind) (e : Result A RuleTextKind) (p : A) → (if b then Err k else e) ≡ Ok p → (b ≡ false) × (e ≡ Ok p)
not_err true k e p h = absurd (cc)
not_err false k e p h = (refl, h)

limit_is : {A B : Type 0} (x : Option A) (f : A → B) (p : B) → or_limit x f ≡ Ok p → (y : A) × (f y ≡ p)
limit_is None f p h = absurd (cc)
limit_is (Some y) f p h = (y, cc)

ok_is : (P : Open → Type 0) (x p : Open) → ◌≡◌ {A = Result Open RuleTextKind} (Ok x) (Ok p) → P x → P p
ok_is P x p e h = let same : x ≡ p = cc in subst P same h

abbrev Few : Open → Type 0
Few o = length o.vars ≤ 8

few_step : (o p : Open) (place : Bool × List ℕ) (b : Option By) → Few o → step_by o place b ≡ Ok p → Few p
few_step o p place None few e = absurd (cc)
few_step o p place (Some b) few e = let n = not_err (nat_le 512 (length o.steps)) fault.Limit _ p e in ok_is Few _ p n.1 few

few_var : (o p : Open) (d : _) → Few o → added_var o d ≡ Ok p → Few p
few_var o p d few e =
    let a = not_err _ fault.Syntax _ p e in
    let b = not_err _ fault.Name _ p a.1 in
    let c = not_err (nat_le 8 (length o.vars)) fault.Limit _ p b.1 in
    let less : length o.vars < 8 = grind (arith, nat_tests, c.0) in
    ok_is Few (record o { vars = o.vars ++ d ∷ [] }) p c.1 (simp length-append (omega (arith, less)))

few_inside : (rules : List RuleParts) (o p : Open) (l : Line) → Few o → inside rules o l ≡ Ok p → Few p
few_inside rules o p (Widths ws) few e = ok_is Few _ p (where_is _ _ p e) few
few_inside rules o p (Shift r) few e = ok_is Few _ p (where_is _ _ p e) few
few_inside rules o p (Var d) few e = few_var o p d few (where_is _ _ p e)
few_inside rules o p (Left t) few e =
    let a = not_err _ fault.Syntax _ p (where_is _ _ p e) in
    let b = not_err _ fault.Name _ p a.1 in
    few_left (all_stand o.vars (length o.vars) t) b.1
  where
    few_left : (b : Bool) → (if b then or_limit (pattern_of o.vars t) (λ x. record o { lhs = Some x }) else Err fault.Unbound) ≡ Ok p → Few p
    few_left true e = let x = limit_is (pattern_of o.vars t) (λ x. record o { lhs = Some x }) p e in subst Few x.1 few
    few_left false e = absurd (cc)
few_inside rules o p (Right t) few e =
    let a = not_err _ fault.Syntax _ p (where_is _ _ p e) in
    let b = not_err _ fault.Name _ p a.1 in
    let x = limit_is (pattern_of o.vars t) (λ x. record o { rhs = Some x }) p b.1 in subst Few x.1 few
few_inside rules o p (Step left path cause) few e = few_step o p (left, path) (by_of rules cause) few (where_is _ _ p e)
few_inside rules o p Blank few e = absurd (cc)
few_inside rules o p (Rule n) few e = absurd (cc)
few_inside rules o p End few e = absurd (cc)

reading_is : (x s : Reading) → ◌≡◌ {A = Result Reading RuleTextKind} (Ok x) (Ok s) → FewVars x → FewVars s
reading_is x s e h = let same : x ≡ s = cc in subst FewVars same h

few_open : (r s : Reading) (l : Line) (c : Option Open) → MatchOption c (Unit {0}) (λ o. length o.vars ≤ 8) → or_syntax c (λ o. still_open r.rules (inside r.rules o l)) ≡ Ok s → FewVars s
few_open r s l None few e = absurd (cc)
few_open r s l (Some o) few e = by (inside r.rules o l) refl e
  where
    by : (x : Result Open RuleTextKind) → inside r.rules o l ≡ x → still_open r.rules x ≡ Ok s → FewVars s
    by (Err k) h e = absurd (cc)
    by (Ok p) h e = reading_is (reading r.rules (Some p)) s e (few_inside r.rules o p l few h)

few_rule : (r s : Reading) (n : List ℕ) → opened r n ≡ Ok s → FewVars s
few_rule r s n e =
    let a = not_err _ fault.Name _ s e in
    let b = not_err _ fault.Limit _ s a.1 in
    reading_is (reading r.rules (Some (begun n))) s b.1 (omega arith)

few_end : (r s : Reading) (c : Option Open) → or_syntax c (λ o. or_syntax (rule_of o) (added_rule r.rules)) ≡ Ok s → FewVars s
few_end r s None e = absurd (cc)
few_end r s (Some o) e = by (rule_of o) e
  where
    by : (x : Option RuleParts) → or_syntax x (added_rule r.rules) ≡ Ok s → FewVars s
    by None e = absurd (cc)
    by (Some x) e = let a = not_err _ fault.Limit _ s e in ruled (is_rule x) a.1
      where
        ruled : (b : Bool) → (if b then Ok (reading (r.rules ++ x ∷ []) None) else Err fault.Syntax) ≡ Ok s → FewVars s
        ruled true e = reading_is (reading (r.rules ++ x ∷ []) None) s e tt
        ruled false e = absurd (cc)

few_says : (r s : Reading) (l : Line) → FewVars r → says r l ≡ Ok s → FewVars s
few_says r s Blank few e = reading_is r s e few
few_says r s (Rule n) few e = let a = not_err _ fault.Syntax _ s e in few_rule r s n a.1
few_says r s (Widths ws) few e = few_open r s (Widths ws) r.current few e
few_says r s (Shift x) few e = few_open r s (Shift x) r.current few e
few_says r s (Var d) few e = few_open r s (Var d) r.current few e
few_says r s (Left t) few e = few_open r s (Left t) r.current few e
few_says r s (Right t) few e = few_open r s (Right t) r.current few e
few_says r s (Step left path cause) few e = few_open r s (Step left path cause) r.current few e
few_says r s End few e = few_end r s r.current e

-- ---- lines
tokens_short : (text : List ℕ) → length (tokens text) ≤ length text
tokens_short [] = omega arith
tokens_short (c ∷ cs) =
    let rest : length (tokens cs) ≤ length cs = tokens_short cs in
    ⊎_elim
    (λ (e : is_blank c ≡ true). rw e (omega (arith, rest)))
    (λ (e : is_blank c ≡ false).
    ⊎_elim
    (λ (h : goes_on c cs ≡ true). rw e (rw h (joined cs h rest)))
    (λ (h : goes_on c cs ≡ false). rw e (rw h (omega (arith, rest))))
    (cases_Bool (goes_on c cs)))
    (cases_Bool (is_blank c))
  where
    longer_short : (ts : List (List ℕ)) (n : ℕ) → length ts ≤ n → 1 ≤ n → length (longer c ts) ≤ n
    longer_short [] n h s = s
    longer_short (t ∷ ts) n h s = h

    joined : (cs : List ℕ) → goes_on c cs ≡ true → length (tokens cs) ≤ length cs → length (longer c (tokens cs)) ≤ suc (length cs)
    joined [] h r = absurd (cc)
    joined (d ∷ cs) h r = longer_short (tokens (d ∷ cs)) (suc (length (d ∷ cs))) (omega (arith, r)) (omega arith)

module _ (format : ℕ) (kind : Kind) where
  abbrev Read : Reading → List ℕ → Option Line
  Read r line = line_of format kind (length (uncommented line)) (line_tokens line)

  read_same : (r : Reading) (line : List ℕ) → FewVars r → line_read format kind r line ≡ or_syntax (Read r line) (says r)
  unfolding line_read
  read_same r line few = line_says r format kind (length (uncommented line)) few (line_tokens line) (tokens_short (uncommented line))

  step_found : (r s : Reading) (line : List ℕ) → FewVars r → line_read format kind r line ≡ Ok s → IsStep format kind r line s
  step_found r s line few e = by (Read r line) refl (sym (read_same r line few) ∙ e)
    where
      by : (o : Option Line) → Read r line ≡ o → or_syntax o (says r) ≡ Ok s → IsStep format kind r line s
      by None h e = absurd (cc)
      by (Some l) h e = record { said = l; spelled = line_sound format kind (length (uncommented line)) (line_tokens line) l h; next = e }

  said_again : (r : Reading) (line : List ℕ) (l : Line) → FewVars r → IsLine format kind l (line_tokens line) → line_read format kind r line ≡ says r l
  said_again r line l few i = read_same r line few ∙ rw (line_complete format kind (length (uncommented line)) l (line_tokens line) i (tokens_short (uncommented line))) refl

  fault_found : (r : Reading) (line : List ℕ) (k : RuleTextKind) → FewVars r → line_read format kind r line ≡ Err k → IsLineFault format kind r line k
  fault_found r line k few e = by (Read r line) refl (sym (read_same r line few) ∙ e)
    where
      by : (o : Option Line) → Read r line ≡ o → or_syntax o (says r) ≡ Err k → IsLineFault format kind r line k
      by None h e =
          let same : fault.Syntax ≡ k = cc in
          subst (IsLineFault format kind r line) same
          (no_line (λ l i. let some : Read r line ≡ Some l = line_complete format kind (length (uncommented line)) l (line_tokens line) i (tokens_short (uncommented line)) in absurd (cc)))
      by (Some l) h e = says_fault l k (line_sound format kind (length (uncommented line)) (line_tokens line) l h) e

  fault_again : (r : Reading) (line : List ℕ) (k : RuleTextKind) → FewVars r → IsLineFault format kind r line k → line_read format kind r line ≡ Err k
  fault_again r line k few (says_fault l k2 i e) = said_again r line l few i ∙ e
  fault_again r line k few (no_line none) = read_same r line few ∙ by (Read r line) refl
    where
      by : (o : Option Line) → Read r line ≡ o → or_syntax o (says r) ≡ Err fault.Syntax
      by None h = refl
      by (Some l) h = absurd (none l (line_sound format kind (length (uncommented line)) (line_tokens line) l h))

  step_few : (r s : Reading) (line : List ℕ) → FewVars r → IsStep format kind r line s → FewVars s
  step_few r s line few i = few_says r s i.said few i.next

  -- ---- all lines
  abbrev Lines : List (List ℕ) → Reading → Reading → Type 0
  Lines ls r s = Steps (IsStep format kind) r ls s

  abbrev First : Reading → List (List ℕ) → ℕ → RuleTextKind → Type 0
  First r ls j k = IsFirstFault (IsStep format kind) (IsLineFault format kind) r ls j k

  lines_found : (n : ℕ) (r : Reading) (ls : List (List ℕ)) (p : Reading × ℕ) → FewVars r → lines_from format kind n r ls ≡ Ok p → Lines ls r p.0 × (p.1 ≡ n + length ls)
  lines_found n r [] p few e = let same : (r, n) ≡ p = cc in (ap (λ (x : Reading × ℕ). x.0) same, sym (ap (λ (x : Reading × ℕ). x.1) same) ∙ (let none : n ≡ n + 0 = omega arith in none))
  lines_found n r (l ∷ ls) p few e = on (λ s f g. lines_found (n + 1) s ls p f g) (line_read format kind r l) refl e
    where
      on : ((s : Reading) → FewVars s → lines_from format kind (n + 1) s ls ≡ Ok p → Lines ls s p.0 × (p.1 ≡ (n + 1) + length ls)) → (x : Result Reading RuleTextKind) → line_read format kind r l ≡ x →
          then_next (numbered n x) (λ s. lines_from format kind (n + 1) s ls) ≡ Ok p → Lines (l ∷ ls) r p.0 × (p.1 ≡ n + length (l ∷ ls))
      on ih (Err k) h e = absurd (cc)
      on ih (Ok s) h e =
          let i = step_found r s l few h in
          let rest = ih s (step_few r s l few i) e in
          let more : (n + 1) + length ls ≡ n + length (l ∷ ls) = omega arith in
          ((s, i, rest.0), rest.1 ∙ more)

  lines_again : (n : ℕ) (r s : Reading) (ls : List (List ℕ)) → FewVars r → Lines ls r s → lines_from format kind n r ls ≡ Ok (s, n + length ls)
  lines_again n r s [] few e = let none : n ≡ n + 0 = omega arith in ap (λ (x : Reading). Ok (x, n)) e ∙ ap (λ (m : ℕ). Ok (s, m)) none
  lines_again n r s (l ∷ ls) few (next, i, rest) =
      rw (said_again r l i.said few i.spelled ∙ i.next) (lines_again (n + 1) next s ls (step_few r next l few i) rest ∙ (let more : (n + 1) + length ls ≡ n + length (l ∷ ls) = omega arith in ap (λ (m : ℕ). Ok (s, m)) more))

  first_found : (n : ℕ) (r : Reading) (ls : List (List ℕ)) (p : ℕ × RuleTextKind) → FewVars r → lines_from format kind n r ls ≡ Err p → (j : ℕ) × First r ls j p.1 × (p.0 ≡ n + j)
  first_found n r [] p few e = absurd (cc)
  first_found n r (l ∷ ls) p few e = on (λ s f g. first_found (n + 1) s ls p f g) (line_read format kind r l) refl e
    where
      on : ((s : Reading) → FewVars s → lines_from format kind (n + 1) s ls ≡ Err p → (j : ℕ) × First s ls j p.1 × (p.0 ≡ (n + 1) + j)) → (x : Result Reading RuleTextKind) → line_read format kind r l ≡ x →
          then_next (numbered n x) (λ s. lines_from format kind (n + 1) s ls) ≡ Err p → (j : ℕ) × First r (l ∷ ls) j p.1 × (p.0 ≡ n + j)
      on ih (Err k) h e =
          let same : (n, k) ≡ p = cc in
          let none : n ≡ n + 0 = omega arith in (
            0,
            record { before = []; here = l; after = ls; state = r; parts = refl; count = refl; steps = refl; stands = fault_found r l p.1 few (h ∙ ap (λ (x : ℕ × RuleTextKind). Err x.1) same) },
            sym (ap (λ (x : ℕ × RuleTextKind). x.0) same) ∙ none,
          )
      on ih (Ok s) h e =
          let i = step_found r s l few h in
          let f = ih s (step_few r s l few i) e in
          let b = f.1 in
          let more : (n + 1) + f.0 ≡ n + (f.0 + 1) = omega arith in
          let size : f.0 + 1 ≡ length (l ∷ b.before) = omega (arith, b.count) in
          (f.0 + 1, record { before = l ∷ b.before; here = b.here; after = b.after; state = b.state; parts = ap (λ (x : List (List ℕ)). l ∷ x) b.parts; count = size; steps = (s, i, b.steps); stands = b.stands }, f.2 ∙ more)

  first_again : (n : ℕ) (r : Reading) (before : List (List ℕ)) (here : List ℕ) (after : List (List ℕ)) (state : Reading) (k : RuleTextKind) → FewVars r → Lines before r state → IsLineFault format kind state here k →
      lines_from format kind n r (before ++ here ∷ after) ≡ Err (n + length before, k)
  first_again n r [] here after state k few e i =
      let none : n ≡ n + 0 = omega arith in
      let f : IsLineFault format kind r here k = subst (λ (x : Reading). IsLineFault format kind x here k) (sym e) i in
      rw (fault_again r here k few f) (ap (λ (m : ℕ). Err (m, k)) none)
  first_again n r (l ∷ before) here after state k few (next, i, rest) f =
      let more : (n + 1) + length before ≡ n + length (l ∷ before) = omega arith in
      rw (said_again r l i.said few i.spelled ∙ i.next) (first_again (n + 1) next before here after state k (step_few r next l few i) rest f ∙ ap (λ (m : ℕ). Err (m, k)) more)

-- ---- texts
inside_is : (format : ℕ) (kind : Kind) (r : Reading) → is_inside format kind r ≡ false → (r.current ≡ None) × (is_file (file format kind r) ≡ true)
inside_is format kind r e = by r.current (is_file (file format kind r)) e
  where
    by : (c : Option Open) (b : Bool) → (is_some c || not b) ≡ false → (c ≡ None) × (b ≡ true)
    by None true e = (refl, refl)
    by None false e = absurd (cc)
    by (Some o) b e = absurd (cc)

module _ (text : List ℕ) where
  abbrev is_long : Bool
  is_long = nat_lt byte_limit (length text)

  text_same : rules_read text ≡ text_read is_long (lines (judged text))
  unfolding rules_read
  text_same =
      ⊎_elim
      (λ (h : is_long ≡ true). rw h refl)
      (λ (h : is_long ≡ false). rw h refl)
      (cases_Bool is_long)

  short_judged : is_long ≡ false → judged text ≡ text
  short_judged h = rw h refl

  short : is_long ≡ false → length text ≤ byte_limit
  short h = grind (arith, nat_tests, h)

  long : is_long ≡ true → byte_limit < length text
  long h = grind (arith, nat_tests, h)

  not_long : length text ≤ byte_limit → is_long ≡ false
  not_long h = grind (arith, nat_tests, h)

  is_so_long : byte_limit < length text → is_long ≡ true
  is_so_long h = grind (arith, nat_tests, h)

  -- what stands in front of the lines
  abbrev Answer : Type 0
  Answer = Result FileParts (ℕ × RuleTextKind)

  finish_ok : (b : Bool) (format : ℕ) (kind : Kind) (r : Reading) (n : ℕ) (f : FileParts) → finished b format kind r n ≡ Ok f → (b ≡ false) × (r.current ≡ None) × (is_file (file format kind r) ≡ true) × (file format kind r ≡ f)
  finish_ok true format kind r n f e = absurd (cc)
  finish_ok false format kind r n f e =
      ⊎_elim
      (λ (h : is_inside format kind r ≡ true). absurd (let no : ◌≡◌ {A = Answer} (Err (n, fault.Syntax)) (Ok f) = rw h at e in cc))
      (λ (h : is_inside format kind r ≡ false). let i = inside_is format kind r h in let same : ◌≡◌ {A = Answer} (Ok (file format kind r)) (Ok f) = rw h at e in (refl, i.0, i.1, cc))
      (cases_Bool (is_inside format kind r))

  rules_found : (f : FileParts) → rules_read text ≡ Ok f → IsRules text f
  rules_found f e = by_lines (lines (judged text)) refl (sym text_same ∙ e)
    where
      by_read : (l : List ℕ) (ls : List (List ℕ)) → lines (judged text) ≡ l ∷ ls → (format : ℕ) (kind : Kind) → IsHeader format kind (line_tokens l) → (x : Result (Reading × ℕ) (ℕ × RuleTextKind)) → lines_from format kind 2 nothing ls ≡ x →
          then_next x (λ p. finished is_long format kind p.0 p.1) ≡ Ok f → IsRules text f
      by_read l ls place format kind header (Err k) h e = absurd (cc)
      by_read l ls place format kind header (Ok p) h e =
          let o = finish_ok is_long format kind p.0 p.1 f e in
          let r = lines_found format kind 2 nothing ls p tt h in
          let same : judged text ≡ text = short_judged o.0 in
          let whole : p.0 ≡ reading p.0.rules None = ap (λ (c : Option Open). reading p.0.rules c) o.1 in
          subst (IsRules text) o.3
          (record { short = short o.0; first = l; rest = ls; are_lines = sym (ap lines same) ∙ place; header = header; read = subst (λ (s : Reading). Steps (IsStep format kind) nothing ls s) whole r.0; kept = o.2 })

      by_header : (l : List ℕ) (ls : List (List ℕ)) → lines (judged text) ≡ l ∷ ls → (h : Option (ℕ × Kind)) → header_of (line_tokens l) ≡ h →
          header_by h (λ format kind. then_next (lines_from format kind 2 nothing ls) (λ p. finished is_long format kind p.0 p.1)) ≡ Ok f → IsRules text f
      by_header l ls place None h e = absurd (cc)
      by_header l ls place (Some x) h e = by_read l ls place x.0 x.1 (header_sound (line_tokens l) x h) (lines_from x.0 x.1 2 nothing ls) refl e

      by_lines : (ls : List (List ℕ)) → lines (judged text) ≡ ls → text_read is_long ls ≡ Ok f → IsRules text f
      by_lines [] place e = absurd (cc)
      by_lines (l ∷ ls) place e = by_header l ls place (header_of (line_tokens l)) refl e

  rules_again : (f : FileParts) → IsRules text f → rules_read text ≡ Ok f
  rules_again f i =
      let no : is_long ≡ false = not_long i.short in
      let place : lines (judged text) ≡ i.first ∷ i.rest = ap lines (short_judged no) ∙ i.are_lines in
      let whole : is_inside f.format f.kind (reading f.rules None) ≡ false = rw i.kept refl in
      text_same ∙ rw place (rw no (rw (header_complete i.header) (rw (lines_again f.format f.kind 2 nothing (reading f.rules None) i.rest tt i.read) (rw whole refl))))

  fault_told : (n : ℕ) (k : RuleTextKind) → rules_read text ≡ Err (n, k) → IsRulesFault text n k
  fault_told n k e = by_lines (lines (judged text)) refl (sym text_same ∙ e)
    where
      told : (m : ℕ) (j : RuleTextKind) → ◌≡◌ {A = Answer} (Err (m, j)) (Err (n, k)) → IsRulesFault text m j → IsRulesFault text n k
      told m j e i = let same : (m, j) ≡ (n, k) = cc in subst (λ (p : ℕ × RuleTextKind). IsRulesFault text p.0 p.1) same i

      by_finish : (format : ℕ) (kind : Kind) (ls : List (List ℕ)) → HasHeader format kind (lines (judged text)) ls → (b : Bool) → is_long ≡ b → (r : Reading) → Steps (IsStep format kind) nothing ls r → (m : ℕ) → m ≡ 2 + length ls →
          finished b format kind r m ≡ Err (n, k) → IsRulesFault text n k
      by_finish format kind ls header true h r steps m count e =
          let line : length ls + 1 ≡ m - 1 = omega (arith, count) in
          told (m - 1) fault.Limit e (subst (λ x. IsRulesFault text x fault.Limit) line (too_long format kind ls r (long h) header steps))
      by_finish format kind ls header false h r steps m count e =
          ⊎_elim
          (λ (i : is_inside format kind r ≡ true).
          let line : length ls + 2 ≡ m = omega (arith, count) in
          told m fault.Syntax (rw i at e) (subst (λ x. IsRulesFault text x fault.Syntax) line (ends_early format kind ls r (short h) header steps i)))
          (λ (i : is_inside format kind r ≡ false). absurd (let no : ◌≡◌ {A = Answer} (Ok (file format kind r)) (Err (n, k)) = rw i at e in cc))
          (cases_Bool (is_inside format kind r))

      by_read : (format : ℕ) (kind : Kind) (ls : List (List ℕ)) → HasHeader format kind (lines (judged text)) ls → (x : Result (Reading × ℕ) (ℕ × RuleTextKind)) → lines_from format kind 2 nothing ls ≡ x →
          then_next x (λ p. finished is_long format kind p.0 p.1) ≡ Err (n, k) → IsRulesFault text n k
      by_read format kind ls header (Err p) h e =
          let f = first_found format kind 2 nothing ls p tt h in
          let line : f.0 + 2 ≡ p.0 = omega (arith, f.2) in
          told p.0 p.1 e (subst (λ x. IsRulesFault text x p.1) line (in_line format kind ls f.0 p.1 header f.1))
      by_read format kind ls header (Ok p) h e = let r = lines_found format kind 2 nothing ls p tt h in by_finish format kind ls header is_long refl p.0 r.0 p.1 r.1 e

      by_header : (l : List ℕ) (ls : List (List ℕ)) → lines (judged text) ≡ l ∷ ls → (h : Option (ℕ × Kind)) → header_of (line_tokens l) ≡ h →
          header_by h (λ format kind. then_next (lines_from format kind 2 nothing ls) (λ p. finished is_long format kind p.0 p.1)) ≡ Err (n, k) → IsRulesFault text n k
      by_header l ls place None h e =
          told 1 fault.Header e
          (no_header (λ format kind rest x.
          let heads : l ∷ ls ≡ x.0 ∷ rest = sym place ∙ x.1 in
          let same : l ≡ x.0 = cc in
          let some : header_of (line_tokens l) ≡ Some (format, kind) = ap (λ (w : List ℕ). header_of (line_tokens w)) same ∙ header_complete x.2 in
          absurd (cc)))
      by_header l ls place (Some x) h e = by_read x.0 x.1 ls (l, place, header_sound (line_tokens l) x h) (lines_from x.0 x.1 2 nothing ls) refl e

      by_lines : (ls : List (List ℕ)) → lines (judged text) ≡ ls → text_read is_long ls ≡ Err (n, k) → IsRulesFault text n k
      by_lines [] place e = told 1 fault.Header e (no_header (λ format kind rest x. let none : ◌≡◌ {A = List (List ℕ)} [] (x.0 ∷ rest) = sym place ∙ x.1 in absurd (cc)))
      by_lines (l ∷ ls) place e = by_header l ls place (header_of (line_tokens l)) refl e

  -- what is read where the text has a header
  headed : (format : ℕ) (kind : Kind) (rest : List (List ℕ)) → HasHeader format kind (lines (judged text)) rest → rules_read text ≡ then_next (lines_from format kind 2 nothing rest) (λ p. finished is_long format kind p.0 p.1)
  headed format kind rest x = text_same ∙ rw x.1 (rw (header_complete x.2) refl)

  told_again : (n : ℕ) (k : RuleTextKind) → IsRulesFault text n k → rules_read text ≡ Err (n, k)
  told_again n k (no_header none) = text_same ∙ by_lines (lines (judged text)) refl
    where
      by_header : (l : List ℕ) (ls : List (List ℕ)) → lines (judged text) ≡ l ∷ ls → (h : Option (ℕ × Kind)) → header_of (line_tokens l) ≡ h →
          header_by h (λ format kind. then_next (lines_from format kind 2 nothing ls) (λ p. finished is_long format kind p.0 p.1)) ≡ Err (1, fault.Header)
      by_header l ls place None h = refl
      by_header l ls place (Some x) h = absurd (none x.0 x.1 ls (l, place, header_sound (line_tokens l) x h))

      by_lines : (ls : List (List ℕ)) → lines (judged text) ≡ ls → text_read is_long ls ≡ Err (1, fault.Header)
      by_lines [] place = refl
      by_lines (l ∷ ls) place = by_header l ls place (header_of (line_tokens l)) refl
  told_again n k (in_line format kind rest j kk header f) =
      let line : 2 + length f.before ≡ j + 2 = omega (arith, f.count) in
      headed format kind rest header ∙ rw f.parts (rw (first_again format kind 2 nothing f.before f.here f.after f.state k tt f.steps f.stands) (ap (λ (m : ℕ). Err (m, k)) line))
  told_again n k (too_long format kind rest r h header steps) =
      let line : (2 + length rest) - 1 ≡ length rest + 1 = omega arith in
      headed format kind rest header ∙ rw (lines_again format kind 2 nothing r rest tt steps) (rw (is_so_long h) (ap (λ (m : ℕ). Err (m, fault.Limit)) line))
  told_again n k (ends_early format kind rest r h header steps i) =
      let line : 2 + length rest ≡ length rest + 2 = omega arith in
      headed format kind rest header ∙ rw (lines_again format kind 2 nothing r rest tt steps) (rw (not_long h) (rw i (ap (λ (m : ℕ). Err (m, fault.Syntax)) line)))

  pub decided : (r : Result FileParts RuleTextFault) → TellsFile r (rules_read text) → Decides Memory (IsRules text) (IsFaultOf text) r
  decided (Ok f) t =
      record { answers = rules_found f t; only = λ g i. (let same : ◌≡◌ {A = Answer} (Ok f) (Ok g) = sym t ∙ rules_again g i in cc); told = λ e i. no e i }
    where
      no : (e : RuleTextFault) → IsFaultOf text e → ⊥
      no (At n k) i = absurd (let no : ◌≡◌ {A = Answer} (Ok f) (Err (n, k)) = sym t ∙ told_again n k i in cc)
      no Memory i = i
  decided (Err (At n k)) t =
      record { answers = inl (fault_told n k t); only = λ g i. absurd (let no : ◌≡◌ {A = Answer} (Err (n, k)) (Ok g) = sym t ∙ rules_again g i in cc); told = λ e i. inl (one e i) }
    where
      one : (e : RuleTextFault) → IsFaultOf text e → At n k ≡ e
      one (At m j) i = let same : ◌≡◌ {A = Answer} (Err (n, k)) (Err (m, j)) = sym t ∙ told_again m j i in let parts : (n, k) ≡ (m, j) = cc in ap (λ (p : ℕ × RuleTextKind). At p.0 p.1) parts
      one Memory i = absurd i
  decided (Err Memory) t = record { answers = inr refl; only = λ g i. inr refl; told = λ e i. inr refl }
