-- Lines are read exactly as their grammar says.
use Rattle.std.proofs.Common.{◌≡◌, refl, sym, ap, ◌∙◌, subst, ℕ, ◌≤◌, List, [], ◌∷◌, length, Bool, true, false, arith, ⊎_elim}
use Rattle.std.specs.Prelude.{Option, Some, None, option_map, codes, if◌then◌else◌, ◌&&◌, not}
use Rattle.std.specs.Str.{bytes_eq}
use Rattle.std.proofs.lemmas.Bool.{cases_Bool, and_parts}
use Rattle.std.proofs.lemmas.Slice.Eq.{bytes_eq-Decides}
use Rattle.pf_rules.specs.declared.number.Number.{Number}
use Rattle.pf_rules.specs.declared.pattern.PatType.{PatType}
use Rattle.pf_rules.specs.declared.rule.VarDecl.{VarDecl}
use Rattle.pf_rules.specs.declared.rule.Kind.{Kind}
use Rattle.pf_rules.specs.Meaning.Rules.{is_free}
use Rattle.pf_rulefile.specs.declared.word.Language.{Language}
use Rattle.pf_rulefile.specs.declared.word.Language.TheVariants.{Operators}
use Rattle.pf_rulefile.specs.Meaning.Words.{ptype_of, is_variable, is_rule_name, language_of}
use Rattle.pf_rulefile.specs.Meaning.Grammar.{Tokens, Written, Name, Typed, Pair, Node, Lane, Whole, IsSide}
use Rattle.pf_rulefile.specs.Meaning.Lines.{IsRange, from_to, IsPath, Line, Blank, Rule, Widths, Shift, Var, Left, Right, Step, End, var, bracket_limit, side_word, IsLine, blank_line, begins, has_widths, has_shift, has_var, has_ranged, has_left, has_right, has_step, ends}
use Rattle.pf_rulefile.specs.Steps.Fronts.{after, sign_by}
use Rattle.pf_rulefile.specs.Steps.NumberReads.{then_read}
use Rattle.pf_rulefile.specs.Steps.SideReads.{Algebra, side_read, made}
use Rattle.pf_rulefile.specs.Steps.FieldReads.{no_more, lone_name, name_of, widths_read, range_read, shift_read, var_head, typed_name, var_read, path_read, cause_read, step_side}
use Rattle.pf_rulefile.specs.Steps.LineReads.{all_of, depth_limit, step_place, trees, tree_read, step_read, inner_line, line_of}
use Rattle.pf_rulefile.proofs.Fronts.{given, then_is, behind_is, and_then_is, map_is, after_is, sign_is}
use Rattle.pf_rulefile.proofs.Fields.{ended, lone_sound, widths_sound, widths_complete, range_sound, range_complete, path_sound, path_complete, cause_behind, cause_sound, cause_complete}
use Rattle.pf_rulefile.proofs.SidesSound.{tested, side_sound}
use Rattle.pf_rulefile.proofs.SidesComplete.{side_complete}

-- ---- sides
tree_made : (t : Written) → made trees t ≡ t
tree_made (Name w) = refl
tree_made (Typed n ty) = refl
tree_made (Pair a b) = rw (tree_made a, tree_made b) refl
tree_made (Node op to k args) = rw (tree_made args) refl
tree_made (Lane op to k args) = rw (tree_made args) refl

all_is : {P : Type 0} (r : Option (P × Tokens)) (p : P) → all_of r ≡ Some p → (q : P × Tokens) × (r ≡ Some q) × (q.1 ≡ []) × (q.0 ≡ p)
all_is None p e = absurd (cc)
all_is (Some q) p e = let b = tested (no_more q.1) q.0 p e in (q, refl, ended q.1 b.0, b.1)

-- a whole side, whatever is made of it
pub side_found : {P : Type 0} (alg : Algebra P) (l : Language) (most : ℕ) (ts : Tokens) (p : P) → all_of (side_read alg most l depth_limit ts) ≡ Some p → (t : Written) × IsSide bracket_limit (Whole l) t ts [] × (p ≡ made alg t)
unfolding depth_limit bracket_limit
side_found {P} alg l most ts p e =
    let a = all_is (side_read alg most l depth_limit ts) p e in
    let i = side_sound P alg most depth_limit l ts a.0 a.1 in
    let same : i.0 ≡ bracket_limit = omega (arith, i.1) in
    (i.2.0, subst (λ n. IsSide n (Whole l) i.2.0 ts []) same (subst (λ (us : Tokens). IsSide i.0 (Whole l) i.2.0 ts us) a.2 i.2.1), sym a.3 ∙ i.2.2)

pub side_again : {P : Type 0} (alg : Algebra P) (l : Language) (most : ℕ) (ts : Tokens) (t : Written) → IsSide bracket_limit (Whole l) t ts [] → length ts ≤ most → all_of (side_read alg most l depth_limit ts) ≡ Some (made alg t)
unfolding depth_limit bracket_limit
side_again {P} alg l most ts t i h = rw (side_complete P alg most 1024 l t ts [] i h (record { times = refl; sum = refl; shift = refl })) refl

pub tree_sound : (l : Language) (most : ℕ) (ts : Tokens) (t : Written) → tree_read l most ts ≡ Some t → IsSide bracket_limit (Whole l) t ts []
tree_sound l most ts t e = let f = side_found trees l most ts t e in let same : f.0 ≡ t = sym (tree_made f.0) ∙ sym f.2 in subst (λ (x : Written). IsSide bracket_limit (Whole l) x ts []) same f.1

pub tree_complete : (l : Language) (most : ℕ) (ts : Tokens) (t : Written) → IsSide bracket_limit (Whole l) t ts [] → length ts ≤ most → tree_read l most ts ≡ Some t
tree_complete l most ts t i h = side_again trees l most ts t i h ∙ ap Some (tree_made t)

-- ---- the lines of a rule
shift_sound : (format : ℕ) (kind : Kind) (most : ℕ) (ts : Tokens) (r : Number × Number) → shift_read most ts ≡ Some r → IsLine format kind (Shift r) (codes "shift" ∷ ts)
shift_sound format kind most ts r e =
    let u = behind_is (after (codes "k") ts) (λ us. then_read (range_read most us) (λ r vs. if no_more vs && is_free r.0 && is_free r.1 then Some r else None)) r e in
    let q = then_is (range_read most u.0) (λ r vs. if no_more vs && is_free r.0 && is_free r.1 then Some r else None) r u.2 in
    let b = tested (no_more q.0.1 && is_free q.0.0.0 && is_free q.0.0.1) q.0.0 r q.2 in
    let x = and_parts (no_more q.0.1 && is_free q.0.0.0) (is_free q.0.0.1) b.0 in
    let y = and_parts (no_more q.0.1) (is_free q.0.0.0) x.0 in
    let free : (is_free q.0.0.0 && is_free q.0.0.1) ≡ true = rw (y.1, x.1) refl in
    subst (λ (s : Number × Number). IsLine format kind (Shift s) (codes "shift" ∷ ts)) b.1
    (subst (λ (us : Tokens). IsLine format kind (Shift q.0.0) (codes "shift" ∷ us)) (sym (after_is (codes "k") ts u.0 u.1))
    (has_shift (subst (λ (us : Tokens). IsRange q.0.0 u.0 us) (ended q.0.1 y.0) (range_sound most u.0 q.0 q.1)) free))

var_sound : (format : ℕ) (kind : Kind) (most : ℕ) (ts : Tokens) (d : VarDecl) → var_read most ts ≡ Some d → IsLine format kind (Var d) (codes "var" ∷ ts)
var_sound format kind most ts d e =
    let h = then_is (var_head ts) (λ h us. if no_more us then Some (var h.0 h.1 None) else then_read (range_read most us) (λ r vs. if no_more vs then Some (var h.0 h.1 (Some r)) else None)) d e in
    head ts h.0 h.1 h.2
  where
    body : (n t : List ℕ) (ty : PatType) (us : Tokens) → is_variable n ≡ true → ptype_of t ≡ Some ty →
        (if no_more us then Some (var n ty None) else then_read (range_read most us) (λ r vs. if no_more vs then Some (var n ty (Some r)) else None)) ≡ Some d → IsLine format kind (Var d) (codes "var" ∷ n ∷ t ∷ us)
    body n t ty [] v p e = given (λ (x : VarDecl). IsLine format kind (Var x) (codes "var" ∷ n ∷ t ∷ [])) (var n ty None) d e (has_var v p)
    body n t ty (u ∷ us) v p e =
        let q = then_is (range_read most (u ∷ us)) (λ r vs. if no_more vs then Some (var n ty (Some r)) else None) d e in
        let b = tested (no_more q.0.1) (var n ty (Some q.0.0)) d q.2 in
        subst (λ (x : VarDecl). IsLine format kind (Var x) (codes "var" ∷ n ∷ t ∷ u ∷ us)) b.1 (has_ranged v p (subst (λ (vs : Tokens). IsRange q.0.0 (u ∷ us) vs) (ended q.0.1 b.0) (range_sound most (u ∷ us) q.0 q.1)))

    head : (ts : Tokens) (h : (List ℕ × PatType) × Tokens) → var_head ts ≡ Some h →
        (if no_more h.1 then Some (var h.0.0 h.0.1 None) else then_read (range_read most h.1) (λ r vs. if no_more vs then Some (var h.0.0 h.0.1 (Some r)) else None)) ≡ Some d → IsLine format kind (Var d) (codes "var" ∷ ts)
    head [] h g e = absurd (cc)
    head (n ∷ ts) h g e =
        ⊎_elim
        (λ (v : is_variable n ≡ true).
        let m = and_then_is (name_of n) (λ n. typed_name n ts) h (rw v at g) in
        let named = tested (is_rule_name n) n m.0 m.1 in
        typed n m.0 v named.1 ts h m.2 e)
        (λ (v : is_variable n ≡ false). absurd (let no : ◌≡◌ {A = Option ((List ℕ × PatType) × Tokens)} None (Some h) = rw v at g in cc))
        (cases_Bool (is_variable n))
      where
        typed : (n m : List ℕ) → is_variable n ≡ true → n ≡ m → (ts : Tokens) (h : (List ℕ × PatType) × Tokens) → typed_name m ts ≡ Some h →
            (if no_more h.1 then Some (var h.0.0 h.0.1 None) else then_read (range_read most h.1) (λ r vs. if no_more vs then Some (var h.0.0 h.0.1 (Some r)) else None)) ≡ Some d → IsLine format kind (Var d) (codes "var" ∷ n ∷ ts)
        typed n m v same [] h g e = absurd (cc)
        typed n m v same (t ∷ ts) h g e =
            let p = map_is (ptype_of t) (λ ty. ((m, ty), ts)) h g in
            let whole : (if no_more ts then Some (var n p.0 None) else then_read (range_read most ts) (λ r vs. if no_more vs then Some (var n p.0 (Some r)) else None)) ≡ Some d =
            subst (λ (x : (List ℕ × PatType) × Tokens). (if no_more x.1 then Some (var x.0.0 x.0.1 None) else then_read (range_read most x.1) (λ r vs. if no_more vs then Some (var x.0.0 x.0.1 (Some r)) else None)) ≡ Some d) (sym (ap (λ (w : List ℕ). ((w, p.0), ts)) same ∙ p.2)) e in
            body n t p.0 ts v p.1 whole

step_sound : (format : ℕ) (kind : Kind) (most : ℕ) (ts : Tokens) (l : Line) → step_read format most ts ≡ Some l → IsLine format kind l (codes "step" ∷ ts)
step_sound format kind most ts l e =
    let p = then_is (step_place most ts) (λ p us. option_map (Step p.0 p.1) (cause_read format us)) l e in
    let c = map_is (cause_read format p.0.1) (Step p.0.0.0 p.0.0.1) l p.2 in
    let s = then_is (step_side ts) (λ left us. option_map (λ q. ((left, q.0), q.1)) (path_read most us)) p.0 p.1 in
    let q = map_is (path_read most s.0.1) (λ q. ((s.0.0, q.0), q.1)) p.0 s.2 in
    let w = sign_is side_word ts s.0 (side_same ts ∙ s.1) in
    let i = path_sound most s.0.1 q.0 q.1 in
    let path : IsPath p.0.0.1 s.0.1 p.0.1 = subst (λ (x : (Bool × List ℕ) × Tokens). IsPath x.0.1 s.0.1 x.1) q.2 i in
    let left : s.0.0 ≡ p.0.0.0 = ap (λ (x : (Bool × List ℕ) × Tokens). x.0.0) q.2 in
    subst (λ (x : Line). IsLine format kind x (codes "step" ∷ ts)) c.2
    (subst (λ (us : Tokens). IsLine format kind (Step p.0.0.0 p.0.0.1 c.0) (codes "step" ∷ us)) (sym w.1) (has_step (w.2 ∙ ap Some left) path (cause_sound format p.0.1 c.0 c.1)))
  where
    side_same : (ts : Tokens) → sign_by side_word ts ≡ step_side ts
    side_same [] = refl
    side_same (t ∷ ts) = refl

named_variable : (n : List ℕ) → is_variable n ≡ true → is_rule_name n ≡ true
named_variable n v = (and_parts (is_rule_name n) (not (bytes_eq n (codes "w"))) (and_parts (is_rule_name n && not (bytes_eq n (codes "w"))) (not (bytes_eq n (codes "k"))) v).0).0

range_some : {r : Number × Number} {ts us : Tokens} → IsRange r ts us → no_more ts ≡ false
range_some (from_to i j) = refl

-- ---- all lines
module _ (format : ℕ) (kind : Kind) (most : ℕ) where
  abbrev Sound : List ℕ → Tokens → Option Line → Type 0
  Sound w ts r = (l : Line) → r ≡ Some l → IsLine format kind l (w ∷ ts)

  -- where the word is this one, else
  by_word : (t w : List ℕ) (ts : Tokens) (a b : Option Line) → Sound w ts a → Sound t ts b → Sound t ts (if bytes_eq t w then a else b)
  by_word t w ts a b f g l e =
      ⊎_elim
      (λ (h : bytes_eq t w ≡ true). subst (λ (x : List ℕ). IsLine format kind l (x ∷ ts)) (sym ((bytes_eq-Decides t w).0 h)) (f l (rw h at e)))
      (λ (h : bytes_eq t w ≡ false). g l (rw h at e))
      (cases_Bool (bytes_eq t w))

  mapped : {A : Type 0} (w : List ℕ) (ts : Tokens) (F : A → Line) (r : Option A) → ((x : A) → r ≡ Some x → IsLine format kind (F x) (w ∷ ts)) → Sound w ts (option_map F r)
  mapped w ts F r f l e = let m = map_is r F l e in subst (λ (x : Line). IsLine format kind x (w ∷ ts)) m.2 (f m.0 m.1)

  pub line_sound : (ts : Tokens) (l : Line) → line_of format kind most ts ≡ Some l → IsLine format kind l ts
  line_sound [] l e = given (λ (x : Line). IsLine format kind x []) Blank l e blank_line
  line_sound (t ∷ ts) l e =
      by_word t (codes "rule") ts (option_map Rule (lone_name ts)) _
      (mapped (codes "rule") ts Rule (lone_name ts) (λ n e. let s = lone_sound ts n e in subst (λ (us : Tokens). IsLine format kind (Rule n) (codes "rule" ∷ us)) (sym s.0) (begins s.1)))
      (by_word t (codes "end") ts (if no_more ts then Some End else None) (inner_line format kind most t ts)
      (λ l e. let b = tested (no_more ts) End l e in subst (λ (x : Line). IsLine format kind x (codes "end" ∷ ts)) b.1 (subst (λ (us : Tokens). IsLine format kind End (codes "end" ∷ us)) (sym (ended ts b.0)) ends))
      (by_word t (codes "widths") ts (option_map Widths (widths_read ts)) _ (mapped (codes "widths") ts Widths (widths_read ts) (λ ws e. has_widths (widths_sound ts ws e)))
      (by_word t (codes "shift") ts (option_map Shift (shift_read most ts)) _ (mapped (codes "shift") ts Shift (shift_read most ts) (shift_sound format kind most ts))
      (by_word t (codes "var") ts (option_map Var (var_read most ts)) _ (mapped (codes "var") ts Var (var_read most ts) (var_sound format kind most ts))
      (by_word t (codes "left") ts (option_map Left (tree_read Operators most ts)) _ (mapped (codes "left") ts Left (tree_read Operators most ts) (λ p e. has_left (tree_sound Operators most ts p e)))
      (by_word t (codes "right") ts (option_map Right (tree_read (language_of kind) most ts)) _ (mapped (codes "right") ts Right (tree_read (language_of kind) most ts) (λ p e. has_right (tree_sound (language_of kind) most ts p e)))
      (by_word t (codes "step") ts (step_read format most ts) None (step_sound format kind most ts) (λ l e. absurd (cc)))))))))
      l e

  pub line_complete : (l : Line) (ts : Tokens) → IsLine format kind l ts → length ts ≤ most → line_of format kind most ts ≡ Some l
  line_complete l ts blank_line h = refl
  line_complete l ts (begins e) h = rw e refl
  line_complete l ts (has_widths w) h = rw (widths_complete w) refl
  line_complete l ts (has_shift {r = r} {ts = us} i free) h =
      let f = and_parts (is_free r.0) (is_free r.1) free in rw (range_complete most r us i (omega (arith, h))) (rw (f.0, f.1) refl)
  line_complete l ts (has_var {n = n} v p) h = rw (v, named_variable n v) (rw p refl)
  line_complete l ts (has_ranged {n = n} {r = r} {ts = us} v p i) h = rw (v, named_variable n v) (rw p (rw (range_some i) (rw (range_complete most r us i (omega (arith, h))) refl)))
  line_complete l ts (has_left {p = p} {ts = us} i) h = rw (tree_complete Operators most us p i (omega (arith, h))) refl
  line_complete l ts (has_right {p = p} {ts = us} i) h = rw (tree_complete (language_of kind) most us p i (omega (arith, h))) refl
  line_complete l ts (has_step {w = w} {path = path} {cause = cause} {ts = us} {us = vs} s i c) h =
      let b = cause_behind c in rw s (rw (path_complete most path us vs i b.slash b.int (omega (arith, h))) (rw (cause_complete format cause vs c) refl))
  line_complete l ts ends h = refl
