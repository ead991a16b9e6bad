-- The parts of lines are read exactly as their grammar says.
use Rattle.std.proofs.Common.{◌≡◌, refl, sym, ap, ◌∙◌, subst, ℕ, ◌<◌, ◌≤◌, List, [], ◌∷◌, ◌++◌, length, Bool, true, false, arith, ⊎_elim, append-nil}
use Rattle.std.specs.Prelude.{Option, Some, None, option_map, codes, if◌then◌else◌, ◌&&◌, ◌||◌, ◌==◌, ℤ, pos, int_le, unsigned_abs}
use Rattle.std.specs.Str.{bytes_eq}
use Rattle.std.proofs.lemmas.Bool.{cases_Bool, and_parts}
use Rattle.std.proofs.lemmas.Bool.Decides.{nat_tests}
use Rattle.std.proofs.lemmas.Slice.Eq.{bytes_eq-Decides}
use Rattle.pf_text.specs.Meaning.Words.{is_letter}
use Rattle.pf_rules.specs.declared.number.Number.{Number}
use Rattle.pf_rules.specs.declared.rule.Kind.{Kind}
use Rattle.pf_rulefile.specs.Meaning.Tokens.{int_of}
use Rattle.pf_rulefile.specs.Meaning.Words.{is_word, is_rule_name}
use Rattle.pf_rulefile.specs.Meaning.Grammar.{Tokens, AreParts, last_part, more_parts, IsNumber}
use Rattle.pf_rulefile.specs.Meaning.Lines.{kind_of, format_of, IsHeader, is_header, when, chosen, AreWidths, some_widths, IsRange, from_to, slash_sign, IsChild, child_number, IsPath, root_path, below_path, Cause, Axiom, Use, IsCause, by_axiom, by_rule}
use Rattle.pf_rulefile.specs.Steps.Fronts.{after, sign_by}
use Rattle.pf_rulefile.specs.Steps.NumberReads.{then_read, number_read}
use Rattle.pf_rulefile.specs.Steps.SideReads.{on_behind}
use Rattle.pf_rulefile.specs.Steps.FieldReads.{no_more, lone_name, optional_by, optional, widths_read, range_read, child_by, child_part, begins_int, path_at, path_read, cause_read, kind_read, format_read, header_of}
use Rattle.pf_rulefile.proofs.Fronts.{given, then_is, behind_is, and_then_is, map_is, after_is, other}
use Rattle.pf_rulefile.proofs.Numbers.{number_sound, number_complete, number_shrink, parts_sound, parts_complete}
use Rattle.pf_rulefile.proofs.SidesComplete.{no_int}
use Rattle.pf_rulefile.proofs.SidesSound.{tested}

pub ended : (ts : Tokens) → no_more ts ≡ true → ts ≡ []
ended [] e = refl
ended (t ∷ ts) e = absurd (cc)

-- ---- names
pub lone_sound : (ts : Tokens) (n : List ℕ) → lone_name ts ≡ Some n → (ts ≡ n ∷ []) × (is_rule_name n ≡ true)
lone_sound [] n e = absurd (cc)
lone_sound (t ∷ []) n e = let b = tested (is_rule_name t) t n e in (ap (λ (w : List ℕ). w ∷ []) b.1, ap is_rule_name (sym b.1) ∙ b.0)
lone_sound (t ∷ u ∷ ts) n e = absurd (cc)

-- ---- widths
optional_is : (w : List ℕ) (ts : Tokens) → ts ≡ when (optional w ts).0 w ++ (optional w ts).1
optional_is w ts = by (after w ts) refl
  where
    by : (o : Option Tokens) → after w ts ≡ o → ts ≡ when (optional_by ts o).0 w ++ (optional_by ts o).1
    by None e = refl
    by (Some us) e = after_is w ts us e

pub widths_sound : (ts : Tokens) (ws : List ℤ) → widths_read ts ≡ Some ws → AreWidths ws ts
widths_sound ts ws e =
    let x = optional (codes "8") ts in
    let y = optional (codes "16") x.1 in
    let z = optional (codes "32") y.1 in
    let b = tested (no_more z.1 && (x.0 || y.0 || z.0)) (chosen (pos 8) (pos 16) (pos 32) x.0 y.0 z.0) ws e in
    let parts = and_parts (no_more z.1) (x.0 || y.0 || z.0) b.0 in
    let place : ts ≡ chosen (codes "8") (codes "16") (codes "32") x.0 y.0 z.0 =
    optional_is (codes "8") ts ∙ ap (λ (us : Tokens). when x.0 (codes "8") ++ us) (optional_is (codes "16") x.1)
    ∙ ap (λ (us : Tokens). when x.0 (codes "8") ++ (when y.0 (codes "16") ++ us)) (optional_is (codes "32") y.1 ∙ ap (λ (us : Tokens). when z.0 (codes "32") ++ us) (ended z.1 parts.0) ∙ append-nil (when z.0 (codes "32"))) in
    subst (λ (us : Tokens). AreWidths ws us) (sym place) (subst (λ (vs : List ℤ). AreWidths vs (chosen (codes "8") (codes "16") (codes "32") x.0 y.0 z.0)) b.1 (some_widths x.0 y.0 z.0 parts.1))

pub widths_complete : {ws : List ℤ} {ts : Tokens} → AreWidths ws ts → widths_read ts ≡ Some ws
widths_complete (some_widths true true true h) = refl
widths_complete (some_widths true true false h) = refl
widths_complete (some_widths true false true h) = refl
widths_complete (some_widths true false false h) = refl
widths_complete (some_widths false true true h) = refl
widths_complete (some_widths false true false h) = refl
widths_complete (some_widths false false true h) = refl
widths_complete (some_widths false false false h) = absurd (cc)

-- ---- ranges
pub range_sound : (most : ℕ) (ts : Tokens) (q : (Number × Number) × Tokens) → range_read most ts ≡ Some q → IsRange q.0 ts q.1
range_sound most ts q e =
    let u = behind_is (after (codes "from") ts) (λ us. then_read (number_read most 1 us) (λ lo vs. on_behind (after (codes "to") vs) (λ ws. option_map (λ q. ((lo, q.0), q.1)) (number_read most 1 ws)))) q e in
    let lo = then_is (number_read most 1 u.0) (λ lo vs. on_behind (after (codes "to") vs) (λ ws. option_map (λ q. ((lo, q.0), q.1)) (number_read most 1 ws))) q u.2 in
    let v = behind_is (after (codes "to") lo.0.1) (λ ws. option_map (λ q. ((lo.0.0, q.0), q.1)) (number_read most 1 ws)) q lo.2 in
    let hi = map_is (number_read most 1 v.0) (λ q. ((lo.0.0, q.0), q.1)) q v.2 in
    subst (λ (x : (Number × Number) × Tokens). IsRange x.0 ts x.1) hi.2
    (subst (λ (us : Tokens). IsRange (lo.0.0, hi.0.0) us hi.0.1) (sym (after_is (codes "from") ts u.0 u.1))
    (from_to (subst (λ (us : Tokens). IsNumber 1 lo.0.0 u.0 us) (after_is (codes "to") lo.0.1 v.0 v.1) (number_sound most 1 u.0 lo.0 lo.1)) (number_sound most 1 v.0 hi.0 hi.1)))

pub range_complete : (most : ℕ) (r : Number × Number) (ts : Tokens) → IsRange r ts [] → length ts ≤ most → range_read most ts ≡ Some (r, [])
range_complete most r ts (from_to {lo = lo} {hi = hi} {ts = vs} {us = us} i j) h =
    let less : length (codes "to" ∷ us) < length vs = number_shrink 1 lo vs (codes "to" ∷ us) i in
    rw (number_complete 1 lo vs (codes "to" ∷ us) i (record { times = refl; power = refl }) refl most (omega (arith, h)))
    (rw (number_complete 1 hi us [] j (record { times = refl; power = refl }) refl most (omega (arith, h, less))) refl)

-- ---- paths
child_sound : (m : Bool) (ts : Tokens) (q : ℕ × Tokens) → child_part m ts ≡ Some q → IsChild m q.0 ts q.1
child_sound m [] q e = absurd (cc)
child_sound m (t ∷ ts) q e =
    let n = and_then_is (int_of t) (child_by ts) q e in
    let b = tested (int_le n.0 (pos 255)) (unsigned_abs n.0, ts) q n.2 in
    subst (λ (x : ℕ × Tokens). IsChild m x.0 (t ∷ ts) x.1) b.1 (child_number n.1 b.0)

child_complete : (bound : ℕ) (m : Bool) (n : ℕ) (ts us : Tokens) → length ts ≤ bound → IsChild m n ts us → Unit {0} → child_part m ts ≡ Some (n, us)
child_complete bound m n ts us h (child_number e f) u = rw e (rw f refl)

child_shrink : (m : Bool) (n : ℕ) (ts us : Tokens) → IsChild m n ts us → length us < length ts
child_shrink m n ts us (child_number e f) = omega arith

pub path_sound : (most : ℕ) (ts : Tokens) (q : List ℕ × Tokens) → path_read most ts ≡ Some q → IsPath q.0 ts q.1
path_sound most ts q e =
    let u = behind_is (after (codes "/") ts) (path_at most) q e in
    subst (λ (us : Tokens). IsPath q.0 us q.1) (sym (after_is (codes "/") ts u.0 u.1)) (by u.0 u.2)
  where
    by : (us : Tokens) → path_at most us ≡ Some q → IsPath q.0 (codes "/" ∷ us) q.1
    by us e =
        ⊎_elim
        (λ (h : begins_int us ≡ true). below_path (parts_sound ℕ slash_sign IsChild child_part child_sound most false us q (rw h at e)))
        (λ (h : begins_int us ≡ false). given (λ (x : List ℕ × Tokens). IsPath x.0 (codes "/" ∷ us) x.1) ([], us) q (rw h at e) root_path)
        (cases_Bool (begins_int us))

child_begins : {m : Bool} {ns : List ℕ} {ts us : Tokens} → AreParts slash_sign IsChild m ns ts us → begins_int ts ≡ true
child_begins (last_part (child_number e f)) = rw e refl
child_begins (more_parts (child_number e f) s rest) = rw e refl

pub path_complete : (most : ℕ) (ns : List ℕ) (ts us : Tokens) → IsPath ns ts us → sign_by slash_sign us ≡ None → begins_int us ≡ false → length ts ≤ most → path_read most ts ≡ Some (ns, us)
path_complete most ns ts us root_path none other_first h = rw other_first refl
path_complete most ns ts us (below_path {ts = vs} i) none other_first h =
    rw (child_begins i) (parts_complete ℕ slash_sign IsChild child_part (λ us. Unit {0}) child_shrink (λ s n us e. tt) most (child_complete most) false ns vs us i tt none (omega (arith, h)) most (omega (arith, h)))

-- ---- causes
word_int : (w : List ℕ) → is_word w ≡ true → int_of w ≡ None
word_int [] h = absurd (cc)
word_int (c ∷ w) h = no_int c w (and_parts (is_letter c) _ h).0

pub record BehindPath (us : Tokens) : Type 0 where
  pub slash : sign_by slash_sign us ≡ None
  pub int : begins_int us ≡ false

pub cause_behind : {format : ℕ} {cause : Cause} {us : Tokens} → IsCause format cause us → BehindPath us
cause_behind (by_axiom {w = w} e) = record { slash = rw (other word w (codes "/") w (rw e refl) refl) refl; int = rw (word_int w e) refl }
  where
    word : List ℕ → Option (List ℕ)
    word v = if is_word v then Some v else None
cause_behind (by_rule f e) = record { slash = refl; int = refl }

pub cause_sound : (format : ℕ) (ts : Tokens) (c : Cause) → cause_read format ts ≡ Some c → IsCause format c ts
cause_sound format [] c e = absurd (cc)
cause_sound format (t ∷ ts) c e =
    ⊎_elim
    (λ (h : no_more ts ≡ true).
    let b = tested (is_word t) (Axiom t) c (rw h at e) in
    subst (λ (us : Tokens). IsCause format c (t ∷ us)) (sym (ended ts h)) (subst (λ (x : Cause). IsCause format x (t ∷ [])) b.1 (by_axiom b.0)))
    (λ (h : no_more ts ≡ false).
    ⊎_elim
    (λ (g : (format == 2 && bytes_eq t (codes "use")) ≡ true).
    let m = map_is (lone_name ts) Use c (rw (h, g) at e) in
    let l = lone_sound ts m.0 m.1 in
    let parts = and_parts (format == 2) (bytes_eq t (codes "use")) g in
    let place : t ∷ ts ≡ codes "use" ∷ m.0 ∷ [] = ap (λ (w : List ℕ). w ∷ ts) ((bytes_eq-Decides t (codes "use")).0 parts.1) ∙ ap (λ (us : Tokens). codes "use" ∷ us) l.0 in
    let two : format ≡ 2 = grind (arith, nat_tests, parts.0) in
    subst (λ (us : Tokens). IsCause format c us) (sym place) (subst (λ (x : Cause). IsCause format x (codes "use" ∷ m.0 ∷ [])) m.2 (by_rule two l.1)))
    (λ (g : (format == 2 && bytes_eq t (codes "use")) ≡ false). absurd (let no : ◌≡◌ {A = Option Cause} None (Some c) = rw (h, g) at e in cc))
    (cases_Bool (format == 2 && bytes_eq t (codes "use"))))
    (cases_Bool (no_more ts))

pub cause_complete : (format : ℕ) (c : Cause) (ts : Tokens) → IsCause format c ts → cause_read format ts ≡ Some c
cause_complete format c ts (by_axiom e) = rw e refl
cause_complete format c ts (by_rule f e) = rw f (rw e refl)

-- ---- headers
pub header_sound : (ts : Tokens) (q : ℕ × Kind) → header_of ts ≡ Some q → IsHeader q.0 q.1 ts
header_sound ts q e =
    let u = and_then_is (after (codes "rules") ts) format_read q e in
    subst (λ (us : Tokens). IsHeader q.0 q.1 us) (sym (after_is (codes "rules") ts u.0 u.1)) (by u.0 u.2)
  where
    by_kind : (f : List ℕ) (format : ℕ) → format_of f ≡ Some format → (us : Tokens) → kind_read format us ≡ Some q → IsHeader q.0 q.1 (codes "rules" ∷ f ∷ us)
    by_kind f format h [] e = absurd (cc)
    by_kind f format h (w ∷ us) e =
        let k = and_then_is (kind_of w) (λ kind. if no_more us then Some (format, kind) else None) q e in
        let b = tested (no_more us) (format, k.0) q k.2 in
        subst (λ (vs : Tokens). IsHeader q.0 q.1 (codes "rules" ∷ f ∷ w ∷ vs)) (sym (ended us b.0)) (subst (λ (x : ℕ × Kind). IsHeader x.0 x.1 (codes "rules" ∷ f ∷ w ∷ [])) b.1 (is_header h k.1))

    by : (us : Tokens) → format_read us ≡ Some q → IsHeader q.0 q.1 (codes "rules" ∷ us)
    by [] e = absurd (cc)
    by (f ∷ us) e = let x = and_then_is (format_of f) (λ format. kind_read format us) q e in by_kind f x.0 x.1 us x.2

pub header_complete : {format : ℕ} {kind : Kind} {ts : Tokens} → IsHeader format kind ts → header_of ts ≡ Some (format, kind)
header_complete (is_header f k) = rw f (rw k refl)
