-- Where reading a number stops, the bytes before begin one and the next byte goes on with none.
use Rattle.std.proofs.Common.{◌≡◌, ℕ, suc, ◌<◌, ◌≤◌, List, [], ◌∷◌, ◌++◌, length, take, drop, Bool, true, false, cond, ◌||◌, eqb, Result, Ok, Err, refl, sym, ap, ◌∙◌, append_assoc, arith, ◌⊎◌, inl, inr, subst}
use Rattle.std.proofs.lemmas.Bool.{cases_Bool, eqb-true, eqb-false, ne_eqb, or_parts}
use Rattle.std.proofs.lemmas.List.{length-append, length-take-le, take-append-drop, take_at, drop_at, append-nil}
use Rattle.pf_text.specs.Meaning.Words.{is_digit}
use Rattle.pf_images.specs.declared.fault.Fault.{Fault}
use Rattle.pf_images.specs.declared.fault.PgmKind.TheVariants.{Number}
use Rattle.pf_images.specs.Meaning.Pgm.{begins_blank, number_from, IsPgmNumber, IsBlank}
use Rattle.pf_images.specs.Meaning.Faults.{IsWhole, IsNumberBegun, Stops}
use Rattle.pf_images.specs.Steps.Reading.{◌>>=◌, at_these, blank_count, digit_count, is_open, begun, digits_at, field_at}
use Rattle.pf_images.proofs.Blanks.{counted_blank, blank_again, blank_begins}
use Rattle.pf_images.proofs.Fields.{BeginsBlank, all_digits, digit_count-le, digit_count_again, first_digit, field_again}

-- ---- steps that failed

pub bind_err : {A B : Type 0} (r : Result A Fault) (f : A → Result B Fault) (d : Fault) → (r >>= f) ≡ Err d → (r ≡ Err d) ⊎ ((x : A) × (r ≡ Ok x) × (f x ≡ Err d))
bind_err (Ok x) f d e = inr (x, refl, e)
bind_err (Err g) f d e = inl cc

pub test_err : {A : Type 0} (b : Bool) (d : Fault) (r : Result A Fault) (g : Fault) → cond b (Err d) r ≡ Err g → ((b ≡ true) × (d ≡ g)) ⊎ ((b ≡ false) × (r ≡ Err g))
test_err true d r g e = inl (refl, cc)
test_err false d r g e = inr (refl, e)

pub pass_err : {A : Type 0} (b : Bool) (d : Fault) (x : A) (g : Fault) → cond b (Ok x) (Err d) ≡ Err g → (b ≡ false) × (d ≡ g)
pass_err true d x g e = absurd cc
pass_err false d x g e = (refl, cc)

no_ok : {A : Type 0} (r : Result A Fault) (x : A) (d : Fault) → r ≡ Ok x → r ≡ Err d → ⊥
no_ok r x d e f = cc

-- the bytes, where no white space stands in front
pub begun_stops : (comments : Bool) (bytes : List ℕ) (f : Fault) → begun comments bytes ≡ Err f → (at_these bytes Number ≡ f) × ((c : ℕ) (cs : List ℕ) → bytes ≡ c ∷ cs → begins_blank comments c ≡ false)
unfolding begun
begun_stops comments [] f e = (cc, λ c cs h. absurd cc)
begun_stops comments (a ∷ more) f e =
    let p = pass_err (begins_blank comments a) (at_these (a ∷ more) Number) (a ∷ more) f e in
    (p.1, λ c cs h. let same : a ≡ c = cc in rw (← same) p.0)

-- ---- what begins a number

one : IsPgmNumber (49 ∷ []) 1
one = (omega arith, refl, refl)

line_end : IsBlank (10 ∷ [])
line_end = ((10 ∷ []) ∷ [], omega arith, (inl (10, refl, refl), tt), refl)

pub begun_digits : (comments : Bool) (blank digits : List ℕ) (n : ℕ) → IsBlank blank → IsPgmNumber digits n → IsNumberBegun comments (blank ++ digits)
begun_digits comments blank digits n b h = (32, [], (blank ++ digits, n, 32, (blank, digits, b, h, refl), refl, refl))

pub begun_blank : (comments : Bool) (blank : List ℕ) → IsBlank blank → IsNumberBegun comments blank
begun_blank comments blank b = (49, 32 ∷ [], (blank ++ 49 ∷ [], 1, 32, (blank, 49 ∷ [], b, one, refl), refl, sym (append_assoc blank (49 ∷ []) (32 ∷ []))))

pub begun_open : (comments : Bool) (text : List ℕ) → IsBlank (text ++ 10 ∷ []) → IsNumberBegun comments text
begun_open comments text b = (
  10,
  49 ∷ 32 ∷ [],
  (
    text ++ 10 ∷ [] ++ 49 ∷ [],
    1,
    32,
    (text ++ 10 ∷ [], 49 ∷ [], b, one, refl),
    refl,
    sym (append_assoc (text ++ 10 ∷ []) (49 ∷ []) (32 ∷ []) ∙ append_assoc text (10 ∷ []) (49 ∷ 32 ∷ [])),
  ),
)

pub begun_none : (comments : Bool) → IsNumberBegun comments []
begun_none comments = begun_open comments [] line_end

-- ---- what stops a count

pub digit_stops : (bytes : List ℕ) (c : ℕ) (cs : List ℕ) → drop (digit_count bytes) bytes ≡ c ∷ cs → is_digit c ≡ false
digit_stops [] c cs e = absurd cc
digit_stops (b ∷ bs) c cs e =
    elim (cases_Bool (is_digit b)) [
      | inl d ↦ digit_stops bs c cs (rw d at e)
      | inr d ↦ let same : b ∷ bs ≡ c ∷ cs = rw d at e in let first : b ≡ c = cc in rw (← first) d
    ]

pub blank_stops : (inside : Bool) (bytes : List ℕ) (c : ℕ) (cs : List ℕ) → drop (blank_count inside bytes) bytes ≡ c ∷ cs → begins_blank true c ≡ false
blank_stops inside [] c cs e = absurd cc
blank_stops inside (b ∷ bs) c cs e =
    elim (cases_Bool (inside || begins_blank true b)) [
      | inl d ↦ blank_stops (is_open inside b) bs c cs (rw d at e)
      | inr d ↦ let same : b ∷ bs ≡ c ∷ cs = rw d at e in let first : b ≡ c = cc in rw (← first) (or_parts inside (begins_blank true b) d).1
    ]

-- where only white space is left, or a comment that never ends, LF would end it
closed_count : (inside : Bool) (bytes : List ℕ) → drop (blank_count inside bytes) bytes ≡ [] → blank_count inside (bytes ++ 10 ∷ 49 ∷ []) ≡ suc (length bytes)
closed_count true [] e = refl
closed_count false [] e = refl
closed_count inside (b ∷ bs) e =
    elim (cases_Bool (inside || begins_blank true b)) [
      | inl d ↦ rw d (ap suc (closed_count (is_open inside b) bs (rw d at e)))
      | inr d ↦ let none : b ∷ bs ≡ [] = rw d at e in absurd cc
    ]

pub closed_blank : (bytes : List ℕ) → BeginsBlank true bytes → drop (blank_count false bytes) bytes ≡ [] → IsBlank (bytes ++ 10 ∷ [])
closed_blank bytes b e =
    let count : blank_count false (bytes ++ 10 ∷ 49 ∷ []) ≡ suc (length bytes) = closed_count false bytes e in
    let grouped : bytes ++ 10 ∷ 49 ∷ [] ≡ (bytes ++ 10 ∷ []) ++ 49 ∷ [] = sym (append_assoc bytes (10 ∷ []) (49 ∷ [])) in
    let long : length (bytes ++ 10 ∷ []) ≡ suc (length bytes) = omega (arith, length-append bytes (10 ∷ [])) in
    let front : take (blank_count false (bytes ++ 10 ∷ 49 ∷ [])) (bytes ++ 10 ∷ 49 ∷ []) ≡ bytes ++ 10 ∷ [] = rw (count, grouped) (take_at (bytes ++ 10 ∷ []) (49 ∷ []) (suc (length bytes)) long) in
    let back : drop (blank_count false (bytes ++ 10 ∷ 49 ∷ [])) (bytes ++ 10 ∷ 49 ∷ []) ≡ 49 ∷ [] = rw (count, grouped) (drop_at (bytes ++ 10 ∷ []) (49 ∷ []) (suc (length bytes)) long) in
    let begins : bytes ++ 10 ∷ 49 ∷ [] ≡ b.0 ∷ (b.1 ++ 10 ∷ 49 ∷ []) = ap (λ (t : List ℕ). t ++ 10 ∷ 49 ∷ []) b.2 in
    let blank : 0 < length (drop (blank_count false (bytes ++ 10 ∷ 49 ∷ [])) (bytes ++ 10 ∷ 49 ∷ [])) → IsBlank (take (blank_count false (bytes ++ 10 ∷ 49 ∷ [])) (bytes ++ 10 ∷ 49 ∷ [])) =
    subst (λ (t : List ℕ). 0 < length (drop (blank_count false t) t) → IsBlank (take (blank_count false t) t)) (sym begins) (counted_blank b.0 (b.1 ++ 10 ∷ 49 ∷ []) b.3) in
    subst IsBlank front (blank (rw back (omega arith)))

-- ---- what no number goes on with

whole_reads : (comments : Bool) (text : List ℕ) → IsWhole comments text → (x : List ℕ × List ℕ) × (field_at comments text ≡ Ok x)
whole_reads comments text w =
    let a = field_again comments w.0 (w.2 ∷ []) w.1 w.3 (w.2, [], refl, w.4) in
    ((a.0, w.2 ∷ []), ap (field_at comments) w.5 ∙ a.2)

not_whole : (comments : Bool) (text : List ℕ) (f : Fault) → field_at comments text ≡ Err f → IsWhole comments text → ⊥
not_whole comments text f e w = let r = whole_reads comments text w in no_ok (field_at comments text) r.0 f r.1 e

no_digits : (comments : Bool) (c : ℕ) (cs : List ℕ) → is_digit c ≡ false → digits_at comments (c ∷ cs) ≡ Err (at_these (c ∷ cs) Number)
unfolding digits_at
no_digits comments c cs n = rw n refl

no_end : (comments : Bool) (digits : List ℕ) (c : ℕ) (cs : List ℕ) (n : ℕ) → IsPgmNumber digits n → is_digit c ≡ false → begins_blank comments c ≡ false → digits_at comments (digits ++ c ∷ cs) ≡ Err (at_these (c ∷ cs) Number)
unfolding digits_at begun
no_end comments digits c cs n h d b =
    let count : digit_count (digits ++ c ∷ cs) ≡ length digits = digit_count_again digits c cs h.1 d in
    let some : eqb (length digits) 0 ≡ false = ne_eqb _ _ (λ z. omega (arith, h.0)) in
    rw (count, some, drop_at digits (c ∷ cs) (length digits) refl, b) refl

-- behind white space a byte that is neither of it nor a digit
pub blank_cut : (comments : Bool) (blank : List ℕ) (c : ℕ) (rest : List ℕ) → IsBlank blank → begins_blank true c ≡ false → is_digit c ≡ false → Stops comments blank (c ∷ rest)
unfolding field_at
blank_cut comments blank c rest b n d more w = not_whole comments (blank ++ c ∷ more) (at_these (c ∷ more) Number) read w
  where
    read : field_at comments (blank ++ c ∷ more) ≡ Err (at_these (c ∷ more) Number)
    read = rw (blank_again blank c more b n, drop_at blank (c ∷ more) (length blank) refl) (no_digits comments c more d)

-- behind digits a byte that is none and ends no number
pub digits_cut : (comments : Bool) (blank digits : List ℕ) (n c : ℕ) (rest : List ℕ) → IsBlank blank → IsPgmNumber digits n → is_digit c ≡ false → begins_blank comments c ≡ false → Stops comments (blank ++ digits) (c ∷ rest)
unfolding field_at
digits_cut comments blank digits n c rest b h d s more w = not_whole comments (blank ++ digits ++ c ∷ more) (at_these (c ∷ more) Number) read w
  where
    read : field_at comments (blank ++ digits ++ c ∷ more) ≡ Err (at_these (c ∷ more) Number)
    read =
        let f = first_digit digits n h in
        let count : blank_count false (blank ++ (digits ++ c ∷ more)) ≡ length blank = subst (λ (t : List ℕ). blank_count false (blank ++ (t ++ c ∷ more)) ≡ length blank) (sym f.2) (blank_again blank f.0 (f.1 ++ c ∷ more) b f.3) in
        ap (field_at comments) (append_assoc blank digits (c ∷ more)) ∙ rw (count, drop_at blank (digits ++ c ∷ more) (length blank) refl) (no_end comments digits c more n h d s)

-- in white space's place a byte that begins none
pub front_cut : (comments : Bool) (c : ℕ) (rest : List ℕ) → begins_blank true c ≡ false → Stops comments [] (c ∷ rest)
front_cut comments c rest n more w =
    let grouped : c ∷ more ≡ w.3.0 ++ (w.3.1 ++ w.2 ∷ []) = w.5 ∙ ap (λ (t : List ℕ). t ++ w.2 ∷ []) w.3.4 ∙ append_assoc w.3.0 w.3.1 (w.2 ∷ []) in
    let b = blank_begins w.3.0 (w.3.1 ++ w.2 ∷ []) w.3.2 in
    let both : c ∷ more ≡ b.0 ∷ b.1 = grouped ∙ b.2 in
    let same : c ≡ b.0 = cc in
    let begins : begins_blank true c ≡ true = rw same b.3 in
    true_no_false (begins_blank true c) begins n
  where
    true_no_false : (t : Bool) → t ≡ true → t ≡ false → ⊥
    true_no_false t p q = cc

-- ---- a field that isn't read

pub record FieldStops (comments : Bool) (bytes : List ℕ) (f : Fault) : Type 0 where
  pub part : List ℕ
  pub here : List ℕ
  pub fault : at_these here Number ≡ f
  pub begun : IsNumberBegun comments part
  pub stops : Stops comments part here
  pub some : 0 < length part
  pub parts : bytes ≡ part ++ here

some_counted : (bytes : List ℕ) → BeginsBlank true bytes → 0 < length (take (blank_count false bytes) bytes)
some_counted bytes b = subst (λ (t : List ℕ). 0 < length (take (blank_count false t) t)) (sym b.2) (rw b.3 (omega arith))

-- without a digit behind the white space
no_number : (comments : Bool) (bytes rest : List ℕ) (f : Fault) → BeginsBlank true bytes → drop (blank_count false bytes) bytes ≡ rest → digit_count rest ≡ 0 → at_these rest Number ≡ f → FieldStops comments bytes f
no_number comments bytes [] f b e none fault =
    record { part = bytes; here = []; fault = fault; begun = begun_open comments bytes (closed_blank bytes b e); stops = tt; some = omega (arith, ap length b.2); parts = sym (append-nil bytes) }
no_number comments bytes (c ∷ cs) f b e none fault =
    let k = blank_count false bytes in
    let left : 0 < length (drop k bytes) = rw e (omega arith) in
    let blank : IsBlank (take k bytes) = subst (λ (t : List ℕ). 0 < length (drop (blank_count false t) t) → IsBlank (take (blank_count false t) t)) (sym b.2) (counted_blank b.0 b.1 b.3) left in
    record {
      part = take k bytes;
      here = c ∷ cs;
      fault = fault;
      begun = begun_blank comments (take k bytes) blank;
      stops = blank_cut comments (take k bytes) c cs blank (blank_stops false bytes c cs e) (digit_stops (c ∷ cs) c cs (rw none refl));
      some = some_counted bytes b;
      parts = sym (take-append-drop k bytes) ∙ ap (λ (t : List ℕ). take k bytes ++ t) e;
    }

-- with a digit, and something behind the digits that ends no number
no_number_end : (comments : Bool) (bytes rest : List ℕ) (f : Fault) → BeginsBlank true bytes → (digit_count (drop (blank_count false bytes) bytes) ≡ 0 → ⊥)
    → drop (digit_count (drop (blank_count false bytes) bytes)) (drop (blank_count false bytes) bytes) ≡ rest
    → at_these rest Number ≡ f → ((c : ℕ) (cs : List ℕ) → rest ≡ c ∷ cs → begins_blank comments c ≡ false) → FieldStops comments bytes f
no_number_end comments bytes rest f b some e fault stops =
    let k = blank_count false bytes in
    let behind = drop k bytes in
    let n = digit_count behind in
    let long : n ≤ length behind = digit_count-le behind in
    let left : 0 < length behind = omega arith in
    let blank : IsBlank (take k bytes) = subst (λ (t : List ℕ). 0 < length (drop (blank_count false t) t) → IsBlank (take (blank_count false t) t)) (sym b.2) (counted_blank b.0 b.1 b.3) left in
    let number : IsPgmNumber (take n behind) (number_from 0 (take n behind)) = (omega (arith, length-take-le n behind long), all_digits behind, refl) in
    let first : 0 < length (take k bytes) = some_counted bytes b in
    record {
      part = take k bytes ++ take n behind;
      here = rest;
      fault = fault;
      begun = begun_digits comments (take k bytes) (take n behind) (number_from 0 (take n behind)) blank number;
      stops = cut rest e stops (take k bytes) (take n behind) blank number;
      some = omega (arith, length-append (take k bytes) (take n behind));
      parts = sym (take-append-drop k bytes) ∙ ap (λ (t : List ℕ). take k bytes ++ t) (sym (take-append-drop n behind) ∙ ap (λ (t : List ℕ). take n behind ++ t) e) ∙ sym (append_assoc (take k bytes) (take n behind) rest);
    }
  where
    cut : (rest : List ℕ) → drop (digit_count (drop (blank_count false bytes) bytes)) (drop (blank_count false bytes) bytes) ≡ rest → ((c : ℕ) (cs : List ℕ) → rest ≡ c ∷ cs → begins_blank comments c ≡ false)
        → (blank digits : List ℕ) → IsBlank blank → IsPgmNumber digits (number_from 0 digits) → Stops comments (blank ++ digits) rest
    cut [] e s blank digits is number = tt
    cut (c ∷ cs) e s blank digits is number = digits_cut comments blank digits (number_from 0 digits) c cs is number (digit_stops (drop (blank_count false bytes) bytes) c cs e) (s c cs refl)

pub field_stops : (comments : Bool) (bytes : List ℕ) (f : Fault) → BeginsBlank true bytes → field_at comments bytes ≡ Err f → FieldStops comments bytes f
unfolding field_at digits_at
field_stops comments bytes f b e =
    let behind = drop (blank_count false bytes) bytes in
    let n = digit_count behind in
    let rest = drop n behind in
    let both : List ℕ → Result (List ℕ × List ℕ) Fault = λ r. Ok (take n behind, r) in
    elim (test_err (eqb n 0) (at_these behind Number) (begun comments rest >>= both) f e) [
      | inl z ↦ no_number comments bytes behind f b refl (eqb-true _ _ z.0) z.1
      | inr s ↦
          elim (bind_err (begun comments rest) both f s.1) [
            | inl g ↦ let h = begun_stops comments rest f g in no_number_end comments bytes rest f b (eqb-false _ _ s.0) refl h.0 h.1
            | inr g ↦ absurd (ok_no_err (take n behind, g.0) f g.2)
          ]
    ]
  where
    ok_no_err : (x : List ℕ × List ℕ) (d : Fault) → ◌≡◌ {A = Result (List ℕ × List ℕ) Fault} (Ok x) (Err d) → ⊥
    ok_no_err x d h = cc
