-- A number behind white space, read and spelled.
use Rattle.std.proofs.Common.{◌≡◌, ℕ, suc, ◌<◌, ◌≤◌, List, [], ◌∷◌, ◌++◌, length, take, drop, Bool, true, false, cond, eqb, Result, Ok, Err, refl, sym, ap, ◌∙◌, append_assoc, arith, inl, inr, subst}
use Rattle.std.specs.List.{list_all}
use Rattle.std.proofs.lemmas.Bool.{cases_Bool, eqb-false, ne_eqb, and_parts}
use Rattle.std.proofs.lemmas.Bool.Decides.{nat_tests}
use Rattle.std.proofs.lemmas.List.{length-append, length-take-le, take-append-drop, take_at, drop_at}
use Rattle.pf_text.specs.Meaning.Words.{is_digit}
use Rattle.pf_images.specs.declared.fault.Fault.{Fault}
use Rattle.pf_images.specs.declared.fault.PgmKind.TheVariants.{Number}
use Rattle.pf_images.specs.Meaning.Pgm.{number_from, IsPgmNumber, IsBlank, IsField, begins_blank}
use Rattle.pf_images.specs.Steps.Reading.{◌>>=◌, at_these, blank_count, digit_count, begun, digits_at, field_at}
use Rattle.pf_images.proofs.Blanks.{counted_blank, blank_again}

-- the value of a step that did not fail
pub bind_ok : {A B : Type 0} (r : Result A Fault) (f : A → Result B Fault) (y : B) → (r >>= f) ≡ Ok y → (x : A) × (r ≡ Ok x) × (f x ≡ Ok y)
bind_ok (Ok x) f y e = (x, refl, e)
bind_ok (Err d) f y e = absurd cc

-- a test that did not fail
pub test_ok : {A : Type 0} (b : Bool) (d : Fault) (r : Result A Fault) (y : A) → cond b (Err d) r ≡ Ok y → (b ≡ false) × (r ≡ Ok y)
test_ok true d r y e = absurd cc
test_ok false d r y e = (refl, e)

-- a test that passed
pub pass_ok : {A : Type 0} (b : Bool) (d : Fault) (x y : A) → cond b (Ok x) (Err d) ≡ Ok y → (b ≡ true) × (x ≡ y)
pass_ok true d x y e = (refl, cc)
pass_ok false d x y e = absurd cc

pub ok_is : {A : Type 0} (x y : A) → ◌≡◌ {A = Result A Fault} (Ok x) (Ok y) → x ≡ y
ok_is x y e = cc

-- white space stands in front
abbrev pub BeginsBlank : Bool → List ℕ → Type 0
BeginsBlank comments rest = (c : ℕ) × (cs : List ℕ) × (rest ≡ c ∷ cs) × (begins_blank comments c ≡ true)

pub begun_takes : (comments : Bool) (bytes rest : List ℕ) → begun comments bytes ≡ Ok rest → (rest ≡ bytes) × BeginsBlank comments bytes
unfolding begun
begun_takes comments [] rest e = absurd cc
begun_takes comments (c ∷ cs) rest e =
    let p = pass_ok (begins_blank comments c) (at_these (c ∷ cs) Number) (c ∷ cs) rest e in
    (sym p.1, (c, cs, refl, p.0))

pub begun_again : (comments : Bool) (bytes : List ℕ) → BeginsBlank comments bytes → begun comments bytes ≡ Ok bytes
unfolding begun
begun_again comments bytes h = subst (λ (t : List ℕ). begun comments t ≡ Ok t) (sym h.2) (rw h.3 refl)

-- ---- digits

pub all_digits : (bytes : List ℕ) → list_all is_digit (take (digit_count bytes) bytes) ≡ true
all_digits [] = refl
all_digits (c ∷ cs) =
    elim (cases_Bool (is_digit c)) [
      | inl e ↦ rw (e, all_digits cs, e) refl
      | inr e ↦ rw e refl
    ]

pub digit_count-le : (bytes : List ℕ) → digit_count bytes ≤ length bytes
digit_count-le [] = omega arith
digit_count-le (c ∷ cs) =
    elim (cases_Bool (is_digit c)) [
      | inl e ↦ rw e (omega (arith, digit_count-le cs))
      | inr e ↦ rw e (omega arith)
    ]

pub digit_count_again : (digits : List ℕ) (c : ℕ) (cs : List ℕ) → list_all is_digit digits ≡ true → is_digit c ≡ false → digit_count (digits ++ c ∷ cs) ≡ length digits
digit_count_again [] c cs all n = rw n refl
digit_count_again (d ∷ ds) c cs all n =
    let parts = and_parts (is_digit d) (list_all is_digit ds) all in
    rw parts.0 (ap suc (digit_count_again ds c cs parts.1 n))

blank_no_digit : (comments : Bool) (c : ℕ) → begins_blank comments c ≡ true → is_digit c ≡ false
blank_no_digit true c b = grind (arith, nat_tests)
blank_no_digit false c b = grind (arith, nat_tests)

pub digit_no_blank : (c : ℕ) → is_digit c ≡ true → begins_blank true c ≡ false
digit_no_blank c d = grind (arith, nat_tests)

-- ---- digits and what ends them

pub record DigitsTake (comments : Bool) (bytes digits rest : List ℕ) : Type 0 where
  pub number : IsPgmNumber digits (number_from 0 digits)
  pub parts : bytes ≡ digits ++ rest
  pub next : BeginsBlank comments rest

digits_take : (comments : Bool) (bytes : List ℕ) (x : List ℕ × List ℕ) → digits_at comments bytes ≡ Ok x → DigitsTake comments bytes x.0 x.1
unfolding digits_at
digits_take comments bytes x e =
    let t = test_ok (eqb (digit_count bytes) 0) (at_these bytes Number) (begun comments (drop (digit_count bytes) bytes) >>= λ rest. Ok (take (digit_count bytes) bytes, rest)) x e in
    let some : digit_count bytes ≡ 0 → ⊥ = eqb-false _ _ t.0 in
    let b = bind_ok (begun comments (drop (digit_count bytes) bytes)) (λ rest. Ok (take (digit_count bytes) bytes, rest)) x t.1 in
    let rest = begun_takes comments (drop (digit_count bytes) bytes) b.0 b.1 in
    let pair : (take (digit_count bytes) bytes, drop (digit_count bytes) bytes) ≡ x = rw rest.0 at (ok_is (take (digit_count bytes) bytes, b.0) x b.2) in
    subst (λ (y : List ℕ × List ℕ). DigitsTake comments bytes y.0 y.1) pair (record {
      number = (omega (arith, length-take-le (digit_count bytes) bytes (digit_count-le bytes)), all_digits bytes, refl);
      parts = sym (take-append-drop (digit_count bytes) bytes);
      next = rest.1;
    })

pub digits_again : (comments : Bool) (digits rest : List ℕ) (n : ℕ) → IsPgmNumber digits n → BeginsBlank comments rest → digits_at comments (digits ++ rest) ≡ Ok (digits, rest)
unfolding digits_at
digits_again comments digits rest n h b =
    let count : digit_count (digits ++ rest) ≡ length digits = subst (λ (t : List ℕ). digit_count (digits ++ t) ≡ length digits) (sym b.2) (digit_count_again digits b.0 b.1 h.1 (blank_no_digit comments b.0 b.3)) in
    let some : eqb (length digits) 0 ≡ false = ne_eqb _ _ (λ z. omega (arith, h.0)) in
    rw (count, some, drop_at digits rest (length digits) refl, take_at digits rest (length digits) refl, begun_again comments rest b) refl

-- ---- fields

pub record FieldTakes (comments : Bool) (bytes digits rest : List ℕ) : Type 0 where
  pub blank : List ℕ
  pub blank_is : IsBlank blank
  pub number : IsPgmNumber digits (number_from 0 digits)
  pub text : List ℕ
  pub text_is : text ≡ blank ++ digits
  pub field : IsField text (number_from 0 digits)
  pub parts : bytes ≡ text ++ rest
  pub next : BeginsBlank comments rest

pub field_takes : (comments : Bool) (bytes : List ℕ) (x : List ℕ × List ℕ) → BeginsBlank true bytes → field_at comments bytes ≡ Ok x → FieldTakes comments bytes x.0 x.1
unfolding field_at
field_takes comments bytes x b e =
    let k = blank_count false bytes in
    let d = digits_take comments (drop k bytes) x e in
    let left : 0 < length (drop k bytes) = omega (arith, ap length d.parts, length-append x.0 x.1, d.number.0) in
    let blank : IsBlank (take k bytes) = subst (λ (t : List ℕ). 0 < length (drop (blank_count false t) t) → IsBlank (take (blank_count false t) t)) (sym b.2) (counted_blank b.0 b.1 b.3) left in
    record {
      blank = take k bytes;
      blank_is = blank;
      number = d.number;
      text = take k bytes ++ x.0;
      text_is = refl;
      field = (take k bytes, x.0, blank, d.number, refl);
      parts = sym (take-append-drop k bytes) ∙ ap (λ (t : List ℕ). take k bytes ++ t) d.parts ∙ sym (append_assoc (take k bytes) x.0 x.1);
      next = d.next;
    }

pub first_digit : (digits : List ℕ) (n : ℕ) → IsPgmNumber digits n → (d : ℕ) × (ds : List ℕ) × (digits ≡ d ∷ ds) × (begins_blank true d ≡ false)
first_digit [] n h = absurd (omega (arith, h.0))
first_digit (d ∷ ds) n h = (d, ds, refl, digit_no_blank d (and_parts (is_digit d) (list_all is_digit ds) h.1).0)

pub field_reads : (comments : Bool) (blank digits rest : List ℕ) (n : ℕ) → IsBlank blank → IsPgmNumber digits n → BeginsBlank comments rest → field_at comments (blank ++ (digits ++ rest)) ≡ Ok (digits, rest)
unfolding field_at
field_reads comments blank digits rest n b h e =
    let f = first_digit digits n h in
    let count : blank_count false (blank ++ (digits ++ rest)) ≡ length blank = subst (λ (t : List ℕ). blank_count false (blank ++ (t ++ rest)) ≡ length blank) (sym f.2) (blank_again blank f.0 (f.1 ++ rest) b f.3) in
    rw (count, drop_at blank (digits ++ rest) (length blank) refl) (digits_again comments digits rest n h e)

-- a field is read again, whatever stands behind its end
pub field_again : (comments : Bool) (text rest : List ℕ) (n : ℕ) → IsField text n → BeginsBlank comments rest → (digits : List ℕ) × IsPgmNumber digits n × (field_at comments (text ++ rest) ≡ Ok (digits, rest))
field_again comments text rest n h b =
    let grouped : text ++ rest ≡ h.0 ++ (h.1 ++ rest) = ap (λ (t : List ℕ). t ++ rest) h.4 ∙ append_assoc h.0 h.1 rest in
    (h.1, h.3, ap (field_at comments) grouped ∙ field_reads comments h.0 h.1 rest n h.2 h.3 b)
