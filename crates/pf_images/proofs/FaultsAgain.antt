-- Bytes with a fault where the definitions say are refused for that fault, so no bytes have two first faults.
use Rattle.std.proofs.Common.{◌≡◌, ℕ, suc, ◌+◌, ◌-◌, ◌*◌, ◌^◌, ◌<◌, ◌≤◌, List, [], ◌∷◌, ◌++◌, length, Bool, true, false, ◌&&◌, eqb, leb, ltb, Result, Ok, Err, refl, sym, ap, ◌∙◌, append_assoc, arith, ◌⊎◌, inl, inr, subst}
use Rattle.std.specs.Prelude.{codes}
use Rattle.std.proofs.lemmas.Bool.{cases_Bool, eqb-true, and_parts, or_cases, and_from, false_from_ne_true, le-leb, leb-true, ltb-true, le-ltb, lt-ltb}
use Rattle.std.proofs.lemmas.List.{length-append, append-nil, drop_at}
use Rattle.pf_text.proofs.Lists.{Fork, fork}
use Rattle.pf_ints.specs.declared.lane.LaneType.{LaneType}
use Rattle.pf_ints.specs.Meaning.Lanes.{lane_width}
use Rattle.pf_images.specs.declared.fault.Fault.{Fault}
use Rattle.pf_images.specs.declared.fault.PgmKind.{PgmKind}
use Rattle.pf_images.specs.declared.fault.PgmKind.TheVariants.{Magic, Number, Size, Maxval, Short, Extra}
use Rattle.pf_images.specs.declared.header.Header.{Header}
use Rattle.pf_images.specs.Meaning.Pgm.{is_white, begins_blank, number_from, IsPgmNumber, IsBlank, IsPgmHeader, IsMaxval, sample_bytes}
use Rattle.pf_images.specs.Meaning.Faults.{IsSide, AreSizes, may_comment, IsWhole, IsNumberBegun, Stops, IsNumberAt, IsBehindHeader, IsFaultBetween, IsFaultAt}
use Rattle.pf_images.specs.Steps.Reading.{at_these, at_number, begun, field_at, side_of, header_height, maxval_of, magic_of, header_of, counted, parts_of, image_of}
use Rattle.pf_images.proofs.Blanks.{blank_begins}
use Rattle.pf_images.proofs.Fields.{BeginsBlank, FieldTakes, field_takes, field_again, field_reads}
use Rattle.pf_images.proofs.Headers.{at_third, at_second, at_first, magic_again, start_again, first_again, second_again, field_begins, side_again, header_again}
use Rattle.pf_images.proofs.CutOff.{FieldStops, field_stops}

cases_result : {A : Type 0} (r : Result A Fault) → ((x : A) × (r ≡ Ok x)) ⊎ ((f : Fault) × (r ≡ Err f))
cases_result (Ok x) = inl (x, refl)
cases_result (Err f) = inr (f, refl)

-- ---- a number that is cut off

-- no whole number goes on
whole_once : (comments : Bool) (text more : List ℕ) → IsWhole comments text → IsWhole comments (text ++ more) → length more ≡ 0
whole_once comments text more v w =
    let longer_text : text ++ more ≡ v.0 ++ v.2 ∷ more = ap (λ (t : List ℕ). t ++ more) v.5 ∙ append_assoc v.0 (v.2 ∷ []) more in
    let a = field_again comments v.0 (v.2 ∷ more) v.1 v.3 (v.2, more, refl, v.4) in
    let b = field_again comments w.0 (w.2 ∷ []) w.1 w.3 (w.2, [], refl, w.4) in
    let one : field_at comments (text ++ more) ≡ Ok (a.0, v.2 ∷ more) = ap (field_at comments) longer_text ∙ a.2 in
    let two : field_at comments (text ++ more) ≡ Ok (b.0, w.2 ∷ []) = ap (field_at comments) w.5 ∙ b.2 in
    rests (a.0, v.2 ∷ more) (b.0, w.2 ∷ []) (sym one ∙ two) refl refl
  where
    rests : (x y : List ℕ × List ℕ) → ◌≡◌ {A = Result (List ℕ × List ℕ) Fault} (Ok x) (Ok y) → length x.1 ≡ suc (length more) → length y.1 ≡ 1 → length more ≡ 0
    rests x y e p q = let same : x ≡ y = cc in omega (arith, ap (λ (z : List ℕ × List ℕ). length z.1) same)

begun_begins : (comments : Bool) (part rest : List ℕ) → IsNumberBegun comments part → 0 < length part → BeginsBlank true (part ++ rest)
begun_begins comments [] rest b some = absurd (omega arith)
begun_begins comments (p ∷ part) rest b some =
    let w = b.2 in
    let f = blank_begins w.3.0 (w.3.1 ++ w.2 ∷ []) w.3.2 in
    let grouped : p ∷ (part ++ b.0 ∷ b.1) ≡ f.0 ∷ f.1 = w.5 ∙ ap (λ (t : List ℕ). t ++ w.2 ∷ []) w.3.4 ∙ append_assoc w.3.0 w.3.1 (w.2 ∷ []) ∙ f.2 in
    let same : p ≡ f.0 = cc in
    (p, part ++ rest, refl, rw same f.3)

-- a text that begins a number isn't read past, and one that stops isn't read on
cut_again : (comments : Bool) (part here : List ℕ) → IsNumberBegun comments part → Stops comments part here → 0 < length part → field_at comments (part ++ here) ≡ Err (at_these here Number)
cut_again comments part here b s some =
    elim (cases_result (field_at comments (part ++ here))) [
      | inl x ↦ absurd (not_read x.0 (field_takes comments (part ++ here) x.0 (begun_begins comments part here b some) x.1))
      | inr f ↦ let t = field_stops comments (part ++ here) f.0 (begun_begins comments part here b some) f.1 in f.1 ∙ ap Err (same_fault f.0 t)
    ]
  where
    stops_at : (c : ℕ) (rest more : List ℕ) (text there : List ℕ) → Stops comments text there → there ≡ c ∷ rest → IsWhole comments (text ++ c ∷ more) → ⊥
    stops_at c rest more text there s e = subst (λ (t : List ℕ). Stops comments text t → IsWhole comments (text ++ c ∷ more) → ⊥) (sym e) (λ h w. h more w) s

    on : (w more : List ℕ) → IsWhole comments w → part ≡ w ++ more → ⊥
    on w more whole e =
        let none = whole_once comments w (more ++ b.0 ∷ b.1) whole (subst (IsWhole comments) (ap (λ (u : List ℕ). u ++ b.0 ∷ b.1) e ∙ append_assoc w more (b.0 ∷ b.1)) b.2) in
        absurd (omega (arith, none, length-append more (b.0 ∷ b.1)))

    past : (w rest : List ℕ) → part ++ here ≡ w ++ rest → IsWhole comments w → Fork part here w rest → ⊥
    past w rest parts whole (inr (inl l)) = stops_at l.here (l.more ++ rest) l.more part here s l.left (subst (IsWhole comments) l.longer whole)
    past w rest parts whole (inl e) = on w [] whole (e.0 ∙ sym (append-nil w))
    past w rest parts whole (inr (inr l)) = on w (l.here ∷ l.more) whole l.longer

    not_read : (x : List ℕ × List ℕ) → FieldTakes comments (part ++ here) x.0 x.1 → ⊥
    not_read x t =
        let c = t.next.0 in
        let w : List ℕ = t.text ++ c ∷ [] in
        let whole : IsWhole comments w = (t.text, number_from 0 x.0, c, t.field, t.next.3, refl) in
        let parts : part ++ here ≡ w ++ t.next.1 = t.parts ∙ ap (λ (u : List ℕ). t.text ++ u) t.next.2 ∙ sym (append_assoc t.text (c ∷ []) t.next.1) in
        past w t.next.1 parts whole (fork part here w t.next.1 parts)

    same_fault : (f : Fault) → FieldStops comments (part ++ here) f → f ≡ at_these here Number
    same_fault f t =
        by (fork part here t.part t.here t.parts)
      where
        by : Fork part here t.part t.here → f ≡ at_these here Number
        by (inl same) = sym t.fault ∙ ap (λ (u : List ℕ). at_these u Number) (sym same.1)
        by (inr (inl l)) =
            absurd (stops_at l.here (l.more ++ t.here) (l.more ++ t.begun.0 ∷ t.begun.1) part here s l.left
            (subst (IsWhole comments) (ap (λ (u : List ℕ). u ++ t.begun.0 ∷ t.begun.1) l.longer ∙ append_assoc part (l.here ∷ l.more) (t.begun.0 ∷ t.begun.1)) t.begun.2))
        by (inr (inr l)) =
            absurd (stops_at l.here (l.more ++ here) (l.more ++ b.0 ∷ b.1) t.part t.here t.stops l.left
            (subst (IsWhole comments) (ap (λ (u : List ℕ). u ++ b.0 ∷ b.1) l.longer ∙ append_assoc t.part (l.here ∷ l.more) (b.0 ∷ b.1)) b.2))

-- in the place of the first white space a byte that begins none
start_cut : (here : List ℕ) → Stops true [] here → begun true here ≡ Err (at_these here Number)
unfolding begun
start_cut [] s = refl
start_cut (c ∷ cs) s =
    elim (cases_Bool (begins_blank true c)) [
      | inl b ↦ absurd (goes_on b)
      | inr b ↦ rw b refl
    ]
  where
    one : IsPgmNumber (49 ∷ []) 1
    one = (omega arith, refl, refl)

    hash : IsWhole true (35 ∷ 10 ∷ 49 ∷ 32 ∷ [])
    hash = (35 ∷ 10 ∷ 49 ∷ [], 1, 32, (35 ∷ 10 ∷ [], 49 ∷ [], ((35 ∷ 10 ∷ []) ∷ [], omega arith, (inr ([], 10, tt, refl, refl), tt), refl), one, refl), refl, refl)

    goes_on : begins_blank true c ≡ true → ⊥
    goes_on b =
        elim (or_cases (is_white c) (true && eqb c 35) b) [
          | inl w ↦ s (49 ∷ 32 ∷ []) (c ∷ 49 ∷ [], 1, 32, (c ∷ [], 49 ∷ [], ((c ∷ []) ∷ [], omega arith, (inl (c, w, refl), tt), refl), one, refl), refl, refl)
          | inr h ↦ s (10 ∷ 49 ∷ 32 ∷ []) (subst (λ (n : ℕ). IsWhole true (n ∷ 10 ∷ 49 ∷ 32 ∷ [])) (sym (eqb-true c 35 h)) hash)
        ]

-- ---- headers up to a number

magic_refused : (bytes : List ℕ) → ((rest : List ℕ) → bytes ≡ codes "P5" ++ rest → ⊥) → magic_of bytes ≡ Err (at_these bytes Magic)
unfolding magic_of
magic_refused [] never = refl
magic_refused (a ∷ []) never = refl
magic_refused (a ∷ b ∷ more) never =
    elim (cases_Bool (eqb a 80 && eqb b 53)) [
      | inl t ↦ let p = and_parts (eqb a 80) (eqb b 53) t in absurd (never more (rw (eqb-true a 80 p.0, eqb-true b 53 p.1) refl))
      | inr t ↦ rw t refl
    ]

magic_err : (ty : LaneType) (bytes : List ℕ) (f : Fault) → magic_of bytes ≡ Err f → header_of ty bytes ≡ Err f
unfolding header_of
magic_err ty bytes f e = rw e refl

start_err : (ty : LaneType) (rest : List ℕ) (f : Fault) → begun true rest ≡ Err f → header_of ty (codes "P5" ++ rest) ≡ Err f
unfolding header_of
start_err ty rest f e = rw (magic_again rest, e) refl

head_none : (ty : LaneType) (head tail : List ℕ) → IsPgmHeader [] head → BeginsBlank true tail → header_of ty (head ++ tail) ≡ at_first ty tail
head_none ty head tail is b = ap (λ (t : List ℕ). header_of ty (t ++ tail)) is ∙ start_again ty tail b

head_one : (ty : LaneType) (head : List ℕ) (w : ℕ) (tail : List ℕ) → IsPgmHeader (w ∷ []) head → IsSide w → BeginsBlank true tail → header_of ty (head ++ tail) ≡ at_second ty w tail
head_one ty head w tail is wide b =
    let grouped : head ++ tail ≡ is.0 ++ (is.1 ++ tail) = ap (λ (t : List ℕ). t ++ tail) is.4 ∙ append_assoc is.0 is.1 tail in
    ap (header_of ty) grouped ∙ head_none ty is.0 (is.1 ++ tail) is.2 (field_begins is.1 tail w is.3) ∙ first_again ty is.1 w tail is.3 wide b

head_two : (ty : LaneType) (head : List ℕ) (w h : ℕ) (tail : List ℕ) → IsPgmHeader (h ∷ w ∷ []) head → AreSizes (h ∷ w ∷ []) → BeginsBlank true tail → header_of ty (head ++ tail) ≡ at_third ty w h tail
head_two ty head w h tail is sizes b =
    let grouped : head ++ tail ≡ is.0 ++ (is.1 ++ tail) = ap (λ (t : List ℕ). t ++ tail) is.4 ∙ append_assoc is.0 is.1 tail in
    ap (header_of ty) grouped ∙ head_one ty is.0 w (is.1 ++ tail) is.2 sizes.0 (field_begins is.1 tail h is.3) ∙ second_again ty is.1 w h tail is.3 sizes.1 sizes.2 b

cut_some : (ty : LaneType) (numbers head part here : List ℕ) → IsPgmHeader numbers head → AreSizes numbers → IsNumberBegun (may_comment numbers) part → Stops (may_comment numbers) part here → 0 < length part
    → header_of ty (head ++ (part ++ here)) ≡ Err (at_these here Number)
cut_some ty [] head part here is sizes b s some = head_none ty head (part ++ here) is (begun_begins true part here b some) ∙ rw (cut_again true part here b s some) refl
cut_some ty (w ∷ []) head part here is sizes b s some = head_one ty head w (part ++ here) is sizes (begun_begins true part here b some) ∙ rw (cut_again true part here b s some) refl
cut_some ty (h ∷ w ∷ []) head part here is sizes b s some = head_two ty head w h (part ++ here) is sizes (begun_begins false part here b some) ∙ rw (cut_again false part here b s some) refl
cut_some ty (a ∷ h ∷ w ∷ more) head part here is sizes b s some = absurd sizes

cut_header : (ty : LaneType) (numbers head part here : List ℕ) → IsPgmHeader numbers head → AreSizes numbers → IsNumberBegun (may_comment numbers) part → Stops (may_comment numbers) part here → (part ≡ [] → numbers ≡ [])
    → header_of ty (head ++ (part ++ here)) ≡ Err (at_these here Number)
cut_header ty numbers head [] here is sizes b s ended =
    let first : head ≡ codes "P5" = subst (λ (ns : List ℕ). IsPgmHeader ns head) (ended refl) is in
    let stops : Stops true [] here = subst (λ (ns : List ℕ). Stops (may_comment ns) [] here) (ended refl) s in
    ap (λ (t : List ℕ). header_of ty (t ++ here)) first ∙ start_err ty here (at_these here Number) (start_cut here stops)
cut_header ty numbers head (p ∷ part) here is sizes b s ended = cut_some ty numbers head (p ∷ part) here is sizes b s (omega arith)

-- ---- numbers past their limits

side_refused : (field : List ℕ × List ℕ) (n : ℕ) → number_from 0 field.0 ≡ n → (IsSide n → ⊥) → side_of field ≡ Err (at_number field Size)
unfolding side_of
side_refused field n e never =
    let fails : (leb 1 n && leb n 8192) ≡ false = false_from_ne_true _ (λ t. let p = and_parts (leb 1 n) (leb n 8192) t in never (record { some = leb-true _ _ p.0; most = leb-true _ _ p.1 })) in
    rw (e, fails) refl

height_refused : (w : ℕ) (field : List ℕ × List ℕ) (n : ℕ) → IsSide w → number_from 0 field.0 ≡ n → (AreSizes (n ∷ w ∷ []) → ⊥) → header_height w field ≡ Err (at_number field Size)
unfolding header_height
height_refused w field n wide e never =
    elim (cases_Bool (leb 1 n && leb n 8192)) [
      | inl t ↦
          let p = and_parts (leb 1 n) (leb n 8192) t in
          let high : IsSide n = record { some = leb-true _ _ p.0; most = leb-true _ _ p.1 } in
          let fails : leb (w * n) 16777216 ≡ false = false_from_ne_true _ (λ u. never (wide, high, leb-true _ _ u)) in
          rw (side_again field n e high, fails) refl
      | inr t ↦ rw (side_refused field n e (λ h. both_ways t (and_from _ _ (le-leb _ _ h.some) (le-leb _ _ h.most)))) refl
    ]
  where
    both_ways : (leb 1 n && leb n 8192) ≡ false → (leb 1 n && leb n 8192) ≡ true → ⊥
    both_ways p q = cc

maxval_refused : (ty : LaneType) (field : List ℕ × List ℕ) (n : ℕ) → number_from 0 field.0 ≡ n → (IsMaxval ty n → ⊥) → maxval_of ty field ≡ Err (at_number field Maxval)
unfolding maxval_of
maxval_refused ty field n e never =
    let fails : (leb 1 n && ltb n (2 ^ lane_width ty)) ≡ false = false_from_ne_true _ (λ t. let p = and_parts (leb 1 n) (ltb n (2 ^ lane_width ty)) t in never (leb-true _ _ p.0, ltb-true _ _ p.1)) in
    rw (e, fails) refl

same_place : (digits rest : List ℕ) (kind : PgmKind) → at_number (digits, rest) kind ≡ at_these (digits ++ rest) kind
same_place digits rest kind = ap (λ (n : ℕ). let f : Fault = record { left = n; kind = kind } in f) (sym (length-append digits rest))

size_header : (ty : LaneType) (numbers : List ℕ) (n : ℕ) (head blank digits rest : List ℕ) → IsPgmHeader numbers head → AreSizes numbers → IsBlank blank → IsPgmNumber digits n → BeginsBlank (may_comment numbers) rest
    → length numbers ≤ 1 → (AreSizes (n ∷ numbers) → ⊥) → header_of ty (head ++ (blank ++ (digits ++ rest))) ≡ Err (at_these (digits ++ rest) Size)
size_header ty [] n head blank digits rest is sizes b h e few never =
    head_none ty head (blank ++ (digits ++ rest)) is (blank_begins blank (digits ++ rest) b)
    ∙ rw (field_reads true blank digits rest n b h e, side_refused (digits, rest) n h.2 never) (ap Err (same_place digits rest Size))
size_header ty (w ∷ []) n head blank digits rest is sizes b h e few never =
    head_one ty head w (blank ++ (digits ++ rest)) is sizes (blank_begins blank (digits ++ rest) b)
    ∙ rw (field_reads true blank digits rest n b h e, height_refused w (digits, rest) n sizes h.2 never) (ap Err (same_place digits rest Size))
size_header ty (a ∷ w ∷ more) n head blank digits rest is sizes b h e few never = absurd (omega arith)

maxval_header : (ty : LaneType) (numbers : List ℕ) (n : ℕ) (head blank digits rest : List ℕ) → IsPgmHeader numbers head → AreSizes numbers → IsBlank blank → IsPgmNumber digits n → BeginsBlank (may_comment numbers) rest
    → length numbers ≡ 2 → (IsMaxval ty n → ⊥) → header_of ty (head ++ (blank ++ (digits ++ rest))) ≡ Err (at_these (digits ++ rest) Maxval)
maxval_header ty [] n head blank digits rest is sizes b h e two never = absurd (omega arith)
maxval_header ty (w ∷ []) n head blank digits rest is sizes b h e two never = absurd (omega arith)
maxval_header ty (t ∷ w ∷ []) n head blank digits rest is sizes b h e two never =
    head_two ty head w t (blank ++ (digits ++ rest)) is sizes (blank_begins blank (digits ++ rest) b)
    ∙ rw (field_reads false blank digits rest n b h e, maxval_refused ty (digits, rest) n h.2 never) (ap Err (same_place digits rest Maxval))
maxval_header ty (a ∷ t ∷ w ∷ more) n head blank digits rest is sizes b h e two never = absurd sizes

-- ---- the whole

parts_err : (ty : LaneType) (bytes : List ℕ) (f : Fault) → header_of ty bytes ≡ Err f → parts_of ty bytes ≡ Err f
unfolding parts_of
parts_err ty bytes f e = rw e refl

number_parts : (ty : LaneType) (before here : List ℕ) (numbers : List ℕ) (n : ℕ) (kind : PgmKind) (at : IsNumberAt numbers n before here)
    → header_of ty (at.head ++ (at.blank ++ (at.digits ++ at.white ∷ at.rest))) ≡ Err (at_these (at.digits ++ at.white ∷ at.rest) kind) → parts_of ty (before ++ here) ≡ Err (at_these here kind)
number_parts ty before here numbers n kind at e =
    let grouped : before ++ here ≡ at.head ++ (at.blank ++ here) = ap (λ (t : List ℕ). t ++ here) at.parts ∙ append_assoc at.head at.blank here in
    parts_err ty (before ++ here) (at_these here kind)
    (ap (header_of ty) grouped ∙ subst (λ (t : List ℕ). header_of ty (at.head ++ (at.blank ++ t)) ≡ Err (at_these t kind)) (sym at.rest_is) e)

header_read : (ty : LaneType) (h : Header) (before : List ℕ) (n : ℕ) (b : IsBehindHeader ty h before n) (more : List ℕ) → header_of ty (before ++ more) ≡ Ok (h, b.rest ++ more)
header_read ty h before n b more =
    let grouped : before ++ more ≡ b.head ++ b.white ∷ (b.rest ++ more) = ap (λ (t : List ℕ). t ++ more) b.parts ∙ append_assoc b.head (b.white ∷ b.rest) more in
    ap (header_of ty) grouped ∙ header_again ty b.head h.width h.height h.maxval b.white (b.rest ++ more) b.head_is b.sizes.0 b.sizes.1 b.sizes.2 b.maxval_is b.white_is

short_again : (h : Header) (rest : List ℕ) → length rest < sample_bytes h → counted h rest ≡ Err (at_these [] Short)
unfolding counted
short_again h rest lt = let low : ltb (length rest) (sample_bytes h) ≡ true = lt-ltb _ _ lt in rw low refl

extra_again : (h : Header) (rest here : List ℕ) → length rest ≡ sample_bytes h → 0 < length here → counted h (rest ++ here) ≡ Err (at_these here Extra)
unfolding counted
extra_again h rest here e some =
    let long : length (rest ++ here) ≡ length rest + length here = length-append rest here in
    let low : ltb (length (rest ++ here)) (sample_bytes h) ≡ false = le-ltb _ _ (omega arith) in
    let high : ltb (sample_bytes h) (length (rest ++ here)) ≡ true = lt-ltb _ _ (omega arith) in
    rw (low, high, drop_at rest here (sample_bytes h) e) refl

between_again : (ty : LaneType) (kind : PgmKind) (before here : List ℕ) → IsFaultBetween ty kind before here → parts_of ty (before ++ here) ≡ Err (at_these here kind)
unfolding parts_of
between_again ty Magic before here f = ap (λ (t : List ℕ). parts_of ty (t ++ here)) f.0 ∙ parts_err ty here (at_these here Magic) (magic_err ty here (at_these here Magic) (magic_refused here f.1))
between_again ty Number before here f =
    let grouped : before ++ here ≡ f.head ++ (f.part ++ here) = ap (λ (t : List ℕ). t ++ here) f.parts ∙ append_assoc f.head f.part here in
    parts_err ty (before ++ here) (at_these here Number) (ap (header_of ty) grouped ∙ cut_header ty f.numbers f.head f.part here f.head_is f.sizes f.begun f.stops f.ended)
between_again ty Size before here f =
    let at = f.2 in
    number_parts ty before here f.0 f.1 Size at (size_header ty f.0 f.1 at.head at.blank at.digits (at.white ∷ at.rest) at.head_is at.sizes at.blank_is at.number (at.white, at.rest, refl, at.white_is) f.3 f.4)
between_again ty Maxval before here f =
    let at = f.2 in
    number_parts ty before here f.0 f.1 Maxval at (maxval_header ty f.0 f.1 at.head at.blank at.digits (at.white ∷ at.rest) at.head_is at.sizes at.blank_is at.number (at.white, at.rest, refl, at.white_is) f.3 f.4)
between_again ty Short before here f =
    let b = f.2 in
    let rest_same : b.rest ++ here ≡ b.rest = ap (λ (t : List ℕ). b.rest ++ t) f.4 ∙ append-nil b.rest in
    let less : length (b.rest ++ here) < sample_bytes f.0 = omega (arith, ap length rest_same, b.count, f.3) in
    rw (header_read ty f.0 before f.1 b here, short_again f.0 (b.rest ++ here) less, f.4) refl
between_again ty Extra before here f =
    let b = f.1 in
    rw (header_read ty f.0 before (sample_bytes f.0) b here, extra_again f.0 b.rest here b.count f.2) refl

image_err : (ty : LaneType) (bytes : List ℕ) (f : Fault) → parts_of ty bytes ≡ Err f → image_of ty bytes ≡ Err f
unfolding image_of
image_err ty bytes f e = rw e refl

-- a fault of the bytes is the one that is told
pub fault_again : (ty : LaneType) (bytes : List ℕ) (at : ℕ) (kind : PgmKind) → IsFaultAt ty bytes at kind → image_of ty bytes ≡ Err (record { left = length bytes - at; kind = kind })
fault_again ty bytes at kind f =
    let left : length f.1 ≡ length bytes - at = omega (arith, ap length f.2, length-append f.0 f.1, f.3) in
    ap (image_of ty) f.2 ∙ image_err ty (f.0 ++ f.1) (at_these f.1 kind) (between_again ty kind f.0 f.1 f.4) ∙ ap (λ (n : ℕ). let g : Fault = record { left = n; kind = kind } in Err g) left

pub at_within : (ty : LaneType) (bytes : List ℕ) (at : ℕ) (kind : PgmKind) → IsFaultAt ty bytes at kind → at ≤ length bytes
at_within ty bytes at kind f = omega (arith, ap length f.2, length-append f.0 f.1, f.3)
