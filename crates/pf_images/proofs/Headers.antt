-- A header, read and spelled.
use Rattle.std.proofs.Common.{◌≡◌, ℕ, ◌*◌, ◌^◌, ◌≤◌, List, [], ◌∷◌, ◌++◌, drop, true, false, cond, ◌&&◌, eqb, leb, ltb, Result, Ok, Err, refl, sym, ap, ◌∙◌, append_assoc, arith, subst}
use Rattle.std.specs.Prelude.{codes}
use Rattle.std.proofs.lemmas.Bool.{eqb-true, and_parts, leb-true, ltb-true, le-leb, lt-ltb}
use Rattle.std.proofs.lemmas.Bool.Decides.{nat_tests}
use Rattle.pf_ints.specs.declared.lane.LaneType.{LaneType}
use Rattle.pf_ints.specs.Meaning.Lanes.{lane_width}
use Rattle.pf_images.specs.declared.fault.Fault.{Fault}
use Rattle.pf_images.specs.declared.fault.PgmKind.TheVariants.{Magic, Size, Maxval}
use Rattle.pf_images.specs.declared.header.Header.{Header}
use Rattle.pf_images.specs.Meaning.Pgm.{is_white, number_from, IsField, IsPgmHeader, IsMaxval, begins_blank}
use Rattle.pf_images.specs.Meaning.Faults.{IsSide}
use Rattle.pf_images.specs.Steps.Reading.{◌>>=◌, at_these, at_number, begun, field_at, side_of, header_height, maxval_of, magic_of, header_of}
use Rattle.pf_images.proofs.Blanks.{blank_begins}
use Rattle.pf_images.proofs.Fields.{bind_ok, pass_ok, ok_is, BeginsBlank, begun_takes, begun_again, field_takes, field_again}

-- ---- single steps

pub magic_takes : (bytes rest : List ℕ) → magic_of bytes ≡ Ok rest → bytes ≡ codes "P5" ++ rest
unfolding magic_of
magic_takes [] rest e = absurd cc
magic_takes (a ∷ []) rest e = absurd cc
magic_takes (a ∷ b ∷ more) rest e =
    let p = pass_ok (eqb a 80 && eqb b 53) (at_these (a ∷ b ∷ more) Magic) more rest e in
    let both = and_parts (eqb a 80) (eqb b 53) p.0 in
    rw (eqb-true a 80 both.0, eqb-true b 53 both.1, p.1) refl

pub magic_again : (rest : List ℕ) → magic_of (codes "P5" ++ rest) ≡ Ok rest
unfolding magic_of
magic_again rest = refl

pub side_takes : (field : List ℕ × List ℕ) (n : ℕ) → side_of field ≡ Ok n → (number_from 0 field.0 ≡ n) × IsSide n
unfolding side_of
side_takes field n e =
    let p = pass_ok (leb 1 (number_from 0 field.0) && leb (number_from 0 field.0) 8192) (at_number field Size) (number_from 0 field.0) n e in
    let both = and_parts (leb 1 (number_from 0 field.0)) (leb (number_from 0 field.0) 8192) p.0 in
    (p.1, record { some = omega (arith, p.1, leb-true _ _ both.0); most = omega (arith, p.1, leb-true _ _ both.1) })

pub side_again : (field : List ℕ × List ℕ) (n : ℕ) → number_from 0 field.0 ≡ n → IsSide n → side_of field ≡ Ok n
unfolding side_of
side_again field n e h =
    let low : leb 1 n ≡ true = le-leb _ _ h.some in
    let high : leb n 8192 ≡ true = le-leb _ _ h.most in
    rw (e, low, high) refl

pub height_takes : (width : ℕ) (field : List ℕ × List ℕ) (n : ℕ) → header_height width field ≡ Ok n → (number_from 0 field.0 ≡ n) × IsSide n × (width * n ≤ 16777216)
unfolding header_height
height_takes width field n e =
    let b = bind_ok (side_of field) (λ m. cond (leb (width * m) 16777216) (Ok m) (Err (at_number field Size))) n e in
    let p = pass_ok (leb (width * b.0) 16777216) (at_number field Size) b.0 n b.2 in
    let side = side_takes field b.0 b.1 in
    let fits : width * b.0 ≤ 16777216 = leb-true _ _ p.0 in
    subst (λ (m : ℕ). (number_from 0 field.0 ≡ m) × IsSide m × (width * m ≤ 16777216)) p.1 (side.0, side.1, fits)

height_again : (width : ℕ) (field : List ℕ × List ℕ) (n : ℕ) → number_from 0 field.0 ≡ n → IsSide n → width * n ≤ 16777216 → header_height width field ≡ Ok n
unfolding header_height
height_again width field n e h fits =
    let low : leb (width * n) 16777216 ≡ true = le-leb _ _ fits in
    rw (side_again field n e h, low) refl

maxval_takes : (ty : LaneType) (field : List ℕ × List ℕ) (n : ℕ) → maxval_of ty field ≡ Ok n → (number_from 0 field.0 ≡ n) × IsMaxval ty n
unfolding maxval_of
maxval_takes ty field n e =
    let p = pass_ok (leb 1 (number_from 0 field.0) && ltb (number_from 0 field.0) (2 ^ lane_width ty)) (at_number field Maxval) (number_from 0 field.0) n e in
    let both = and_parts (leb 1 (number_from 0 field.0)) (ltb (number_from 0 field.0) (2 ^ lane_width ty)) p.0 in
    (p.1, subst (IsMaxval ty) p.1 (leb-true _ _ both.0, ltb-true _ _ both.1))

maxval_again : (ty : LaneType) (field : List ℕ × List ℕ) (n : ℕ) → number_from 0 field.0 ≡ n → IsMaxval ty n → maxval_of ty field ≡ Ok n
unfolding maxval_of
maxval_again ty field n e h =
    let low : leb 1 n ≡ true = le-leb _ _ h.0 in
    let high : ltb n (2 ^ lane_width ty) ≡ true = lt-ltb _ _ h.1 in
    rw (e, low, high) refl

-- ---- the whole

pub record HeaderTakes (ty : LaneType) (bytes : List ℕ) (h : Header) (rest : List ℕ) : Type 0 where
  pub head : List ℕ
  pub white : ℕ
  pub head_is : IsPgmHeader (h.maxval ∷ h.height ∷ h.width ∷ []) head
  pub white_is : is_white white ≡ true
  pub width : IsSide h.width
  pub height : IsSide h.height
  pub most : h.width * h.height ≤ 16777216
  pub maxval : IsMaxval ty h.maxval
  pub parts : bytes ≡ head ++ white ∷ rest

-- what is read behind each step
abbrev pub at_maxval : LaneType → ℕ → ℕ → List ℕ × List ℕ → Result (Header × List ℕ) Fault
at_maxval ty w h third = maxval_of ty third >>= λ m. Ok (record { width = w; height = h; maxval = m }, drop 1 third.1)

abbrev pub at_third : LaneType → ℕ → ℕ → List ℕ → Result (Header × List ℕ) Fault
at_third ty w h rest = field_at false rest >>= at_maxval ty w h

abbrev pub at_height : LaneType → ℕ → List ℕ × List ℕ → Result (Header × List ℕ) Fault
at_height ty w second = header_height w second >>= λ h. at_third ty w h second.1

abbrev pub at_second : LaneType → ℕ → List ℕ → Result (Header × List ℕ) Fault
at_second ty w rest = field_at true rest >>= at_height ty w

abbrev pub at_width : LaneType → List ℕ × List ℕ → Result (Header × List ℕ) Fault
at_width ty first = side_of first >>= λ w. at_second ty w first.1

abbrev pub at_first : LaneType → List ℕ → Result (Header × List ℕ) Fault
at_first ty start = field_at true start >>= at_width ty

abbrev pub at_start : LaneType → List ℕ → Result (Header × List ℕ) Fault
at_start ty front = begun true front >>= at_first ty

white_only : (c : ℕ) → begins_blank false c ≡ true → is_white c ≡ true
white_only c b = grind (arith, nat_tests)

-- a field more
pub head_more : (before : List ℕ) (n : ℕ) (front text : List ℕ) → IsPgmHeader before front → IsField text n → IsPgmHeader (n ∷ before) (front ++ text)
head_more before n front text h f = (front, text, h, f, refl)

pub parts_more : (bytes front rest text tail : List ℕ) → bytes ≡ front ++ rest → rest ≡ text ++ tail → bytes ≡ (front ++ text) ++ tail
parts_more bytes front rest text tail e f = e ∙ ap (λ (t : List ℕ). front ++ t) f ∙ sym (append_assoc front text tail)

third_takes : (ty : LaneType) (bytes front rest : List ℕ) (w h : ℕ) (x : Header × List ℕ) → IsPgmHeader (h ∷ w ∷ []) front → bytes ≡ front ++ rest → IsSide w → IsSide h → w * h ≤ 16777216 → BeginsBlank true rest
    → at_third ty w h rest ≡ Ok x → HeaderTakes ty bytes x.0 x.1
third_takes ty bytes front rest w h x head parts wide high most b e =
    let f = bind_ok (field_at false rest) (at_maxval ty w h) x e in
    let m = bind_ok (maxval_of ty f.0) (λ m. Ok (record { width = w; height = h; maxval = m }, drop 1 f.0.1)) x f.2 in
    let t = field_takes false rest f.0 b f.1 in
    let v = maxval_takes ty f.0 m.0 m.1 in
    let made : Header × List ℕ = (record { width = w; height = h; maxval = m.0 }, drop 1 f.0.1) in
    let ended : f.0.1 ≡ t.next.0 ∷ drop 1 f.0.1 = t.next.2 ∙ ap (λ (u : List ℕ). t.next.0 ∷ u) (sym (ap (drop 1) t.next.2)) in
    subst (λ (y : Header × List ℕ). HeaderTakes ty bytes y.0 y.1) (ok_is made x m.2) (record {
      head = front ++ t.text;
      white = t.next.0;
      head_is = head_more (h ∷ w ∷ []) m.0 front t.text head (subst (IsField t.text) v.0 t.field);
      white_is = white_only t.next.0 t.next.3;
      width = wide;
      height = high;
      most = most;
      maxval = v.1;
      parts = parts_more bytes front rest t.text (t.next.0 ∷ drop 1 f.0.1) parts (t.parts ∙ ap (λ (u : List ℕ). t.text ++ u) ended);
    })

second_takes : (ty : LaneType) (bytes front rest : List ℕ) (w : ℕ) (x : Header × List ℕ) → IsPgmHeader (w ∷ []) front → bytes ≡ front ++ rest → IsSide w → BeginsBlank true rest
    → at_second ty w rest ≡ Ok x → HeaderTakes ty bytes x.0 x.1
second_takes ty bytes front rest w x head parts wide b e =
    let f = bind_ok (field_at true rest) (at_height ty w) x e in
    let h = bind_ok (header_height w f.0) (λ h. at_third ty w h f.0.1) x f.2 in
    let t = field_takes true rest f.0 b f.1 in
    let v = height_takes w f.0 h.0 h.1 in
    third_takes ty bytes (front ++ t.text) f.0.1 w h.0 x (head_more (w ∷ []) h.0 front t.text head (subst (IsField t.text) v.0 t.field)) (parts_more bytes front rest t.text f.0.1 parts t.parts) wide v.1 v.2 t.next h.2

first_takes : (ty : LaneType) (bytes front rest : List ℕ) (x : Header × List ℕ) → IsPgmHeader [] front → bytes ≡ front ++ rest → BeginsBlank true rest
    → at_first ty rest ≡ Ok x → HeaderTakes ty bytes x.0 x.1
first_takes ty bytes front rest x head parts b e =
    let f = bind_ok (field_at true rest) (at_width ty) x e in
    let w = bind_ok (side_of f.0) (λ w. at_second ty w f.0.1) x f.2 in
    let t = field_takes true rest f.0 b f.1 in
    let v = side_takes f.0 w.0 w.1 in
    second_takes ty bytes (front ++ t.text) f.0.1 w.0 x (head_more [] w.0 front t.text head (subst (IsField t.text) v.0 t.field)) (parts_more bytes front rest t.text f.0.1 parts t.parts) v.1 t.next w.2

pub header_takes : (ty : LaneType) (bytes : List ℕ) (x : Header × List ℕ) → header_of ty bytes ≡ Ok x → HeaderTakes ty bytes x.0 x.1
unfolding header_of
header_takes ty bytes x e =
    let m = bind_ok (magic_of bytes) (at_start ty) x e in
    let s = bind_ok (begun true m.0) (at_first ty) x m.2 in
    let b = begun_takes true m.0 s.0 s.1 in
    first_takes ty bytes (codes "P5") m.0 x refl (magic_takes bytes m.0 m.1) b.1 (rw b.0 at s.2)

-- ---- and again

third_again : (ty : LaneType) (text : List ℕ) (w h m c : ℕ) (rest : List ℕ) → IsField text m → IsMaxval ty m → is_white c ≡ true → at_third ty w h (text ++ c ∷ rest) ≡ Ok (record { width = w; height = h; maxval = m }, rest)
third_again ty text w h m c rest f most white =
    let a = field_again false text (c ∷ rest) m f (c, rest, refl, rw white refl) in
    rw (a.2, maxval_again ty (a.0, c ∷ rest) m a.1.2 most) refl

pub second_again : (ty : LaneType) (text : List ℕ) (w h : ℕ) (rest : List ℕ) → IsField text h → IsSide h → w * h ≤ 16777216 → BeginsBlank true rest → at_second ty w (text ++ rest) ≡ at_third ty w h rest
second_again ty text w h rest f high most b =
    let a = field_again true text rest h f b in
    rw (a.2, height_again w (a.0, rest) h a.1.2 high most) refl

pub first_again : (ty : LaneType) (text : List ℕ) (w : ℕ) (rest : List ℕ) → IsField text w → IsSide w → BeginsBlank true rest → at_first ty (text ++ rest) ≡ at_second ty w rest
first_again ty text w rest f wide b =
    let a = field_again true text rest w f b in
    rw (a.2, side_again (a.0, rest) w a.1.2 wide) refl

pub field_begins : (text rest : List ℕ) (n : ℕ) → IsField text n → BeginsBlank true (text ++ rest)
field_begins text rest n f =
    subst (BeginsBlank true) (sym (ap (λ (t : List ℕ). t ++ rest) f.4 ∙ append_assoc f.0 f.1 rest)) (blank_begins f.0 (f.1 ++ rest) f.2)

regrouped : (head f2 t3 f1 t2 f0 t1 p tail : List ℕ) → head ≡ f2 ++ t3 → f2 ≡ f1 ++ t2 → f1 ≡ f0 ++ t1 → f0 ≡ p → head ++ tail ≡ p ++ (t1 ++ (t2 ++ (t3 ++ tail)))
regrouped head f2 t3 f1 t2 f0 t1 p tail e3 e2 e1 e0 =
    ap (λ (t : List ℕ). t ++ tail) e3 ∙ append_assoc f2 t3 tail ∙ ap (λ (t : List ℕ). t ++ (t3 ++ tail)) e2 ∙ append_assoc f1 t2 (t3 ++ tail)
    ∙ ap (λ (t : List ℕ). t ++ (t2 ++ (t3 ++ tail))) e1 ∙ append_assoc f0 t1 (t2 ++ (t3 ++ tail)) ∙ ap (λ (t : List ℕ). t ++ (t1 ++ (t2 ++ (t3 ++ tail)))) e0

pub start_again : (ty : LaneType) (rest : List ℕ) → BeginsBlank true rest → header_of ty (codes "P5" ++ rest) ≡ at_first ty rest
unfolding header_of
start_again ty rest b = rw (magic_again rest, begun_again true rest b) refl

-- what spells a header is read as it
pub header_again : (ty : LaneType) (head : List ℕ) (w h m c : ℕ) (rest : List ℕ) → IsPgmHeader (m ∷ h ∷ w ∷ []) head → IsSide w → IsSide h → w * h ≤ 16777216 → IsMaxval ty m → is_white c ≡ true
    → header_of ty (head ++ c ∷ rest) ≡ Ok (record { width = w; height = h; maxval = m }, rest)
header_again ty head w h m c rest is wide high product most white =
    let two = is.2 in
    let one = two.2 in
    let behind_three : List ℕ = c ∷ rest in
    let behind_two : List ℕ = is.1 ++ behind_three in
    let behind_one : List ℕ = two.1 ++ behind_two in
    ap (header_of ty) (regrouped head is.0 is.1 two.0 two.1 one.0 one.1 (codes "P5") behind_three is.4 two.4 one.4 one.2)
    ∙ start_again ty (one.1 ++ behind_one) (field_begins one.1 behind_one w one.3)
    ∙ first_again ty one.1 w behind_one one.3 wide (field_begins two.1 behind_two h two.3)
    ∙ second_again ty two.1 w h behind_two two.3 high product (field_begins is.1 behind_three m is.3)
    ∙ third_again ty is.1 w h m c rest is.3 most white
