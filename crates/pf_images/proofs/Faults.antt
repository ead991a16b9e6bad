-- A fault that is told stands where the definitions say.
use Rattle.std.proofs.Common.{◌≡◌, ℕ, ◌-◌, ◌*◌, ◌^◌, ◌<◌, ◌≤◌, List, [], ◌∷◌, ◌++◌, length, take, drop, Bool, true, false, cond, ◌&&◌, eqb, leb, ltb, Result, Ok, Err, refl, sym, ap, ◌∙◌, append_assoc, arith, inl, inr, subst}
use Rattle.std.specs.Prelude.{codes}
use Rattle.std.proofs.lemmas.Bool.{eq-eqb, and_from, ltb-true, le-leb, lt-ltb}
use Rattle.std.proofs.lemmas.List.{length-append, length-drop, length-take-le, take-append-drop, append-nil}
use Rattle.pf_ints.specs.declared.lane.LaneType.{LaneType}
use Rattle.pf_ints.specs.Meaning.Lanes.{lane_width}
use Rattle.pf_ints.specs.Meaning.Images.{Picture}
use Rattle.pf_images.specs.declared.fault.Fault.{Fault}
use Rattle.pf_images.specs.declared.fault.PgmKind.{PgmKind}
use Rattle.pf_images.specs.declared.fault.PgmKind.TheVariants.{Magic, Number, Size, Maxval, Short, Extra}
use Rattle.pf_images.specs.declared.header.Header.{Header}
use Rattle.pf_images.specs.Meaning.Pgm.{begins_blank, number_from, IsField, IsPgmHeader, IsMaxval, sample_bytes}
use Rattle.pf_images.specs.Meaning.Faults.{IsSide, AreSizes, may_comment, Stops, IsNumberAt, IsBehindHeader, IsFaultBetween, IsFaultAt}
use Rattle.pf_images.specs.Steps.Reading.{at_these, at_number, begun, field_at, side_of, header_height, maxval_of, magic_of, header_of, counted, parts_of, picture_of, image_of}
use Rattle.pf_images.proofs.Fields.{BeginsBlank, begun_takes, FieldTakes, field_takes}
use Rattle.pf_images.proofs.Headers.{HeaderTakes, header_takes, head_more, parts_more, at_maxval, at_third, at_height, at_second, at_width, at_first, at_start, magic_takes, side_takes, height_takes}
use Rattle.pf_images.proofs.CutOff.{bind_err, test_err, pass_err, begun_stops, begun_none, front_cut, FieldStops, field_stops}

clash : (t : Bool) → t ≡ true → t ≡ false → ⊥
clash t p q = cc

-- what a told fault says of the bytes
abbrev pub IsTold : LaneType → List ℕ → Fault → Type 0
IsTold ty bytes f = (before here : List ℕ) × (bytes ≡ before ++ here) × (length here ≡ f.left) × IsFaultBetween ty f.kind before here

told : (ty : LaneType) (bytes before here : List ℕ) (kind : PgmKind) (f : Fault) → at_these here kind ≡ f → bytes ≡ before ++ here → IsFaultBetween ty kind before here → IsTold ty bytes f
told ty bytes before here kind f e parts is = subst (IsTold ty bytes) e (before, here, parts, refl, is)

-- ---- single steps

cut_told : (ty : LaneType) (bytes head rest numbers : List ℕ) (f : Fault) → IsPgmHeader numbers head → AreSizes numbers → bytes ≡ head ++ rest → FieldStops (may_comment numbers) rest f → IsTold ty bytes f
cut_told ty bytes head rest numbers f is sizes parts s =
    told ty bytes (head ++ s.part) s.here Number f s.fault (parts_more bytes head rest s.part s.here parts s.parts)
    (record { numbers = numbers; head = head; part = s.part; head_is = is; sizes = sizes; begun = s.begun; stops = s.stops; ended = λ e. absurd (none s.part s.some e); parts = refl })
  where
    none : (part : List ℕ) → 0 < length part → part ≡ [] → ⊥
    none part some e = omega (arith, ap length e)

number_told : (ty : LaneType) (bytes head rest numbers : List ℕ) (x : List ℕ × List ℕ) (kind : PgmKind) (f : Fault) → IsPgmHeader numbers head → AreSizes numbers → bytes ≡ head ++ rest
    → FieldTakes (may_comment numbers) rest x.0 x.1 → at_number x kind ≡ f → ((before here : List ℕ) → IsNumberAt numbers (number_from 0 x.0) before here → IsFaultBetween ty kind before here) → IsTold ty bytes f
number_told ty bytes head rest numbers x kind f is sizes parts t e make =
    let here = x.0 ++ x.1 in
    let place : at_these here kind ≡ f = ap (λ (n : ℕ). let g : Fault = record { left = n; kind = kind } in g) (length-append x.0 x.1) ∙ e in
    let whole : rest ≡ t.blank ++ here = t.parts ∙ ap (λ (u : List ℕ). u ++ x.1) t.text_is ∙ append_assoc t.blank x.0 x.1 in
    told ty bytes (head ++ t.blank) here kind f place (parts_more bytes head rest t.blank here parts whole) (make (head ++ t.blank) here (record {
      head = head;
      blank = t.blank;
      digits = x.0;
      white = t.next.0;
      rest = t.next.1;
      head_is = is;
      sizes = sizes;
      blank_is = t.blank_is;
      number = t.number;
      white_is = t.next.3;
      parts = refl;
      rest_is = ap (λ (u : List ℕ). x.0 ++ u) t.next.2;
    }))

no_side : (field : List ℕ × List ℕ) (f : Fault) → side_of field ≡ Err f → (at_number field Size ≡ f) × (IsSide (number_from 0 field.0) → ⊥)
unfolding side_of
no_side field f e =
    let n = number_from 0 field.0 in
    let p = pass_err (leb 1 n && leb n 8192) (at_number field Size) n f e in
    (p.1, λ s. clash (leb 1 n && leb n 8192) (and_from _ _ (le-leb _ _ s.some) (le-leb _ _ s.most)) p.0)

no_height : (width : ℕ) (field : List ℕ × List ℕ) (f : Fault) → header_height width field ≡ Err f → (at_number field Size ≡ f) × (AreSizes (number_from 0 field.0 ∷ width ∷ []) → ⊥)
unfolding header_height
no_height width field f e =
    let n = number_from 0 field.0 in
    let fits : ℕ → Result ℕ Fault = λ m. cond (leb (width * m) 16777216) (Ok m) (Err (at_number field Size)) in
    elim (bind_err (side_of field) fits f e) [
      | inl a ↦ let s = no_side field f a in (s.0, λ h. s.1 h.1)
      | inr a ↦
          let p = pass_err (leb (width * a.0) 16777216) (at_number field Size) a.0 f a.2 in
          let is = side_takes field a.0 a.1 in
          (p.1, λ h. clash (leb (width * a.0) 16777216) (le-leb _ _ (subst (λ (m : ℕ). width * m ≤ 16777216) is.0 h.2)) p.0)
    ]

no_maxval : (ty : LaneType) (field : List ℕ × List ℕ) (f : Fault) → maxval_of ty field ≡ Err f → (at_number field Maxval ≡ f) × (IsMaxval ty (number_from 0 field.0) → ⊥)
unfolding maxval_of
no_maxval ty field f e =
    let n = number_from 0 field.0 in
    let p = pass_err (leb 1 n && ltb n (2 ^ lane_width ty)) (at_number field Maxval) n f e in
    (p.1, λ s. clash (leb 1 n && ltb n (2 ^ lane_width ty)) (and_from _ _ (le-leb _ _ s.0) (lt-ltb _ _ s.1)) p.0)

no_magic : (bytes : List ℕ) (f : Fault) → magic_of bytes ≡ Err f → (at_these bytes Magic ≡ f) × ((rest : List ℕ) → bytes ≡ codes "P5" ++ rest → ⊥)
unfolding magic_of
no_magic [] f e = (cc, λ rest h. absurd cc)
no_magic (a ∷ []) f e = (cc, λ rest h. absurd cc)
no_magic (a ∷ b ∷ more) f e =
    let p = pass_err (eqb a 80 && eqb b 53) (at_these (a ∷ b ∷ more) Magic) more f e in
    (p.1, λ rest h. differs rest h p.0)
  where
    differs : (rest : List ℕ) → a ∷ b ∷ more ≡ 80 ∷ 53 ∷ rest → (eqb a 80 && eqb b 53) ≡ false → ⊥
    differs rest h n =
        let first : a ≡ 80 = cc in
        let second : b ≡ 53 = cc in
        clash (eqb a 80 && eqb b 53) (and_from _ _ (eq-eqb a 80 first) (eq-eqb b 53 second)) n

-- ---- the header, step by step

third_told : (ty : LaneType) (bytes head rest : List ℕ) (w h : ℕ) (f : Fault) → IsPgmHeader (h ∷ w ∷ []) head → bytes ≡ head ++ rest → AreSizes (h ∷ w ∷ []) → BeginsBlank true rest → at_third ty w h rest ≡ Err f → IsTold ty bytes f
third_told ty bytes head rest w h f is parts sizes b e =
    elim (bind_err (field_at false rest) (at_maxval ty w h) f e) [
      | inl a ↦ cut_told ty bytes head rest (h ∷ w ∷ []) f is sizes parts (field_stops false rest f b a)
      | inr a ↦
          let last : ℕ → Result (Header × List ℕ) Fault = λ m. Ok (record { width = w; height = h; maxval = m }, drop 1 a.0.1) in
          elim (bind_err (maxval_of ty a.0) last f a.2) [
            | inl m ↦
                let n = no_maxval ty a.0 f m in
                number_told ty bytes head rest (h ∷ w ∷ []) a.0 Maxval f is sizes parts (field_takes false rest a.0 b a.1) n.0 (λ before here at. (h ∷ w ∷ [], number_from 0 a.0.0, at, refl, n.1))
            | inr m ↦ absurd (ok_no_err (record { width = w; height = h; maxval = m.0 }, drop 1 a.0.1) f m.2)
          ]
    ]
  where
    ok_no_err : (x : Header × List ℕ) (d : Fault) → ◌≡◌ {A = Result (Header × List ℕ) Fault} (Ok x) (Err d) → ⊥
    ok_no_err x d h = cc

second_told : (ty : LaneType) (bytes head rest : List ℕ) (w : ℕ) (f : Fault) → IsPgmHeader (w ∷ []) head → bytes ≡ head ++ rest → AreSizes (w ∷ []) → BeginsBlank true rest → at_second ty w rest ≡ Err f → IsTold ty bytes f
second_told ty bytes head rest w f is parts sizes b e =
    elim (bind_err (field_at true rest) (at_height ty w) f e) [
      | inl a ↦ cut_told ty bytes head rest (w ∷ []) f is sizes parts (field_stops true rest f b a)
      | inr a ↦
          let onward : ℕ → Result (Header × List ℕ) Fault = λ h. at_third ty w h a.0.1 in
          let t = field_takes true rest a.0 b a.1 in
          elim (bind_err (header_height w a.0) onward f a.2) [
            | inl m ↦
                let n = no_height w a.0 f m in
                number_told ty bytes head rest (w ∷ []) a.0 Size f is sizes parts t n.0 (λ before here at. (w ∷ [], number_from 0 a.0.0, at, omega arith, n.1))
            | inr m ↦
                let v = height_takes w a.0 m.0 m.1 in
                third_told ty bytes (head ++ t.text) a.0.1 w m.0 f (head_more (w ∷ []) m.0 head t.text is (subst (IsField t.text) v.0 t.field)) (parts_more bytes head rest t.text a.0.1 parts t.parts) (sizes, v.1, v.2) t.next m.2
          ]
    ]

first_told : (ty : LaneType) (bytes head rest : List ℕ) (f : Fault) → IsPgmHeader [] head → bytes ≡ head ++ rest → BeginsBlank true rest → at_first ty rest ≡ Err f → IsTold ty bytes f
first_told ty bytes head rest f is parts b e =
    elim (bind_err (field_at true rest) (at_width ty) f e) [
      | inl a ↦ cut_told ty bytes head rest [] f is tt parts (field_stops true rest f b a)
      | inr a ↦
          let onward : ℕ → Result (Header × List ℕ) Fault = λ w. at_second ty w a.0.1 in
          let t = field_takes true rest a.0 b a.1 in
          elim (bind_err (side_of a.0) onward f a.2) [
            | inl m ↦
                let n = no_side a.0 f m in
                number_told ty bytes head rest [] a.0 Size f is tt parts t n.0 (λ before here at. ([], number_from 0 a.0.0, at, omega arith, n.1))
            | inr m ↦
                let v = side_takes a.0 m.0 m.1 in
                second_told ty bytes (head ++ t.text) a.0.1 m.0 f (head_more [] m.0 head t.text is (subst (IsField t.text) v.0 t.field)) (parts_more bytes head rest t.text a.0.1 parts t.parts) v.1 t.next m.2
          ]
    ]

-- no white space behind P5
start_told : (ty : LaneType) (bytes rest : List ℕ) (f : Fault) → bytes ≡ codes "P5" ++ rest → begun true rest ≡ Err f → IsTold ty bytes f
start_told ty bytes rest f parts e =
    let s = begun_stops true rest f e in
    told ty bytes (codes "P5") rest Number f s.0 parts
    (record { numbers = []; head = codes "P5"; part = []; head_is = refl; sizes = tt; begun = begun_none true; stops = cut rest s.1; ended = λ e. refl; parts = refl })
  where
    cut : (rest : List ℕ) → ((c : ℕ) (cs : List ℕ) → rest ≡ c ∷ cs → begins_blank true c ≡ false) → Stops true [] rest
    cut [] s = tt
    cut (c ∷ cs) s = front_cut true c cs (s c cs refl)

header_told : (ty : LaneType) (bytes : List ℕ) (f : Fault) → header_of ty bytes ≡ Err f → IsTold ty bytes f
unfolding header_of
header_told ty bytes f e =
    elim (bind_err (magic_of bytes) (at_start ty) f e) [
      | inl a ↦ let m = no_magic bytes f a in told ty bytes [] bytes Magic f m.0 refl (refl, m.1)
      | inr a ↦
          let p = magic_takes bytes a.0 a.1 in
          elim (bind_err (begun true a.0) (at_first ty) f a.2) [
            | inl s ↦ start_told ty bytes a.0 f p s
            | inr s ↦ let b = begun_takes true a.0 s.0 s.1 in first_told ty bytes (codes "P5") a.0 f refl p b.1 (rw b.0 at s.2)
          ]
    ]

-- ---- the samples

counted_told : (ty : LaneType) (bytes : List ℕ) (h : Header) (rest : List ℕ) (f : Fault) → HeaderTakes ty bytes h rest → counted h rest ≡ Err f → IsTold ty bytes f
unfolding counted
counted_told ty bytes h rest f t e =
    let need = sample_bytes h in
    let more : Result (Header × List ℕ) Fault = cond (ltb need (length rest)) (Err (at_these (drop need rest) Extra)) (Ok (h, rest)) in
    elim (test_err (ltb (length rest) need) (at_these [] Short) more f e) [
      | inl s ↦
          told ty bytes bytes [] Short f s.1 (sym (append-nil bytes)) (h, length rest, behind (length rest) rest bytes refl t.parts, ltb-true _ _ s.0, refl)
      | inr s ↦
          elim (test_err (ltb need (length rest)) (at_these (drop need rest) Extra) (Ok (h, rest)) f s.1) [
            | inl x ↦
                let less : need < length rest = ltb-true _ _ x.0 in
                let grouped : bytes ≡ (t.head ++ t.white ∷ take need rest) ++ drop need rest =
                t.parts ∙ ap (λ (u : List ℕ). t.head ++ t.white ∷ u) (sym (take-append-drop need rest)) ∙ sym (append_assoc t.head (t.white ∷ take need rest) (drop need rest)) in
                told ty bytes (t.head ++ t.white ∷ take need rest) (drop need rest) Extra f x.1 grouped
                (h, behind need (take need rest) (t.head ++ t.white ∷ take need rest) (length-take-le need rest (omega arith)) refl, omega (arith, length-drop need rest))
            | inr x ↦ absurd (ok_no_err (h, rest) f x.1)
          ]
    ]
  where
    ok_no_err : (x : Header × List ℕ) (d : Fault) → ◌≡◌ {A = Result (Header × List ℕ) Fault} (Ok x) (Err d) → ⊥
    ok_no_err x d h = cc

    behind : (n : ℕ) (samples before : List ℕ) → length samples ≡ n → before ≡ t.head ++ t.white ∷ samples → IsBehindHeader ty h before n
    behind n samples before count parts = record {
      head = t.head;
      white = t.white;
      rest = samples;
      head_is = t.head_is;
      sizes = (t.width, t.height, t.most);
      maxval_is = t.maxval;
      white_is = t.white_is;
      count = count;
      parts = parts;
    }

parts_told : (ty : LaneType) (bytes : List ℕ) (f : Fault) → parts_of ty bytes ≡ Err f → IsTold ty bytes f
unfolding parts_of
parts_told ty bytes f e =
    let onward : Header × List ℕ → Result (Header × List ℕ) Fault = λ x. counted x.0 x.1 in
    elim (bind_err (header_of ty bytes) onward f e) [
      | inl a ↦ header_told ty bytes f a
      | inr a ↦ counted_told ty bytes a.0.0 a.0.1 f (header_takes ty bytes a.0 a.1) a.2
    ]

pub left_within : (ty : LaneType) (bytes : List ℕ) (f : Fault) → parts_of ty bytes ≡ Err f → f.left ≤ length bytes
left_within ty bytes f e = let t = parts_told ty bytes f e in omega (arith, ap length t.2, length-append t.0 t.1, t.3)

-- the fault of an image that isn't read
pub image_told : (ty : LaneType) (bytes : List ℕ) (f : Fault) → image_of ty bytes ≡ Err f → IsFaultAt ty bytes (length bytes - f.left) f.kind
unfolding image_of
image_told ty bytes f e =
    let last : Header × List ℕ → Result Picture Fault = λ x. Ok (picture_of ty x) in
    elim (bind_err (parts_of ty bytes) last f e) [
      | inl a ↦ let t = parts_told ty bytes f a in (t.0, t.1, t.2, omega (arith, ap length t.2, length-append t.0 t.1, t.3), t.4)
      | inr a ↦ absurd (ok_no_err (picture_of ty a.0) f a.2)
    ]
  where
    ok_no_err : (x : Picture) (d : Fault) → ◌≡◌ {A = Result Picture Fault} (Ok x) (Err d) → ⊥
    ok_no_err x d h = cc
