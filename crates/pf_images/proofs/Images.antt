-- A whole file, read and spelled.
use Rattle.std.proofs.Common.{◌≡◌, ℕ, ◌*◌, ◌^◌, ◌<◌, ◌≤◌, List, [], ◌∷◌, ◌++◌, length, drop, Bool, true, false, cond, ltb, Ok, Err, refl, sym, ap, ◌∙◌, append_assoc, arith, inl, inr, subst, pos}
use Rattle.std.specs.List.{AllByRecursion, flat_map}
use Rattle.std.specs.Int.{w16, to_be_bytes}
use Rattle.std.proofs.lemmas.Bool.{cases_Bool, cases_lt, ltb-false, le-ltb, lt-ltb}
use Rattle.std.proofs.lemmas.Int.{ints}
use Rattle.std.proofs.lemmas.List.Elements.{All-from_recursion, recursion_from_All}
use Rattle.pf_ints.specs.declared.lane.LaneType.{LaneType}
use Rattle.pf_ints.specs.declared.lane.Bits.{Bits}
use Rattle.pf_ints.specs.declared.lane.Bits.TheVariants.{Eight, Sixteen, ThirtyTwo}
use Rattle.pf_ints.specs.Meaning.Lanes.{lane_width, bit_count, IsIn}
use Rattle.pf_ints.specs.Meaning.Images.{Picture, IsPixelType}
use Rattle.pf_images.specs.declared.fault.PgmKind.TheVariants.{Short, Extra}
use Rattle.pf_images.specs.declared.header.Header.{Header}
use Rattle.pf_images.specs.Meaning.Pgm.{IsMaxval, IsPgm, samples, sample_bytes}
use Rattle.pf_images.specs.Steps.Reading.{at_these, counted, header_of, parts_of, pairs, pixels_of, picture_of, image_of}
use Rattle.pf_images.proofs.Pairs.{IsBytes, spelled_pairs, pairs_again, length-pairs, pairs_below}
use Rattle.pf_images.proofs.Fields.{bind_ok, test_ok, ok_is}
use Rattle.pf_images.proofs.Headers.{header_takes, header_again}

-- ---- pixels

in_bits : (s : Bool) (b : Bits) (n : ℕ) → s ≡ false → bit_count b ≤ 16 → n < 2 ^ bit_count b → IsIn (record { signed = s; bits = b }) (pos n)
in_bits true b n s h lt = absurd cc
in_bits false Eight n s h lt = record { low = omega (arith, ints); high = omega (arith, ints, lt) }
in_bits false Sixteen n s h lt = record { low = omega (arith, ints); high = omega (arith, ints, lt) }
in_bits false ThirtyTwo n s h lt = absurd (omega arith)

in_type : (t : LaneType) (n : ℕ) → IsPixelType t → n < 2 ^ lane_width t → IsIn t (pos n)
in_type t n h lt = in_bits t.signed t.bits n h.unsigned h.narrow lt

out_bits : (s : Bool) (b : Bits) (n : ℕ) → s ≡ false → bit_count b ≤ 16 → IsIn (record { signed = s; bits = b }) (pos n) → n < 2 ^ bit_count b
out_bits true b n s h lt = absurd cc
out_bits false Eight n s h is = omega (arith, ints, is.high)
out_bits false Sixteen n s h is = omega (arith, ints, is.high)
out_bits false ThirtyTwo n s h is = absurd (omega arith)

pub out_type : (t : LaneType) (n : ℕ) → IsPixelType t → IsIn t (pos n) → n < 2 ^ lane_width t
out_type t n h is = out_bits t.signed t.bits n h.unsigned h.narrow is

-- a type that has room for a maxval has room for its samples
room : (s : Bool) (b : Bits) (m : ℕ) → m < 2 ^ bit_count b → (256 ≤ 2 ^ bit_count b) × (256 ≤ m → 65536 ≤ 2 ^ bit_count b)
room s Eight m lt = (omega arith, λ le. absurd (omega arith))
room s Sixteen m lt = (omega arith, λ le. omega arith)
room s ThirtyTwo m lt = (omega arith, λ le. omega arith)

narrow : (b : Bits) (n : ℕ) → bit_count b ≤ 16 → n < 2 ^ bit_count b → n < 2 ^ 16
narrow Eight n h lt = omega arith
narrow Sixteen n h lt = lt
narrow ThirtyTwo n h lt = absurd (omega arith)

pub weaker : (P Q : ℕ → Type 0) → ((n : ℕ) → P n → Q n) → (xs : List ℕ) → AllByRecursion P xs → AllByRecursion Q xs
weaker P Q f [] h = tt
weaker P Q f (x ∷ xs) h = (f x h.0, weaker P Q f xs h.1)

behind : (P : ℕ → Type 0) (xs ys : List ℕ) → AllByRecursion P (xs ++ ys) → AllByRecursion P ys
behind P [] ys h = h
behind P (x ∷ xs) ys h = behind P xs ys h.1

-- the pixels that samples stand for
record PixelsAre (ty : LaneType) (maxval area : ℕ) (bytes : List ℕ) : Type 0 where
  pub spelled : samples maxval (pixels_of maxval bytes) ≡ bytes
  pub count : length (pixels_of maxval bytes) ≡ area
  pub each : AllByRecursion (λ p. p < 2 ^ lane_width ty) (pixels_of maxval bytes)

pixels_take : (ty : LaneType) (h : Header) (bytes : List ℕ) → IsMaxval ty h.maxval → IsBytes bytes → length bytes ≡ sample_bytes h → PixelsAre ty h.maxval (h.width * h.height) bytes
pixels_take ty h bytes most fits long =
    let space = room ty.signed ty.bits h.maxval most.1 in
    elim (cases_lt h.maxval 256) [
      | inl lt ↦
          let small : ltb h.maxval 256 ≡ true = lt-ltb _ _ lt in
          record {
            spelled = rw small refl;
            count = rw small (rw small at long);
            each = rw small (weaker (λ b. b < 256) (λ p. p < 2 ^ lane_width ty) (λ n b. omega (arith, space.0, b)) bytes fits);
          }
      | inr le ↦
          let large : ltb h.maxval 256 ≡ false = le-ltb _ _ le in
          let even : length bytes ≡ 2 * (h.width * h.height) = rw large at long in
          let most_of : 65536 ≤ 2 ^ lane_width ty = space.1 le in
          record {
            spelled = rw large (spelled_pairs (h.width * h.height) bytes fits even);
            count = rw large (length-pairs (h.width * h.height) bytes even);
            each = rw large (weaker (λ p. p < 65536) (λ p. p < 2 ^ lane_width ty) (λ n b. omega (arith, most_of, b)) (pairs bytes) (pairs_below bytes fits));
          }
    ]

counted_takes : (h : Header) (bytes : List ℕ) (x : Header × List ℕ) → counted h bytes ≡ Ok x → ((h, bytes) ≡ x) × (length bytes ≡ sample_bytes h)
unfolding counted
counted_takes h bytes x e =
    let long = test_ok (ltb (length bytes) (sample_bytes h)) (at_these [] Short) (cond (ltb (sample_bytes h) (length bytes)) (Err (at_these (drop (sample_bytes h) bytes) Extra)) (Ok (h, bytes))) x e in
    let short = test_ok (ltb (sample_bytes h) (length bytes)) (at_these (drop (sample_bytes h) bytes) Extra) (Ok (h, bytes)) x long.1 in
    let low = ltb-false _ _ long.0 in
    let high = ltb-false _ _ short.0 in
    (ok_is (h, bytes) x short.1, omega arith)

counted_again : (h : Header) (bytes : List ℕ) → length bytes ≡ sample_bytes h → counted h bytes ≡ Ok (h, bytes)
unfolding counted
counted_again h bytes e =
    let low : ltb (length bytes) (sample_bytes h) ≡ false = le-ltb _ _ (omega arith) in
    let high : ltb (sample_bytes h) (length bytes) ≡ false = le-ltb _ _ (omega arith) in
    rw (low, high) refl

-- ---- the whole

-- the numbers of the header and the samples make an image
pub parts_take : (ty : LaneType) (bytes : List ℕ) (x : Header × List ℕ) → IsPixelType ty → IsBytes bytes → parts_of ty bytes ≡ Ok x → IsPgm bytes ty (picture_of ty x)
unfolding parts_of
parts_take ty bytes x narrow fits e =
    let b = bind_ok (header_of ty bytes) (λ h. counted h.0 h.1) x e in
    let h = header_takes ty bytes b.0 b.1 in
    let c = counted_takes b.0.0 b.0.1 x b.2 in
    let samples_fit : IsBytes b.0.1 = behind (λ n. n < 256) (h.head ++ h.white ∷ []) b.0.1 (subst IsBytes (h.parts ∙ sym (append_assoc h.head (h.white ∷ []) b.0.1)) fits) in
    let p = pixels_take ty b.0.0 b.0.1 h.maxval samples_fit c.1 in
    subst (λ (y : Header × List ℕ). IsPgm bytes ty (picture_of ty y)) c.0 (record {
      head = h.head;
      maxval = b.0.0.maxval;
      white = h.white;
      head_is = h.head_is;
      maxval_is = h.maxval;
      white_is = h.white_is;
      picture = record {
        ty = narrow;
        wide = h.width.some;
        high = h.height.some;
        most_wide = h.width.most;
        most_high = h.height.most;
        most = h.most;
        count = p.count;
        each = All-from_recursion _ _ (weaker (λ n. n < 2 ^ lane_width ty) (λ n. IsIn ty (pos n)) (λ n lt. in_type ty n narrow lt) _ p.each);
      };
      ty_is = refl;
      parts = h.parts ∙ ap (λ (t : List ℕ). h.head ++ h.white ∷ t) (sym p.spelled);
    })

pub image_takes : (ty : LaneType) (bytes : List ℕ) (p : Picture) → IsPixelType ty → IsBytes bytes → image_of ty bytes ≡ Ok p → IsPgm bytes ty p
unfolding image_of
image_takes ty bytes p narrow fits e =
    let b = bind_ok (parts_of ty bytes) (λ x. Ok (picture_of ty x)) p e in
    subst (IsPgm bytes ty) (ok_is (picture_of ty b.0) p b.2) (parts_take ty bytes b.0 narrow fits b.1)

samples_again : (maxval : ℕ) (pixels : List ℕ) → AllByRecursion (λ p. p < 2 ^ 16) pixels → pixels_of maxval (samples maxval pixels) ≡ pixels
samples_again maxval pixels fits =
    elim (cases_Bool (ltb maxval 256)) [
      | inl e ↦ rw e refl
      | inr e ↦ rw e (pairs_again pixels fits)
    ]

samples_long : (h : Header) (pixels : List ℕ) → length pixels ≡ h.width * h.height → length (samples h.maxval pixels) ≡ sample_bytes h
samples_long h pixels e =
    elim (cases_Bool (ltb h.maxval 256)) [
      | inl t ↦ rw t e
      | inr t ↦ rw t (twice pixels ∙ ap (λ (n : ℕ). 2 * n) e)
    ]
  where
    twice : (ps : List ℕ) → length (flat_map (to_be_bytes w16) ps) ≡ 2 * length ps
    twice [] = refl
    twice (q ∷ qs) = omega (arith, twice qs)

-- what spells an image is read as it
pub image_again : (ty : LaneType) (bytes : List ℕ) (p : Picture) → IsPgm bytes ty p → image_of ty bytes ≡ Ok p
unfolding image_of parts_of
image_again ty bytes p is =
    let h : Header = record { width = p.width; height = p.height; maxval = is.maxval } in
    let rest = samples is.maxval p.pixels in
    let each = recursion_from_All _ _ is.picture.each in
    let type_is : IsPixelType p.ty = is.picture.ty in
    let fits : AllByRecursion (λ n. n < 2 ^ 16) p.pixels = weaker (λ n. IsIn p.ty (pos n)) (λ n. n < 2 ^ 16) (λ n i. narrow p.ty.bits n type_is.narrow (out_type p.ty n type_is i)) p.pixels each in
    let head : header_of ty bytes ≡ Ok (h, rest) = ap (header_of ty) is.parts ∙ header_again ty is.head p.width p.height is.maxval is.white rest is.head_is
    (record { some = is.picture.wide; most = is.picture.most_wide }) (record { some = is.picture.high; most = is.picture.most_high }) is.picture.most is.maxval_is is.white_is in
    let made : picture_of ty (h, rest) ≡ p =
    ap (λ (ps : List ℕ). let q : Picture = record { width = p.width; height = p.height; ty = ty; pixels = ps } in q) (samples_again is.maxval p.pixels fits)
    ∙ ap (λ (t : LaneType). let q : Picture = record { width = p.width; height = p.height; ty = t; pixels = p.pixels } in q) (sym is.ty_is) in
    rw (head, counted_again h rest (samples_long h p.pixels is.picture.count)) (ap (λ (q : Picture). Ok q) made)
