-- What a computed test of a whole table says of each two of its frames, and how a frame is read as a word and what follows it.
use Rattle.std.proofs.Common.{◌≡◌, ℕ, zero, suc, ◌<◌, List, [], ◌∷◌, ◌++◌, Bool, true, false, not, ◌&&◌, ◌==◌, refl, arith, ap, ⊎_elim}
use Rattle.std.proofs.lemmas.Bool.{and_parts, cases_Bool, cases_eq}
use Rattle.std.proofs.lemmas.Bool.Decides.{nat_tests}
use Rattle.pf_text.specs.Meaning.Lines.{is_blank}
use Rattle.pf_text.specs.Steps.Scan.{behind, then_behind}
use Rattle.pf_frames.specs.Meaning.Frames.{is_mark, filled, marks}
use Rattle.pf_frames.specs.Meaning.FrameTests.{bare, are_apart, frames_below, is_apart_from, are_all_apart, is_solid, begins_solid}
use Rattle.pf_frames.specs.Steps.Reading.{matched}
use Rattle.pf_frames.proofs.FrameLaws.{filled_byte, bare_kept}

record Apart (v w : List ℕ) : Type 0 where
  there : are_apart v w ≡ true
  back : are_apart w v ≡ true

one_apart : (w v : List ℕ) (vs : List (List ℕ)) → is_apart_from w (v ∷ vs) ≡ true → Apart w v × (is_apart_from w vs ≡ true)
one_apart w v vs h =
    let outer : ((are_apart w v && are_apart v w) ≡ true) × (is_apart_from w vs ≡ true) = and_parts (are_apart w v && are_apart v w) (is_apart_from w vs) h in
    let inner : (are_apart w v ≡ true) × (are_apart v w ≡ true) = and_parts (are_apart w v) (are_apart v w) outer.0 in
    (record { there = inner.0; back = inner.1 }, outer.1)

module _ (is : ℕ → Bool) (f : ℕ → List ℕ) where
  from_one : (w : List ℕ) (n d : ℕ) → is_apart_from w (frames_below is f n) ≡ true → d < n → is d ≡ true → Apart w (f d)
  from_one w zero d h less here = absurd (omega arith)
  from_one w (suc n) d h less here =
      ⊎_elim
      (λ (at : is n ≡ true).
      let parts = one_apart w (f n) (frames_below is f n) (rw at at h) in
      ⊎_elim
      (λ (same : d ≡ n). rw same parts.0)
      (λ (other : d ≡ n → ⊥). from_one w n d parts.1 (omega arith) here)
      (cases_eq d n))
      (λ (none : is n ≡ false).
      let below : is_apart_from w (frames_below is f n) ≡ true = rw none at h in
      ⊎_elim
      (λ (same : d ≡ n). absurd (let is_n : is n ≡ true = rw (← same) here in cc))
      (λ (other : d ≡ n → ⊥). from_one w n d below (omega arith) here)
      (cases_eq d n))
      (cases_Bool (is n))

  -- of a table whose frames were all tested, each two are apart
  pub apart_at : (n c d : ℕ) → are_all_apart (frames_below is f n) ≡ true → c < n → d < n → is c ≡ true → is d ≡ true → (c ≡ d → ⊥) → are_apart (f c) (f d) ≡ true
  apart_at zero c d h less other_less here there differ = absurd (omega arith)
  apart_at (suc n) c d h less other_less here there differ =
      ⊎_elim
      (λ (at : is n ≡ true).
      let parts : (is_apart_from (f n) (frames_below is f n) ≡ true) × (are_all_apart (frames_below is f n) ≡ true) = and_parts (is_apart_from (f n) (frames_below is f n)) (are_all_apart (frames_below is f n)) (rw at at h) in
      ⊎_elim
      (λ (same : c ≡ n). rw same (from_one (f n) n d parts.0 (omega arith) there).there)
      (λ (c_other : c ≡ n → ⊥).
      ⊎_elim
      (λ (same : d ≡ n). rw same (from_one (f n) n c parts.0 (omega arith) here).back)
      (λ (d_other : d ≡ n → ⊥). apart_at n c d parts.1 (omega arith) (omega arith) here there differ)
      (cases_eq d n))
      (cases_eq c n))
      (λ (none : is n ≡ false).
      let below : are_all_apart (frames_below is f n) ≡ true = rw none at h in
      ⊎_elim
      (λ (same : c ≡ n). absurd (let is_n : is n ≡ true = rw (← same) here in cc))
      (λ (c_other : c ≡ n → ⊥).
      ⊎_elim
      (λ (same : d ≡ n). absurd (let is_n : is n ≡ true = rw (← same) there in cc))
      (λ (d_other : d ≡ n → ⊥). apart_at n c d below (omega arith) (omega arith) here there differ)
      (cases_eq d n))
      (cases_eq c n))
      (cases_Bool (is n))

record SolidByte (c : ℕ) (w : List ℕ) : Type 0 where
  byte : is_mark c ≡ false
  blank : is_blank c ≡ false
  comma : (c == 44) ≡ false
  rest : is_solid w ≡ true

is_not : (b : Bool) → not b ≡ true → b ≡ false
is_not true h = absurd (cc)
is_not false h = refl

solid_byte : (c : ℕ) (w : List ℕ) → is_solid (c ∷ w) ≡ true → SolidByte c w
solid_byte c w s =
    let outer : ((not (is_mark c) && not (is_blank c) && not (c == 44)) ≡ true) × (is_solid w ≡ true) = and_parts (not (is_mark c) && not (is_blank c) && not (c == 44)) (is_solid w) s in
    let middle : ((not (is_mark c) && not (is_blank c)) ≡ true) × (not (c == 44) ≡ true) = and_parts (not (is_mark c) && not (is_blank c)) (not (c == 44)) outer.0 in
    let inner : (not (is_mark c) ≡ true) × (not (is_blank c) ≡ true) = and_parts (not (is_mark c)) (not (is_blank c)) middle.0 in
    record { byte = is_not (is_mark c) inner.0; blank = is_not (is_blank c) inner.1; comma = is_not (c == 44) middle.1; rest = outer.1 }

-- a line matches a word with a pattern behind it where it has the word in front and the rest matches the pattern
pub matched_word : (w p line : List ℕ) → is_solid w ≡ true → matched (bare false (w ++ p)) line [] ≡ then_behind (behind w line) (λ rest. matched (bare false p) rest [])
matched_word [] p line s = refl
matched_word (c ∷ w) p [] s =
    let solid = solid_byte c w s in
    rw (solid.blank, solid.byte) refl
matched_word (c ∷ w) p (d ∷ line) s =
    let solid = solid_byte c w s in
    ⊎_elim
    (λ (same : (c == d) ≡ true). rw (solid.blank, solid.comma, solid.byte, same) (matched_word w p line solid.rest))
    (λ (other : (c == d) ≡ false). rw (solid.blank, solid.comma, solid.byte, other) refl)
    (cases_Bool (c == d))

pub filled_word : (w p ns : List ℕ) → is_solid w ≡ true → filled (w ++ p) ns ≡ w ++ filled p ns
filled_word [] p ns s = refl
filled_word (c ∷ w) p ns s = let solid = solid_byte c w s in rw (filled_byte c (w ++ p) ns solid.byte) (ap (λ t. c ∷ t) (filled_word w p ns solid.rest))

-- the front of a frame is no blank
pub bare_front : (w : List ℕ) → begins_solid w ≡ true → bare true w ≡ bare false w
bare_front [] s = absurd (cc)
bare_front (c ∷ w) s = let solid : is_blank c ≡ false = is_not (is_blank c) s in rw solid refl

marks_same : (c : ℕ) (v w : List ℕ) → marks v ≡ marks w → marks (c ∷ v) ≡ marks (c ∷ w)
marks_same c v w e =
    ⊎_elim
    (λ (mark : is_mark c ≡ true). rw mark (ap (λ l. c ∷ l) e))
    (λ (byte : is_mark c ≡ false). rw byte e)
    (cases_Bool (is_mark c))

pub marks_bare : (free : Bool) (w : List ℕ) → marks (bare free w) ≡ marks w
marks_bare free [] = refl
marks_bare true (c ∷ w) =
    ⊎_elim
    (λ (blank : is_blank c ≡ true).
    let byte : is_mark c ≡ false = grind (arith, nat_tests) in
    rw (blank, byte) (marks_bare true w))
    (λ (solid : is_blank c ≡ false). rw solid (marks_same c (bare (c == 44) w) w (marks_bare (c == 44) w)))
    (cases_Bool (is_blank c))
marks_bare false (c ∷ w) = rw (bare_kept false c w (not_free (is_blank c))) (marks_same c (bare (c == 44) w) w (marks_bare (c == 44) w)) where
  not_free : (b : Bool) → (b && false) ≡ false
  not_free true = refl
  not_free false = refl
