-- A filled frame without the blanks that don't count is the bare frame, filled; its operands are read back; no other frame matches it.
use Rattle.std.proofs.Common.{◌≡◌, ℕ, zero, suc, ◌+◌, ◌*◌, ◌≤◌, List, [], ◌∷◌, ◌++◌, length, get_or, Bool, true, false, not, ◌&&◌, ◌||◌, ◌==◌, nat_lt, Some, None, refl, arith, ap, sym, ◌∙◌, append_assoc, length-append, ⊎_elim}
use Rattle.std.proofs.lemmas.List.{append-nil}
use Rattle.std.proofs.lemmas.Bool.{and_parts, cases_Bool, ltb-true}
use Rattle.std.proofs.lemmas.Bool.Decides.{nat_tests}
use Rattle.pf_text.specs.Meaning.Words.{is_name_byte}
use Rattle.pf_text.specs.Meaning.Lines.{is_blank, tight_on, tight_pending}
use Rattle.pf_text.proofs.TightLaws.{IsSolid, front_kept, solid_name}
use Rattle.pf_frames.specs.Meaning.Frames.{is_mark, limit, operand, filled, marks, are_operands}
use Rattle.pf_frames.specs.Meaning.FrameTests.{bare, begins_solid, is_spaced, begins_plain, is_parted, begins_operand, are_apart}
use Rattle.pf_frames.specs.Steps.Reading.{read_operand, matched}
use Rattle.pf_frames.proofs.OperandLaws.{NoName, OperandFacts, operand_facts, no_operand}

-- the numbers are such as the frame's marks stand for
pub record Fill (w ns : List ℕ) : Type 0 where
  pub fits : are_operands (marks w) ns ≡ true

pub mark_small : (c : ℕ) → is_mark c ≡ true → c ≤ 4
mark_small c h = grind (arith, nat_tests)

fill_none : (c : ℕ) (w : List ℕ) → is_mark c ≡ true → Fill (c ∷ w) [] → {A : Type 0} → A
fill_none c w h f = absurd (let e : false ≡ true = rw h at f.fits in cc)

fill_parts : (c : ℕ) (w : List ℕ) (n : ℕ) (ns : List ℕ) → is_mark c ≡ true → Fill (c ∷ w) (n ∷ ns) → (nat_lt n (limit c) ≡ true) × (are_operands (marks w) ns ≡ true)
fill_parts c w n ns h f =
    let both : (nat_lt n (limit c) && are_operands (marks w) ns) ≡ true = rw h at f.fits in
    and_parts (nat_lt n (limit c)) (are_operands (marks w) ns) both

pub fill_behind : (c : ℕ) (w : List ℕ) (n : ℕ) (ns : List ℕ) → is_mark c ≡ true → Fill (c ∷ w) (n ∷ ns) → Fill w ns
fill_behind c w n ns h f = record { fits = (fill_parts c w n ns h f).1 }

pub fill_next : (c : ℕ) (w ns : List ℕ) → is_mark c ≡ false → Fill (c ∷ w) ns → Fill w ns
fill_next c w ns h f = record { fits = rw h at f.fits }

pub fill_here : (c : ℕ) (w : List ℕ) (n : ℕ) (ns : List ℕ) → is_mark c ≡ true → Fill (c ∷ w) (n ∷ ns) → OperandFacts c n
fill_here c w n ns h f = operand_facts c n (mark_small c h) (ltb-true n (limit c) (fill_parts c w n ns h f).0)

pub filled_mark : (c n : ℕ) (w ns : List ℕ) → is_mark c ≡ true → filled (c ∷ w) (n ∷ ns) ≡ operand c n ++ filled w ns
filled_mark c n w ns h = rw h refl

pub filled_none : (c : ℕ) (w : List ℕ) → is_mark c ≡ true → filled (c ∷ w) [] ≡ filled w []
filled_none c w h = rw h refl

pub filled_byte : (c : ℕ) (w ns : List ℕ) → is_mark c ≡ false → filled (c ∷ w) ns ≡ c ∷ filled w ns
filled_byte c w [] h = rw h refl
filled_byte c w (n ∷ ns) h = rw h refl

mark_solid : (c : ℕ) → is_mark c ≡ true → (is_blank c ≡ false) × ((c == 44) ≡ false)
mark_solid c h = (grind (arith, nat_tests), grind (arith, nat_tests))

-- behind a space, a text that begins with no blank is kept
pending_solid : (w t : List ℕ) → IsSolid w → 1 ≤ length w → tight_pending (w ++ t) ≡ 32 ∷ tight_on false (w ++ t)
pending_solid [] t s some = absurd (omega arith)
pending_solid (d ∷ w) t s some = let solid : is_blank d ≡ false = s.0 in rw solid refl

pending : (w ns : List ℕ) → begins_solid w ≡ true → Fill w ns → tight_pending (filled w ns) ≡ 32 ∷ tight_on false (filled w ns)
pending [] ns b f = absurd (cc)
pending (c ∷ w) [] b f =
    ⊎_elim
    (λ (mark : is_mark c ≡ true). fill_none c w mark f)
    (λ (byte : is_mark c ≡ false).
    let solid : is_blank c ≡ false = grind (arith, nat_tests) in
    rw (byte, solid) refl)
    (cases_Bool (is_mark c))
pending (c ∷ w) (n ∷ ns) b f =
    ⊎_elim
    (λ (mark : is_mark c ≡ true).
    let facts = fill_here c w n ns mark f in
    rw mark (pending_solid (operand c n) (filled w ns) (solid_name (operand c n) facts.name) facts.some))
    (λ (byte : is_mark c ≡ false).
    let solid : is_blank c ≡ false = grind (arith, nat_tests) in
    rw (byte, solid) refl)
    (cases_Bool (is_mark c))

-- the laws at a byte that is no mark, by what stands before it
tight_byte : (free : Bool) (c : ℕ) (w ns : List ℕ) → is_mark c ≡ false → is_spaced free (c ∷ w) ≡ true → Fill w ns
    → ((free : Bool) → is_spaced free w ≡ true → tight_on free (filled w ns) ≡ filled (bare free w) ns) → tight_on free (c ∷ filled w ns) ≡ filled (bare free (c ∷ w)) ns
tight_byte true c w ns byte s f on =
    ⊎_elim
    (λ (blank : is_blank c ≡ true).
    let spaced : is_spaced true w ≡ true = rw blank at s in
    rw blank (on true spaced))
    (λ (solid : is_blank c ≡ false).
    let spaced : is_spaced (c == 44) w ≡ true = rw solid at s in
    rw solid (ap (λ t. c ∷ t) (on (c == 44) spaced) ∙ sym (filled_byte c (bare (c == 44) w) ns byte)))
    (cases_Bool (is_blank c))
tight_byte false c w ns byte s f on =
    ⊎_elim
    (λ (blank : is_blank c ≡ true).
    let whole : (c == 32 && begins_solid w && is_spaced (c == 44) w) ≡ true = rw blank at s in
    let outer : ((c == 32 && begins_solid w) ≡ true) × (is_spaced (c == 44) w ≡ true) = and_parts (c == 32 && begins_solid w) (is_spaced (c == 44) w) whole in
    let inner : ((c == 32) ≡ true) × (begins_solid w ≡ true) = and_parts (c == 32) (begins_solid w) outer.0 in
    let space : c ≡ 32 = grind (arith, nat_tests, inner.0) in
    let comma : (c == 44) ≡ false = grind (arith, nat_tests) in
    let kept : tight_on false (filled w ns) ≡ filled (bare false w) ns = on false (rw comma at outer.1) in
    let front : tight_on false (c ∷ filled w ns) ≡ tight_pending (filled w ns) = rw blank refl in
    let bared : bare false (c ∷ w) ≡ c ∷ bare false w = rw (blank, comma) refl in
    front ∙ (pending w ns inner.1 f ∙ (ap (λ t. 32 ∷ t) kept ∙ (ap (λ b. b ∷ filled (bare false w) ns) (sym space) ∙ (sym (filled_byte c (bare false w) ns byte) ∙ ap (λ v. filled v ns) (sym bared))))))
    (λ (solid : is_blank c ≡ false).
    let spaced : is_spaced (c == 44) w ≡ true = rw solid at s in
    rw solid (ap (λ t. c ∷ t) (on (c == 44) spaced) ∙ sym (filled_byte c (bare (c == 44) w) ns byte)))
    (cases_Bool (is_blank c))

tight_mark : (free : Bool) (c n : ℕ) (w ns : List ℕ) → is_mark c ≡ true → is_spaced free (c ∷ w) ≡ true → OperandFacts c n
    → ((free : Bool) → is_spaced free w ≡ true → tight_on free (filled w ns) ≡ filled (bare free w) ns) → tight_on free (operand c n ++ filled w ns) ≡ filled (bare free (c ∷ w)) (n ∷ ns)
tight_mark free c n w ns mark s facts on =
    let solid = mark_solid c mark in
    let spaced : is_spaced false w ≡ true = rw (solid.0, solid.1) at s in
    rw (solid.0, solid.1)
    (front_kept free (operand c n) (filled w ns) (solid_name (operand c n) facts.name) facts.some
    ∙ ap (λ t. operand c n ++ t) (on false spaced)
    ∙ sym (filled_mark c n (bare false w) ns mark))

pub tight_filled : (free : Bool) (w ns : List ℕ) → is_spaced free w ≡ true → Fill w ns → tight_on free (filled w ns) ≡ filled (bare free w) ns
tight_filled free [] ns s f = refl
tight_filled free (c ∷ w) [] s f =
    ⊎_elim
    (λ (mark : is_mark c ≡ true). fill_none c w mark f)
    (λ (byte : is_mark c ≡ false). rw (filled_byte c w [] byte) (tight_byte free c w [] byte s (fill_next c w [] byte f) (λ other h. tight_filled other w [] h (fill_next c w [] byte f))))
    (cases_Bool (is_mark c))
tight_filled free (c ∷ w) (n ∷ ns) s f =
    ⊎_elim
    (λ (mark : is_mark c ≡ true). rw (filled_mark c n w ns mark) (tight_mark free c n w ns mark s (fill_here c w n ns mark f) (λ other h. tight_filled other w ns h (fill_behind c w n ns mark f))))
    (λ (byte : is_mark c ≡ false). rw (filled_byte c w (n ∷ ns) byte) (tight_byte free c w (n ∷ ns) byte s (fill_next c w (n ∷ ns) byte f) (λ other h. tight_filled other w (n ∷ ns) h (fill_next c w (n ∷ ns) byte f))))
    (cases_Bool (is_mark c))

no_name : (w ns : List ℕ) → begins_plain w ≡ true → NoName (filled w ns)
no_name [] ns b = tt
no_name (c ∷ w) ns b =
    let parts : (not (is_mark c) ≡ true) × (not (is_name_byte c) ≡ true) = and_parts (not (is_mark c)) (not (is_name_byte c)) b in
    let byte : is_mark c ≡ false = grind (arith, nat_tests, parts.0) in
    let plain : is_name_byte c ≡ false = grind (arith, nat_tests, parts.1) in
    rw (filled_byte c w ns byte) plain

parted_mark : (c : ℕ) (w : List ℕ) → is_mark c ≡ true → is_parted (c ∷ w) ≡ true → (begins_plain w ≡ true) × (is_parted w ≡ true)
parted_mark c w h p = and_parts (begins_plain w) (is_parted w) (rw h at p)

parted_byte : (c : ℕ) (w : List ℕ) → is_mark c ≡ false → is_parted (c ∷ w) ≡ true → is_parted w ≡ true
parted_byte c w h p = rw h at p

same_byte : (c : ℕ) → (c == c) ≡ true
same_byte c = grind (arith, nat_tests)

-- a mark, or a byte, is read
matched_mark : (c n : ℕ) (v w ns done : List ℕ) → is_mark c ≡ true → OperandFacts c n → begins_plain w ≡ true → matched (c ∷ v) (operand c n ++ filled w ns) done ≡ matched v (filled w ns) (done ++ n ∷ [])
matched_mark c n v w ns done h facts plain = rw (h, facts.read (filled w ns) (no_name w ns plain)) refl

pub matched_byte : (c : ℕ) (v line done : List ℕ) → is_mark c ≡ false → matched (c ∷ v) (c ∷ line) done ≡ matched v line done
matched_byte c v line done h = rw (h, same_byte c) refl

pub matched_other : (c d : ℕ) (v line done : List ℕ) → is_mark c ≡ false → (c == d) ≡ false → matched (c ∷ v) (d ∷ line) done ≡ None
matched_other c d v line done h other = rw (h, other) refl

-- the operands are read back
pub matched_filled : (w ns done : List ℕ) → is_parted w ≡ true → Fill w ns → matched w (filled w ns) done ≡ Some (done ++ ns)
matched_filled [] [] done p f = ap Some (sym (append-nil done))
matched_filled [] (n ∷ ns) done p f = absurd (let e : false ≡ true = f.fits in cc)
matched_filled (c ∷ w) [] done p f =
    ⊎_elim
    (λ (mark : is_mark c ≡ true). fill_none c w mark f)
    (λ (byte : is_mark c ≡ false). rw (filled_byte c w [] byte, matched_byte c w (filled w []) done byte) (matched_filled w [] done (parted_byte c w byte p) (fill_next c w [] byte f)))
    (cases_Bool (is_mark c))
matched_filled (c ∷ w) (n ∷ ns) done p f =
    ⊎_elim
    (λ (mark : is_mark c ≡ true).
    let parts = parted_mark c w mark p in
    rw (filled_mark c n w ns mark, matched_mark c n w w ns done mark (fill_here c w n ns mark f) parts.0)
    (matched_filled w ns (done ++ n ∷ []) parts.1 (fill_behind c w n ns mark f) ∙ ap Some (append_assoc done (n ∷ []) ns)))
    (λ (byte : is_mark c ≡ false). rw (filled_byte c w (n ∷ ns) byte, matched_byte c w (filled w (n ∷ ns)) done byte) (matched_filled w (n ∷ ns) done (parted_byte c w byte p) (fill_next c w (n ∷ ns) byte f)))
    (cases_Bool (is_mark c))

nothing_left : (w t done : List ℕ) → 1 ≤ length w → matched [] (w ++ t) done ≡ None
nothing_left [] t done some = absurd (omega arith)
nothing_left (d ∷ w) t done some = refl

-- a byte with which no operand begins isn't the front of one
byte_no_operand : (c m : ℕ) (v w t done : List ℕ) → is_mark c ≡ false → begins_operand m c ≡ false → begins_operand m (get_or w 0 0) ≡ true → 1 ≤ length w → matched (c ∷ v) (w ++ t) done ≡ None
byte_no_operand c m v [] t done byte none begins some = absurd (omega arith)
byte_no_operand c m v (d ∷ w) t done byte none begins some =
    ⊎_elim
    (λ (same : (c == d) ≡ true). absurd (let is : c ≡ d = grind (arith, nat_tests) in let here : begins_operand m c ≡ true = rw is begins in cc))
    (λ (other : (c == d) ≡ false). matched_other c d v (w ++ t) done byte other)
    (cases_Bool (c == d))

pub no_at_mark : (c : ℕ) (v line done : List ℕ) → is_mark c ≡ true → read_operand c line ≡ None → matched (c ∷ v) line done ≡ None
no_at_mark c v line done h none = rw (h, none) refl

or_right : (a b : Bool) → a ≡ false → (a || b) ≡ true → b ≡ true
or_right true b h e = absurd (cc)
or_right false b h e = e

pub is_not : (b : Bool) → not b ≡ true → b ≡ false
is_not true h = absurd (cc)
is_not false h = refl

-- how apart two frames are at their fronts
record ApartFront (c d : ℕ) (v u : List ℕ) : Type 0 where
  same : (c == d) ≡ true → are_apart v u ≡ true
  at_mark : (c == d) ≡ false → is_mark c ≡ true → is_mark d ≡ false → begins_operand c d ≡ false
  at_byte : (c == d) ≡ false → is_mark c ≡ false → is_mark d ≡ true → begins_operand d c ≡ false

apart_front : (c d : ℕ) (v u : List ℕ) → are_apart (c ∷ v) (d ∷ u) ≡ true → ApartFront c d v u
apart_front c d v u a = record {
  same = λ same. rw same at a;
  at_mark = λ other mark byte. is_not (begins_operand c d) (or_right (is_mark d) (not (begins_operand c d)) byte (rw (other, mark) at a));
  at_byte = λ other byte mark. is_not (begins_operand d c) (rw (other, byte, mark) at a);
}

apart_mark : (c d n : ℕ) (v u ns done : List ℕ) → is_mark d ≡ true → ApartFront c d v u → OperandFacts d n → begins_plain u ≡ true
    → ((done : List ℕ) → are_apart v u ≡ true → matched v (filled u ns) done ≡ None) → matched (c ∷ v) (operand d n ++ filled u ns) done ≡ None
apart_mark c d n v u ns done mark a facts plain on =
    ⊎_elim
    (λ (same : (c == d) ≡ true).
    let is : c ≡ d = grind (arith, nat_tests) in
    rw (is, matched_mark d n v u ns done mark facts plain) (on (done ++ n ∷ []) (a.same same)))
    (λ (other : (c == d) ≡ false).
    ⊎_elim
    (λ (two : is_mark c ≡ true).
    let differ : c ≡ d → ⊥ = λ e. absurd (let is : (c == d) ≡ true = rw e (same_byte d) in cc) in
    no_at_mark c v (operand d n ++ filled u ns) done two (facts.other c (filled u ns) (mark_small c two) differ (no_name u ns plain)))
    (λ (byte : is_mark c ≡ false). byte_no_operand c d v (operand d n) (filled u ns) done byte (a.at_byte other byte mark) facts.begins facts.some)
    (cases_Bool (is_mark c)))
    (cases_Bool (c == d))

apart_byte : (c d : ℕ) (v u ns done : List ℕ) → is_mark d ≡ false → ApartFront c d v u
    → ((done : List ℕ) → are_apart v u ≡ true → matched v (filled u ns) done ≡ None) → matched (c ∷ v) (d ∷ filled u ns) done ≡ None
apart_byte c d v u ns done byte a on =
    ⊎_elim
    (λ (same : (c == d) ≡ true).
    let is : c ≡ d = grind (arith, nat_tests) in
    rw (is, matched_byte d v (filled u ns) done byte) (on done (a.same same)))
    (λ (other : (c == d) ≡ false).
    ⊎_elim
    (λ (mark : is_mark c ≡ true). no_at_mark c v (d ∷ filled u ns) done mark (no_operand c d (filled u ns) (a.at_mark other mark byte)))
    (λ (two : is_mark c ≡ false). matched_other c d v (filled u ns) done two other)
    (cases_Bool (is_mark c)))
    (cases_Bool (c == d))

-- a line that another bare frame gives isn't matched
pub apart_filled : (v w ns done : List ℕ) → are_apart v w ≡ true → is_parted w ≡ true → Fill w ns → matched v (filled w ns) done ≡ None
apart_filled [] [] ns done a p f = absurd (cc)
apart_filled [] (d ∷ w) [] done a p f =
    ⊎_elim
    (λ (mark : is_mark d ≡ true). fill_none d w mark f)
    (λ (byte : is_mark d ≡ false). rw (filled_byte d w [] byte) refl)
    (cases_Bool (is_mark d))
apart_filled [] (d ∷ w) (n ∷ ns) done a p f =
    ⊎_elim
    (λ (mark : is_mark d ≡ true). rw (filled_mark d n w ns mark) (nothing_left (operand d n) (filled w ns) done (fill_here d w n ns mark f).some))
    (λ (byte : is_mark d ≡ false). rw (filled_byte d w (n ∷ ns) byte) refl)
    (cases_Bool (is_mark d))
apart_filled (c ∷ v) [] ns done a p f =
    ⊎_elim
    (λ (mark : is_mark c ≡ true). no_at_mark c v [] done mark (nothing_read c))
    (λ (byte : is_mark c ≡ false). rw byte refl)
    (cases_Bool (is_mark c))
  where
    nothing_read : (c : ℕ) → read_operand c [] ≡ None
    nothing_read zero = refl
    nothing_read (suc zero) = refl
    nothing_read (suc (suc zero)) = refl
    nothing_read (suc (suc (suc zero))) = refl
    nothing_read (suc (suc (suc (suc m)))) = refl
apart_filled (c ∷ v) (d ∷ w) [] done a p f =
    ⊎_elim
    (λ (mark : is_mark d ≡ true). fill_none d w mark f)
    (λ (byte : is_mark d ≡ false).
    rw (filled_byte d w [] byte) (apart_byte c d v w [] done byte (apart_front c d v w a) (λ done on. apart_filled v w [] done on (parted_byte d w byte p) (fill_next d w [] byte f))))
    (cases_Bool (is_mark d))
apart_filled (c ∷ v) (d ∷ w) (n ∷ ns) done a p f =
    ⊎_elim
    (λ (mark : is_mark d ≡ true).
    let parts = parted_mark d w mark p in
    rw (filled_mark d n w ns mark) (apart_mark c d n v w ns done mark (apart_front c d v w a) (fill_here d w n ns mark f) parts.0 (λ done on. apart_filled v w ns done on parts.1 (fill_behind d w n ns mark f))))
    (λ (byte : is_mark d ≡ false).
    rw (filled_byte d w (n ∷ ns) byte) (apart_byte c d v w (n ∷ ns) done byte (apart_front c d v w a) (λ done on. apart_filled v w (n ∷ ns) done on (parted_byte d w byte p) (fill_next d w (n ∷ ns) byte f))))
    (cases_Bool (is_mark d))

-- how long a filled frame is at most
pub length-filled : (w ns : List ℕ) → Fill w ns → length (filled w ns) ≤ length w + 10 * length ns
length-filled [] ns f = omega arith
length-filled (c ∷ w) [] f =
    ⊎_elim
    (λ (mark : is_mark c ≡ true). fill_none c w mark f)
    (λ (byte : is_mark c ≡ false). rw (filled_byte c w [] byte) (omega (arith, length-filled w [] (fill_next c w [] byte f))))
    (cases_Bool (is_mark c))
length-filled (c ∷ w) (n ∷ ns) f =
    ⊎_elim
    (λ (mark : is_mark c ≡ true).
    let facts = fill_here c w n ns mark f in
    rw (filled_mark c n w ns mark, length-append (operand c n) (filled w ns)) (omega (arith, facts.few, length-filled w ns (fill_behind c w n ns mark f))))
    (λ (byte : is_mark c ≡ false). rw (filled_byte c w (n ∷ ns) byte) (omega (arith, length-filled w (n ∷ ns) (fill_next c w (n ∷ ns) byte f))))
    (cases_Bool (is_mark c))

-- one byte of a frame, for the loops over it
pub marks_mark : (c : ℕ) (w : List ℕ) → is_mark c ≡ true → length (marks (c ∷ w)) ≡ 1 + length (marks w)
marks_mark c w h = rw h (omega arith)

pub marks_byte : (c : ℕ) (w : List ℕ) → is_mark c ≡ false → marks (c ∷ w) ≡ marks w
marks_byte c w h = rw h refl

pub bare_mark : (free : Bool) (c : ℕ) (w : List ℕ) → is_mark c ≡ true → bare free (c ∷ w) ≡ c ∷ bare false w
bare_mark free c w h = let solid = mark_solid c h in rw (solid.0, solid.1) refl

pub bare_left : (c : ℕ) (w : List ℕ) → is_blank c ≡ true → bare true (c ∷ w) ≡ bare true w
bare_left c w blank = rw blank refl

pub bare_kept : (free : Bool) (c : ℕ) (w : List ℕ) → (is_blank c && free) ≡ false → bare free (c ∷ w) ≡ c ∷ bare (c == 44) w
bare_kept true c w k =
    ⊎_elim
    (λ (blank : is_blank c ≡ true). absurd (let loud : (is_blank c && true) ≡ true = rw blank refl in cc))
    (λ (solid : is_blank c ≡ false). rw solid refl)
    (cases_Bool (is_blank c))
bare_kept false c w k =
    ⊎_elim
    (λ (blank : is_blank c ≡ true). rw blank refl)
    (λ (solid : is_blank c ≡ false). rw solid refl)
    (cases_Bool (is_blank c))
