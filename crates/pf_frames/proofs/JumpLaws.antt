-- A jump's line is kept as it is printed, and no frame reads it.
use Rattle.std.proofs.Common.{◌≡◌, ◌≢◌, ℕ, ◌+◌, ◌≤◌, List, [], ◌∷◌, ◌++◌, Bool, true, false, not, ◌&&◌, ◌==◌, nat_le, length, Option, Some, None, refl, arith, ap, sym, ◌∙◌, length-append, ⊎_elim}
use Rattle.std.specs.List.{last_or, list_all}
use Rattle.std.proofs.lemmas.List.{append_cancel_left, append_cancel_right}
use Rattle.std.proofs.lemmas.List.Elements.{All-append}
use Rattle.std.proofs.lemmas.Bool.{and_parts, cases_Bool, leb-true}
use Rattle.std.proofs.lemmas.Bool.Decides.{nat_tests}
use Rattle.pf_text.specs.Meaning.Words.{is_letter, is_name_byte, is_spelled, is_reserved, is_name}
use Rattle.pf_text.specs.Meaning.Lines.{is_blank, tight_on, tight_pending, tight, IsPlain, IsInstruction}
use Rattle.pf_frames.specs.Meaning.Frames.{is_mark}
use Rattle.pf_frames.specs.Meaning.LineTables.{Around, jump_text}
use Rattle.pf_frames.specs.Meaning.FrameTests.{begins_solid, begins_plain, is_plain, ends_well, is_kept, is_forked, is_around, begins_apart}
use Rattle.pf_frames.specs.Steps.Reading.{matched}
use Rattle.pf_frames.proofs.OperandLaws.{no_operand}
use Rattle.pf_frames.proofs.FrameLaws.{no_at_mark, matched_byte, matched_other, is_not}
use Rattle.pf_frames.proofs.InstructionLaws.{plain_name, plain_text, last_name}

-- ---- texts in which each blank counts
pending_text : (w : List ℕ) → begins_solid w ≡ true → tight_pending w ≡ 32 ∷ tight_on false w
pending_text [] b = absurd (cc)
pending_text (c ∷ w) b = let solid = is_not (is_blank c) b in rw solid refl

record Counted (free : Bool) (c : ℕ) (w : List ℕ) : Type 0 where
  closed : free ≡ false
  space : c ≡ 32
  solid : begins_solid w ≡ true
  more : is_kept (c == 44) w ≡ true

counted : (free : Bool) (c : ℕ) (w : List ℕ) → is_blank c ≡ true → is_kept free (c ∷ w) ≡ true → Counted free c w
counted free c w blank h =
    let whole : (not free && c == 32 && begins_solid w && is_kept (c == 44) w) ≡ true = rw blank at h in
    let p3 = and_parts (not free && c == 32 && begins_solid w) (is_kept (c == 44) w) whole in
    let p2 = and_parts (not free && c == 32) (begins_solid w) p3.0 in
    let p1 = and_parts (not free) (c == 32) p2.0 in
    let space = p1.1 in
    record { closed = is_not free p1.0; space = grind (arith, nat_tests, space); solid = p2.1; more = p3.1 }

kept_tight : (free : Bool) (w : List ℕ) → is_kept free w ≡ true → tight_on free w ≡ w
kept_tight free [] h = refl
kept_tight free (c ∷ w) h =
    ⊎_elim
    (λ (blank : is_blank c ≡ true).
    let k = counted free c w blank h in
    let comma : (c == 44) ≡ false = let space = k.space in grind (arith, nat_tests) in
    let more : is_kept false w ≡ true = rw comma at k.more in
    let front : tight_on false (c ∷ w) ≡ tight_pending w = rw blank refl in
    rw k.closed (front ∙ (pending_text w k.solid ∙ (ap (λ t. 32 ∷ t) (kept_tight false w more) ∙ ap (λ b. b ∷ w) (sym k.space)))))
    (λ (solid : is_blank c ≡ false).
    let more : is_kept (c == 44) w ≡ true = rw solid at h in
    rw solid (ap (λ t. c ∷ t) (kept_tight (c == 44) w more)))
    (cases_Bool (is_blank c))

solid_append : (w t : List ℕ) → begins_solid (w ++ 108 ∷ []) ≡ true → begins_solid t ≡ true → begins_solid (w ++ t) ≡ true
solid_append [] t h k = k
solid_append (c ∷ w) t h k = h

kept_blank : (free : Bool) (c : ℕ) (w : List ℕ) → is_blank c ≡ true → Counted free c w → is_kept free (c ∷ w) ≡ true
kept_blank free c w blank k =
    let test : (c == 32) ≡ true = let space = k.space in grind (arith, nat_tests) in
    rw (blank, k.closed, test, k.solid, k.more) refl

kept_solid : (free : Bool) (c : ℕ) (w : List ℕ) → is_blank c ≡ false → is_kept (c == 44) w ≡ true → is_kept free (c ∷ w) ≡ true
kept_solid free c w solid more = rw solid more

kept_any : (free : Bool) (t : List ℕ) → begins_solid t ≡ true → is_kept true t ≡ true → is_kept free t ≡ true
kept_any free [] s h = absurd (cc)
kept_any free (c ∷ t) s h =
    let solid = is_not (is_blank c) s in
    let more : is_kept (c == 44) t ≡ true = rw solid at h in
    kept_solid free c t solid more

kept_append : (free : Bool) (w t : List ℕ) → is_kept free (w ++ 108 ∷ []) ≡ true → begins_solid t ≡ true → is_kept true t ≡ true → is_kept free (w ++ t) ≡ true
kept_append free [] t h s k = kept_any free t s k
kept_append free (c ∷ w) t h s k =
    ⊎_elim
    (λ (blank : is_blank c ≡ true).
    let n = counted free c (w ++ 108 ∷ []) blank h in
    kept_blank free c (w ++ t) blank (record { closed = n.closed; space = n.space; solid = solid_append w t n.solid s; more = kept_append (c == 44) w t n.more s k }))
    (λ (solid : is_blank c ≡ false).
    let more : is_kept (c == 44) (w ++ 108 ∷ []) ≡ true = rw solid at h in
    kept_solid free c (w ++ t) solid (kept_append (c == 44) w t more s k))
    (cases_Bool (is_blank c))

name_solid : (c : ℕ) → is_name_byte c ≡ true → (is_blank c ≡ false) × ((c == 44) ≡ false)
name_solid c h = (grind (arith, nat_tests), grind (arith, nat_tests))

kept_name : (free : Bool) (w t : List ℕ) → list_all is_name_byte w ≡ true → 1 ≤ length w → is_kept false t ≡ true → is_kept free (w ++ t) ≡ true
kept_name free [] t a some k = absurd (omega arith)
kept_name free (c ∷ []) t a some k =
    let solid = name_solid c (and_parts (is_name_byte c) (list_all is_name_byte []) a).0 in
    kept_solid free c t solid.0 (rw solid.1 k)
kept_name free (c ∷ d ∷ w) t a some k =
    let parts : (is_name_byte c ≡ true) × (list_all is_name_byte (d ∷ w) ≡ true) = and_parts (is_name_byte c) (list_all is_name_byte (d ∷ w)) a in
    kept_solid free c (d ∷ w ++ t) (name_solid c parts.0).0 (kept_name (c == 44) (d ∷ w) t parts.1 (omega arith) k)

name_begins : (w t : List ℕ) → list_all is_name_byte w ≡ true → 1 ≤ length w → begins_solid (w ++ t) ≡ true
name_begins [] t a some = absurd (omega arith)
name_begins (c ∷ w) t a some = let solid = (name_solid c (and_parts (is_name_byte c) (list_all is_name_byte w) a).0).0 in rw solid refl

-- ---- labels
pub record IsLabel (label : List ℕ) : Type 0 where
  pub name : list_all is_name_byte label ≡ true
  pub some : 1 ≤ length label
  pub few : length label ≤ 32

pub label_is : (label : List ℕ) → is_name label ≡ true → IsLabel label
unfolding is_name
label_is [] h = absurd (cc)
label_is (c ∷ cs) h =
    let whole : (is_spelled (c ∷ cs) && nat_le (length (c ∷ cs)) 32 && not (is_reserved (c ∷ cs))) ≡ true = h in
    let outer = and_parts (is_spelled (c ∷ cs) && nat_le (length (c ∷ cs)) 32) (not (is_reserved (c ∷ cs))) whole in
    let inner = and_parts (is_spelled (c ∷ cs)) (nat_le (length (c ∷ cs)) 32) outer.0 in
    let parts : (is_letter c ≡ true) × (list_all is_name_byte cs ≡ true) = and_parts (is_letter c) (list_all is_name_byte cs) inner.0 in
    let letter = parts.0 in
    let first : is_name_byte c ≡ true = grind (arith, nat_tests) in
    record { name = rw first parts.1; some = omega arith; few = leb-true (length (c ∷ cs)) 32 inner.1 }

-- ---- what stands around a label
pub record AroundFacts (a : Around) : Type 0 where
  pub front : is_kept true (a.front ++ 108 ∷ []) ≡ true
  pub back : is_kept false a.back ≡ true
  pub plain : is_plain (a.front ++ a.back) ≡ true
  pub ends : ends_well true a.back ≡ true
  pub few : length a.front + length a.back ≤ 40

pub around_facts : (a : Around) → is_around a.front a.back ≡ true → AroundFacts a
around_facts a h =
    let f = a.front in
    let b = a.back in
    let p5 = and_parts (is_kept true (f ++ 108 ∷ []) && is_kept false b && begins_plain b && is_plain (f ++ b) && ends_well true b) (nat_le (length f + length b) 40) h in
    let p4 = and_parts (is_kept true (f ++ 108 ∷ []) && is_kept false b && begins_plain b && is_plain (f ++ b)) (ends_well true b) p5.0 in
    let p3 = and_parts (is_kept true (f ++ 108 ∷ []) && is_kept false b && begins_plain b) (is_plain (f ++ b)) p4.0 in
    let p2 = and_parts (is_kept true (f ++ 108 ∷ []) && is_kept false b) (begins_plain b) p3.0 in
    let p1 = and_parts (is_kept true (f ++ 108 ∷ [])) (is_kept false b) p2.0 in
    record { front = p1.0; back = p1.1; plain = p3.1; ends = p4.1; few = leb-true (length f + length b) 40 p5.1 }

-- a jump's line has no blank that doesn't count
pub jump_tight : (a : Around) (label : List ℕ) → AroundFacts a → IsLabel label → tight (jump_text a label) ≡ jump_text a label
unfolding tight
jump_tight a label f is =
    kept_tight true (jump_text a label)
    (kept_append true a.front (label ++ a.back) f.front (name_begins label a.back is.name is.some) (kept_name true label a.back is.name is.some f.back))

pub length-jump : (a : Around) (label : List ℕ) → AroundFacts a → IsLabel label → length (jump_text a label) ≤ 80
length-jump a label f is = omega (arith, length-append a.front (label ++ a.back), length-append label a.back, f.few, is.few)

plain_split : (v w : List ℕ) → is_plain (v ++ w) ≡ true → (is_plain v ≡ true) × (is_plain w ≡ true)
plain_split [] w h = (refl, h)
plain_split (c ∷ v) w h =
    let parts = and_parts (not (c == 10) && not (c == 13) && not (c == 47)) (is_plain (v ++ w)) h in
    let rest = plain_split v w parts.1 in
    (rw (parts.0, rest.0) refl, rest.1)

last_front : (v t : List ℕ) (o : Option ℕ) → ((p : Option ℕ) → last_or p t ≢ Some 58) → last_or o (v ++ t) ≢ Some 58
last_front [] t o h = h o
last_front (c ∷ v) t o h = last_front v t (Some c) h

last_text : (well : Bool) (w : List ℕ) (o : Option ℕ) → ends_well well w ≡ true → (well ≡ true → o ≢ Some 58) → last_or o w ≢ Some 58
last_text well [] o h other = other h
last_text well (c ∷ w) o h other = last_text (not (c == 58)) w (Some c) h (λ e same. absurd (let is : c ≡ 58 = cc in grind (arith, nat_tests)))

pub jump_instruction : (a : Around) (label : List ℕ) → AroundFacts a → IsLabel label → IsInstruction (jump_text a label)
jump_instruction a label f is =
    let parts = plain_split a.front a.back f.plain in
    let long : 1 ≤ length (jump_text a label) = omega (arith, length-append a.front (label ++ a.back), length-append label a.back, is.some) in
    let some : jump_text a label ≢ [] = λ e. absurd (let none : length (jump_text a label) ≡ 0 = ap length e in omega arith) in
    let last : last_or None (jump_text a label) ≢ Some 58 = last_front a.front (label ++ a.back) None (λ p. last_name label a.back p is.name is.some (λ q other. last_text true a.back q f.ends (λ e. other))) in
    record {
      plain = All-append IsPlain a.front (label ++ a.back) (plain_text a.front parts.0) (All-append IsPlain label a.back (plain_name label is.name) (plain_text a.back parts.1));
      some = rw (jump_tight a label f is) some;
      no_label = rw (jump_tight a label f is) last;
    }

-- ---- no frame reads a jump, and no jump is another
pub matched_front : (v front t done : List ℕ) → begins_apart v front ≡ true → matched v (front ++ t) done ≡ None
matched_front [] [] t done a = absurd (cc)
matched_front (c ∷ v) [] t done a = absurd (cc)
matched_front [] (d ∷ u) t done a = refl
matched_front (c ∷ v) (d ∷ u) t done a =
    ⊎_elim
    (λ (mark : is_mark c ≡ true). no_at_mark c v (d ∷ u ++ t) done mark (no_operand c d (u ++ t) (is_not _ (rw mark at a))))
    (λ (byte : is_mark c ≡ false).
    ⊎_elim
    (λ (same : (c == d) ≡ true).
    let is : c ≡ d = grind (arith, nat_tests) in
    let more : begins_apart v u ≡ true = rw (byte, same) at a in
    let here : is_mark d ≡ false = rw is at byte in
    rw (is, matched_byte d v (u ++ t) done here) (matched_front v u t done more))
    (λ (other : (c == d) ≡ false). matched_other c d v (u ++ t) done byte other)
    (cases_Bool (c == d)))
    (cases_Bool (is_mark c))

pub forked_apart : (v u s t : List ℕ) → is_forked v u ≡ true → v ++ s ≡ u ++ t → ⊥
forked_apart [] u s t h e = cc
forked_apart (c ∷ v) [] s t h e = cc
forked_apart (c ∷ v) (d ∷ u) s t h e =
    ⊎_elim
    (λ (same : (c == d) ≡ true).
    let more : is_forked v u ≡ true = rw same at h in
    forked_apart v u s t more (cc))
    (λ (other : (c == d) ≡ false).
    let is : c ≡ d = cc in
    let loud : (c == d) ≡ true = grind (arith, nat_tests) in
    cc)
    (cases_Bool (c == d))

pub same_label : (a : Around) (label other : List ℕ) → jump_text a label ≡ jump_text a other → label ≡ other
same_label a label other e = append_cancel_right label other a.back (append_cancel_left a.front (label ++ a.back) (other ++ a.back) e)
