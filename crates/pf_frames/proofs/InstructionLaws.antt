-- A filled frame is a line of an instruction.
use Rattle.std.proofs.Common.{◌≡◌, ◌≢◌, ℕ, ◌≤◌, List, [], ◌∷◌, ◌++◌, All, Bool, true, false, not, ◌&&◌, ◌==◌, length, Option, Some, None, arith, ⊎_elim}
use Rattle.std.specs.List.{last_or, list_all}
use Rattle.std.proofs.lemmas.List.Elements.{All-nil, All-cons, All-append}
use Rattle.std.proofs.lemmas.Bool.{and_parts, cases_Bool}
use Rattle.std.proofs.lemmas.Bool.Decides.{nat_tests}
use Rattle.pf_text.specs.Meaning.Words.{is_name_byte}
use Rattle.pf_text.specs.Meaning.Lines.{IsPlain, IsInstruction, tight}
use Rattle.pf_frames.specs.Meaning.Frames.{is_mark, operand, filled}
use Rattle.pf_frames.specs.Meaning.FrameTests.{bare, is_spaced, is_plain, ends_well}
use Rattle.pf_frames.proofs.FrameLaws.{Fill, fill_behind, fill_next, fill_here, filled_mark, filled_byte, tight_filled}
use Rattle.pf_frames.proofs.TableLaws.{marks_bare}

plain_byte : (c : ℕ) → (not (c == 10) && not (c == 13) && not (c == 47)) ≡ true → IsPlain c
plain_byte c h = (λ e. absurd (grind (arith, nat_tests)), λ e. absurd (grind (arith, nat_tests)), λ e. absurd (grind (arith, nat_tests)))

pub plain_name : (w : List ℕ) → list_all is_name_byte w ≡ true → All IsPlain w
plain_name [] a = All-nil IsPlain
plain_name (d ∷ w) a =
    let parts : (is_name_byte d ≡ true) × (list_all is_name_byte w ≡ true) = and_parts (is_name_byte d) (list_all is_name_byte w) a in
    let name = parts.0 in
    let here : (not (d == 10) && not (d == 13) && not (d == 47)) ≡ true = grind (arith, nat_tests) in
    All-cons IsPlain d w (plain_byte d here) (plain_name w parts.1)

plain_parts : (c : ℕ) (w : List ℕ) → is_plain (c ∷ w) ≡ true → ((not (c == 10) && not (c == 13) && not (c == 47)) ≡ true) × (is_plain w ≡ true)
plain_parts c w p = and_parts (not (c == 10) && not (c == 13) && not (c == 47)) (is_plain w) p

pub plain_text : (w : List ℕ) → is_plain w ≡ true → All IsPlain w
plain_text [] p = All-nil IsPlain
plain_text (c ∷ w) p = let parts = plain_parts c w p in All-cons IsPlain c w (plain_byte c parts.0) (plain_text w parts.1)

no_fill : (c : ℕ) (w : List ℕ) → is_mark c ≡ true → Fill (c ∷ w) [] → {A : Type 0} → A
no_fill c w h f = absurd (let e : false ≡ true = rw h at f.fits in cc)

plain_filled : (w ns : List ℕ) → is_plain w ≡ true → Fill w ns → All IsPlain (filled w ns)
plain_filled [] ns p f = All-nil IsPlain
plain_filled (c ∷ w) [] p f =
    ⊎_elim
    (λ (mark : is_mark c ≡ true). no_fill c w mark f)
    (λ (byte : is_mark c ≡ false).
    let parts = plain_parts c w p in
    rw (filled_byte c w [] byte) (All-cons IsPlain c (filled w []) (plain_byte c parts.0) (plain_filled w [] parts.1 (fill_next c w [] byte f))))
    (cases_Bool (is_mark c))
plain_filled (c ∷ w) (n ∷ ns) p f =
    let parts = plain_parts c w p in
    ⊎_elim
    (λ (mark : is_mark c ≡ true).
    rw (filled_mark c n w ns mark) (All-append IsPlain (operand c n) (filled w ns) (plain_name (operand c n) (fill_here c w n ns mark f).name) (plain_filled w ns parts.1 (fill_behind c w n ns mark f))))
    (λ (byte : is_mark c ≡ false).
    rw (filled_byte c w (n ∷ ns) byte) (All-cons IsPlain c (filled w (n ∷ ns)) (plain_byte c parts.0) (plain_filled w (n ∷ ns) parts.1 (fill_next c w (n ∷ ns) byte f))))
    (cases_Bool (is_mark c))

pub last_name : (w t : List ℕ) (o : Option ℕ) → list_all is_name_byte w ≡ true → 1 ≤ length w → ((p : Option ℕ) → p ≢ Some 58 → last_or p t ≢ Some 58) → last_or o (w ++ t) ≢ Some 58
last_name [] t o a some then = absurd (omega arith)
last_name (d ∷ []) t o a some then =
    let name : is_name_byte d ≡ true = (and_parts (is_name_byte d) (list_all is_name_byte []) a).0 in
    let other : d ≢ 58 = λ e. absurd (grind (arith, nat_tests)) in
    then (Some d) (λ e. other (cc))
last_name (d ∷ e ∷ w) t o a some then =
    let parts : (is_name_byte d ≡ true) × (list_all is_name_byte (e ∷ w) ≡ true) = and_parts (is_name_byte d) (list_all is_name_byte (e ∷ w)) a in
    last_name (e ∷ w) t (Some d) parts.1 (omega arith) then

last_byte : (c : ℕ) → not (c == 58) ≡ true → Some c ≢ Some 58
last_byte c h same = absurd (let is : c ≡ 58 = cc in grind (arith, nat_tests))

pub no_colon : (well : Bool) (w ns : List ℕ) (o : Option ℕ) → ends_well well w ≡ true → (well ≡ true → o ≢ Some 58) → Fill w ns → last_or o (filled w ns) ≢ Some 58
no_colon well [] ns o h other f = other h
no_colon well (c ∷ w) [] o h other f =
    ⊎_elim
    (λ (mark : is_mark c ≡ true). no_fill c w mark f)
    (λ (byte : is_mark c ≡ false). rw (filled_byte c w [] byte) (no_colon (not (c == 58)) w [] (Some c) h (last_byte c) (fill_next c w [] byte f)))
    (cases_Bool (is_mark c))
no_colon well (c ∷ w) (n ∷ ns) o h other f =
    ⊎_elim
    (λ (mark : is_mark c ≡ true).
    let facts = fill_here c w n ns mark f in
    rw (filled_mark c n w ns mark) (last_name (operand c n) (filled w ns) o facts.name facts.some (λ p q. no_colon (not (c == 58)) w ns p h (λ e. q) (fill_behind c w n ns mark f))))
    (λ (byte : is_mark c ≡ false). rw (filled_byte c w (n ∷ ns) byte) (no_colon (not (c == 58)) w (n ∷ ns) (Some c) h (last_byte c) (fill_next c w (n ∷ ns) byte f)))
    (cases_Bool (is_mark c))

pub not_empty : (w t : List ℕ) → 1 ≤ length w → w ++ t ≢ []
not_empty [] t some = absurd (omega arith)
not_empty (d ∷ w) t some = λ e. cc

some_filled : (v ns : List ℕ) → ends_well false v ≡ true → Fill v ns → filled v ns ≢ []
some_filled [] ns h f = absurd (cc)
some_filled (c ∷ v) [] h f =
    ⊎_elim
    (λ (mark : is_mark c ≡ true). no_fill c v mark f)
    (λ (byte : is_mark c ≡ false). rw (filled_byte c v [] byte) (λ e. cc))
    (cases_Bool (is_mark c))
some_filled (c ∷ v) (n ∷ ns) h f =
    ⊎_elim
    (λ (mark : is_mark c ≡ true). rw (filled_mark c n v ns mark) (not_empty (operand c n) (filled v ns) (fill_here c v n ns mark f).some))
    (λ (byte : is_mark c ≡ false). rw (filled_byte c v (n ∷ ns) byte) (λ e. cc))
    (cases_Bool (is_mark c))

pub instruction_filled : (w ns : List ℕ) → is_spaced true w ≡ true → is_plain w ≡ true → ends_well false (bare true w) ≡ true → Fill w ns → IsInstruction (filled w ns)
unfolding tight
instruction_filled w ns spaced plain ends f =
    let same : tight (filled w ns) ≡ filled (bare true w) ns = tight_filled true w ns spaced f in
    let bare_fill : Fill (bare true w) ns = record { fits = rw (marks_bare true w) f.fits } in
    let last : last_or None (filled (bare true w) ns) ≢ Some 58 = no_colon false (bare true w) ns None ends (λ e. cc) bare_fill in
    record {
      plain = plain_filled w ns plain f;
      some = rw same (some_filled (bare true w) ns ends bare_fill);
      no_label = rw same last;
    }
