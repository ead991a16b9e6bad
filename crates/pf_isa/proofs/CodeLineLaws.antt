-- What a line of code is without its comment and the blanks at its ends.
use Rattle.std.proofs.Common.{◌≡◌, ℕ, suc, ◌+◌, ◌-◌, ◌<◌, ◌≤◌, List, [], ◌∷◌, ◌++◌, length, take, drop, Bool, true, false, not, ◌&&◌, nat_le, ◌==◌, refl, sym, ◌∙◌, ap, arith, ⊎_elim, get_or, append_assoc, drop-cons, zero, subst}
use Rattle.std.specs.List.{list_all, list_any, starts_with}
use Rattle.std.specs.Bool.{nat_eq}
use Rattle.std.specs.Prelude.{IsTrue}
use Rattle.std.proofs.lemmas.Bool.{and_parts, cases_Bool}
use Rattle.std.proofs.lemmas.Bool.Decides.{nat_tests}
use Rattle.std.proofs.lemmas.List.{take_more, append-nil}
use Rattle.pf_text.specs.Meaning.Words.{is_letter, is_name_byte, is_spelled, is_reserved, is_name}
use Rattle.pf_text.specs.Meaning.Lines.{is_blank, tight_on, tight_pending, tight}
use Rattle.pf_machine.specs.declared.code.Line.{Line}
use Rattle.pf_machine.specs.declared.code.Line.TheVariants.{Vector, Control as Controls}
use Rattle.pf_machine.specs.Meaning.Tables.{Table}
use Rattle.pf_isa.specs.Meaning.Texts.{CodeMeaning, Nothing, Named, Does, uncommented_code, label_text, MeansLine}
use Rattle.pf_isa.specs.Meaning.TextFaults.{IsOperation, SaysKnown}
use Rattle.pf_isa.specs.Steps.CodeReading.{BeginsPlain, EndsPlain}
use Rattle.pf_text.proofs.TightLaws.{IsSolid, tight_on-solid, solid_name}

-- ---- blanks at the ends

pub tight-blank : (c : ℕ) (cs : List ℕ) → is_blank c ≡ true → tight (c ∷ cs) ≡ tight cs
unfolding tight
tight-blank c cs blank = rw blank refl

-- a blank behind a line doesn't count
record AreSame (xs ys : List ℕ) : Type 0 where
  free : tight_on true xs ≡ tight_on true ys
  closed : tight_on false xs ≡ tight_on false ys
  open_gap : tight_pending xs ≡ tight_pending ys

kept_same : (comma : Bool) (xs ys : List ℕ) → AreSame xs ys → tight_on comma xs ≡ tight_on comma ys
kept_same true xs ys s = s.free
kept_same false xs ys s = s.closed

blank_behind : (xs : List ℕ) (b : ℕ) → is_blank b ≡ true → AreSame (xs ++ b ∷ []) xs
blank_behind [] b blank = record { free = rw blank refl; closed = rw blank refl; open_gap = rw blank refl }
blank_behind (c ∷ xs) b blank =
    let rest = blank_behind xs b blank in
    ⊎_elim
    (λ (here : is_blank c ≡ true). record {
      free = rw here rest.free;
      closed = rw here rest.open_gap;
      open_gap = rw here rest.open_gap;
    })
    (λ (other : is_blank c ≡ false).
    let kept : tight_on (c == 44) (xs ++ b ∷ []) ≡ tight_on (c == 44) xs = kept_same (c == 44) (xs ++ b ∷ []) xs rest in
    record {
      free = rw other (ap (λ l. c ∷ l) kept);
      closed = rw other (ap (λ l. c ∷ l) kept);
      open_gap = rw other (ap (λ l. 32 ∷ c ∷ l) kept);
    })
    (cases_Bool (is_blank c))

pub tight-behind : (xs : List ℕ) (b : ℕ) → is_blank b ≡ true → tight (xs ++ b ∷ []) ≡ tight xs
unfolding tight
tight-behind xs b blank = (blank_behind xs b blank).free

-- one byte fewer, where it is a blank
tight_upto : (line : List ℕ) (i : ℕ) → i < length line → is_blank (get_or line i 0) ≡ true → tight (take i line) ≡ tight (take (i + 1) line)
tight_upto line i within blank = sym (ap tight (take_more line i 0 within) ∙ tight-behind (take i line) (get_or line i 0) blank)

pub tight_less : (line : List ℕ) (end : ℕ) → 0 < end → end ≤ length line → is_blank (get_or line (end - 1) 0) ≡ true → tight (take (end - 1) line) ≡ tight (take end line)
tight_less line end some within blank =
    let last : end - 1 + 1 ≡ end = omega arith in
    let inside : end - 1 < length line = omega arith in
    subst (λ e. tight (take (end - 1) line) ≡ tight (take e line)) last (tight_upto line (end - 1) inside blank)

-- one byte more is left out in front, where it is a blank
pub tight_more : (line : List ℕ) (i : ℕ) → i < length line → is_blank (get_or line i 0) ≡ true → tight (drop (i + 1) line) ≡ tight (drop i line)
tight_more line i within blank =
    let next : i + 1 ≡ suc i = omega arith in
    let parts : drop i line ≡ get_or line i 0 ∷ drop (suc i) line = drop-cons line i 0 within in
    rw next (sym (ap tight parts ∙ tight-blank (get_or line i 0) (drop (suc i) line) blank))

pub begins_at : (line : List ℕ) (i : ℕ) → is_blank (get_or line i 0) ≡ false → BeginsPlain (drop i line)
begins_at [] zero plain = tt
begins_at [] (suc i) plain = tt
begins_at (c ∷ cs) zero plain = plain
begins_at (c ∷ cs) (suc i) plain = begins_at cs i plain

pub begins_behind : (line : List ℕ) → BeginsPlain (drop (length line) line)
begins_behind [] = tt
begins_behind (c ∷ cs) = begins_behind cs

pub begins_take : (n : ℕ) (line : List ℕ) → BeginsPlain line → BeginsPlain (take n line)
begins_take zero line plain = tt
begins_take (suc n) [] plain = tt
begins_take (suc n) (c ∷ cs) plain = plain

ends_upto : (line : List ℕ) (i : ℕ) → i < length line → is_blank (get_or line i 0) ≡ false → EndsPlain (take (suc i) line)
ends_upto [] i within plain = absurd (omega arith)
ends_upto (c ∷ cs) zero within plain = plain
ends_upto (c ∷ []) (suc i) within plain = absurd (omega arith)
ends_upto (c ∷ d ∷ cs) (suc i) within plain =
    let inside : i < length (d ∷ cs) = omega arith in
    ends_upto (d ∷ cs) i inside plain

pub ends_at : (line : List ℕ) (end : ℕ) → 0 < end → end ≤ length line → is_blank (get_or line (end - 1) 0) ≡ false → EndsPlain (take end line)
ends_at line end some within plain =
    let last : end ≡ suc (end - 1) = omega arith in
    let inside : end - 1 < length line = omega arith in
    rw last (ends_upto line (end - 1) inside plain)

-- ---- labels

-- a line that is solid once it is tight, and has no blanks at its ends, is tight
ends_rest : (c : ℕ) (xs : List ℕ) → EndsPlain (c ∷ xs) → EndsPlain xs
ends_rest c [] ends = tt
ends_rest c (d ∷ xs) ends = ends

no_gap : (c : ℕ) (xs : List ℕ) → is_blank c ≡ true → IsSolid (tight_pending xs) → EndsPlain (c ∷ xs) → ⊥
no_gap c [] blank solid ends = cc
no_gap c (d ∷ xs) blank solid ends =
    ⊎_elim
    (λ (here : is_blank d ≡ true). no_gap d xs here (rw here at solid) ends)
    (λ (other : is_blank d ≡ false).
    let gap : IsSolid (32 ∷ d ∷ tight_on (d == 44) xs) = rw other at solid in
    let plain : is_blank 32 ≡ false = gap.0 in
    cc)
    (cases_Bool (is_blank d))

solid_back : (xs : List ℕ) → IsSolid (tight_on false xs) → EndsPlain xs → tight_on false xs ≡ xs
solid_back [] solid ends = refl
solid_back (c ∷ xs) solid ends =
    ⊎_elim
    (λ (here : is_blank c ≡ true). absurd (no_gap c xs here (rw here at solid) ends))
    (λ (other : is_blank c ≡ false).
    let kept : IsSolid (c ∷ tight_on (c == 44) xs) = rw other at solid in
    let comma : (c == 44) ≡ false = kept.1 in
    let rest : IsSolid (tight_on false xs) = rw comma at kept.2 in
    rw (other, comma) (ap (λ l. c ∷ l) (solid_back xs rest (ends_rest c xs ends))))
    (cases_Bool (is_blank c))

solid_push : (xs : List ℕ) → IsSolid xs → IsSolid (xs ++ 58 ∷ [])
solid_push [] solid = (refl, refl, tt)
solid_push (c ∷ xs) solid = (solid.0, solid.1, solid_push xs solid.2)

solid_tight : (xs : List ℕ) → IsSolid xs → tight xs ≡ xs
unfolding tight
solid_tight [] solid = refl
solid_tight (c ∷ xs) solid =
    let blank : is_blank c ≡ false = solid.0 in
    let comma : (c == 44) ≡ false = solid.1 in
    let rest : tight_on false xs ≡ xs = subst (λ t. tight_on false t ≡ t) (append-nil xs) (tight_on-solid xs [] solid.2) in
    rw (blank, comma, rest) refl

-- what a name is spelled with
pub name_bytes : (name : List ℕ) → is_name name ≡ true → list_all is_name_byte name ≡ true
unfolding is_name
name_bytes [] h = refl
name_bytes (c ∷ cs) h =
    let whole : (is_spelled (c ∷ cs) && nat_le (length (c ∷ cs)) 32 && not (is_reserved (c ∷ cs))) ≡ true = h in
    let spelled : is_spelled (c ∷ cs) ≡ true = (and_parts (is_spelled (c ∷ cs)) (nat_le (length (c ∷ cs)) 32) (and_parts (is_spelled (c ∷ cs) && nat_le (length (c ∷ cs)) 32) (not (is_reserved (c ∷ cs))) whole).0).0 in
    let parts : (is_letter c ≡ true) × (list_all is_name_byte cs ≡ true) = and_parts (is_letter c) (list_all is_name_byte cs) spelled in
    rw (parts.0, parts.1) refl

solid_label : (name : List ℕ) → is_name name ≡ true → IsSolid (label_text name)
solid_label name h = solid_push name (solid_name name (name_bytes name h))

pub label_tight : (name : List ℕ) → is_name name ≡ true → tight (label_text name) ≡ label_text name
label_tight name h = solid_tight (label_text name) (solid_label name h)

no_label_empty : (name : List ℕ) → [] ≡ label_text name → ⊥
no_label_empty [] e = cc
no_label_empty (c ∷ cs) e = cc

front_tight : (xs : List ℕ) → BeginsPlain xs → tight xs ≡ tight_on false xs
unfolding tight
front_tight [] plain = refl
front_tight (c ∷ xs) plain =
    let blank : is_blank c ≡ false = plain in
    rw blank refl

-- a line without blanks at its ends that is a label once it is tight is one
pub label_back : (xs name : List ℕ) → BeginsPlain xs → EndsPlain xs → is_name name ≡ true → tight xs ≡ label_text name → xs ≡ label_text name
label_back xs name begins ends h is =
    let here : tight_on false xs ≡ label_text name = sym (front_tight xs begins) ∙ is in
    let solid : IsSolid (tight_on false xs) = subst (λ t. IsSolid t) (sym here) (solid_label name h) in
    sym (solid_back xs solid ends) ∙ here

-- ---- comments

no_comment : (c : ℕ) (cs : List ℕ) → starts_with nat_eq (c ∷ cs) (47 ∷ 47 ∷ []) ≡ false → uncommented_code (c ∷ cs) ≡ c ∷ uncommented_code cs
no_comment c [] none = refl
no_comment c (d ∷ cs) none =
    let other : (c == 47 && d == 47) ≡ false = grind (arith, nat_tests) in
    rw other refl

pub uncommented_more : (line : List ℕ) (i : ℕ) → i < length line → starts_with nat_eq (drop i line) (47 ∷ 47 ∷ []) ≡ false
    → take (i + 1) line ++ uncommented_code (drop (i + 1) line) ≡ take i line ++ uncommented_code (drop i line)
uncommented_more line i within none =
    let next : i + 1 ≡ suc i = omega arith in
    let parts : drop i line ≡ get_or line i 0 ∷ drop (suc i) line = drop-cons line i 0 within in
    let more : take (i + 1) line ≡ take i line ++ get_or line i 0 ∷ [] = take_more line i 0 within in
    let here : starts_with nat_eq (get_or line i 0 ∷ drop (suc i) line) (47 ∷ 47 ∷ []) ≡ false = rw parts at none in
    let one : uncommented_code (drop i line) ≡ get_or line i 0 ∷ uncommented_code (drop (suc i) line) = rw parts (no_comment (get_or line i 0) (drop (suc i) line) here) in
    let joined : (take i line ++ get_or line i 0 ∷ []) ++ uncommented_code (drop (suc i) line) ≡ take i line ++ get_or line i 0 ∷ uncommented_code (drop (suc i) line) = append_assoc (take i line) (get_or line i 0 ∷ []) (uncommented_code (drop (suc i) line)) in
    rw (more, one, next) joined

-- no carriage return is in a line
pub no_return : (line : List ℕ) → list_any (λ y. nat_eq y 13) line ≡ false → list_all (λ c. not (c == 13)) line ≡ true
no_return [] none = refl
no_return (c ∷ cs) none =
    ⊎_elim
    (λ (here : nat_eq c 13 ≡ true).
    let some : true ≡ false = rw here at none in
    absurd (cc))
    (λ (other : nat_eq c 13 ≡ false).
    let rest : list_any (λ y. nat_eq y 13) cs ≡ false = rw other at none in
    rw (other, no_return cs rest) refl)
    (cases_Bool (nat_eq c 13))

-- ---- what a line says

pub blank_line : (xs : List ℕ) → length xs < 1 → tight xs ≡ []
unfolding tight
blank_line [] none = refl
blank_line (c ∷ cs) none = absurd (omega arith)

some_line : (xs : List ℕ) → BeginsPlain xs → 1 ≤ length xs → tight xs ≡ [] → ⊥
unfolding tight
some_line [] plain some is = absurd (omega arith)
some_line (c ∷ cs) plain some is =
    let blank : is_blank c ≡ false = plain in
    let kept : c ∷ tight_on (c == 44) cs ≡ [] = rw blank at is in
    cc

-- lines that are the same up to blanks mean the same
pub means_same : {I O : Type 0} (t : Table O) (l : Line I O) (line other : List ℕ) → tight line ≡ tight other → MeansLine t other l → MeansLine t line l
means_same t (Vector op) line other same m = (m.0, m.1, same ∙ m.2)
means_same t (Controls c) line other same m = same ∙ m

-- a line that isn't blank, is no label and is no instruction says nothing
pub nothing_said : {I O : Type 0} (t : Table O) (is_op : O → Type 0) (line bare : List ℕ) → tight bare ≡ tight (uncommented_code line) → BeginsPlain bare → EndsPlain bare → 1 ≤ length bare
    → ((name : List ℕ) → IsTrue (is_name name) → bare ≡ label_text name → ⊥) → ((l : Line I O) → IsOperation t is_op (Does l) → MeansLine t bare l → ⊥)
    → (said : CodeMeaning I O) → SaysKnown t is_op line said → ⊥
nothing_said t is_op line bare same begins ends some no_label no_instruction Nothing says = some_line bare begins some (same ∙ says.0.1)
nothing_said t is_op line bare same begins ends some no_label no_instruction (Named name) says = no_label name says.0.1.0 (label_back bare name begins ends says.0.1.0 (same ∙ says.0.1.1))
nothing_said t is_op line bare same begins ends some no_label no_instruction (Does l) says = no_instruction l says.1 (means_same t l bare (uncommented_code line) same says.0.1)

-- a name has 1 to 32 bytes
pub name_size : (name : List ℕ) → is_name name ≡ true → (1 ≤ length name) × (length name ≤ 32)
unfolding is_name
name_size [] h = cc
name_size (c ∷ cs) h =
    let whole : (is_spelled (c ∷ cs) && nat_le (length (c ∷ cs)) 32 && not (is_reserved (c ∷ cs))) ≡ true = h in
    let fits : nat_le (length (c ∷ cs)) 32 ≡ true = (and_parts (is_spelled (c ∷ cs)) (nat_le (length (c ∷ cs)) 32) (and_parts (is_spelled (c ∷ cs) && nat_le (length (c ∷ cs)) 32) (not (is_reserved (c ∷ cs))) whole).0).1 in
    let few : length (c ∷ cs) ≤ 32 = grind (arith, nat_tests) in
    (omega arith, few)
