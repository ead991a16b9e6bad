-- Which parts of a line are kept when blanks that don't count are left out, and that nothing is added.
use Rattle.std.proofs.Common.{◌≡◌, ℕ, suc, ◌^◌, ◌<◌, ◌≤◌, List, [], ◌∷◌, ◌++◌, length, Bool, true, false, not, ◌&&◌, nat_le, ◌==◌, Some, refl, arith, ap, subst, ⊎_elim}
use Rattle.std.specs.Fmt.{decimal}
use Rattle.std.specs.List.{list_all}
use Rattle.std.specs.Str.{all_ascii_digits}
use Rattle.std.proofs.lemmas.List.{append-nil}
use Rattle.std.proofs.lemmas.Fmt.{decimal_nonempty}
use Rattle.std.proofs.lemmas.Bool.{and_parts, cases_Bool}
use Rattle.std.proofs.lemmas.Bool.Decides.{nat_tests}
use Rattle.pf_text.specs.Meaning.Words.{is_digit, is_letter, is_name_byte, is_spelled, is_reserved, is_name}
use Rattle.pf_text.specs.Steps.Scan.{next_number}
use Rattle.pf_text.specs.Meaning.Lines.{is_blank, tight_on, tight_pending, tight}
use Rattle.pf_text.proofs.ScanLaws.{NoDigit, digits-decimal, next_number-decimal, next_number-last}

-- no blank and no comma is in the text
abbrev pub IsSolid : List ℕ → Type 0
IsSolid [] = Unit {0}
IsSolid (c ∷ cs) = (is_blank c ≡ false) × ((c == 44) ≡ false) × IsSolid cs

-- such a text is kept
pub tight_on-solid : (xs t : List ℕ) → IsSolid xs → tight_on false (xs ++ t) ≡ xs ++ tight_on false t
tight_on-solid [] t s = refl
tight_on-solid (c ∷ xs) t s =
    let blank : is_blank c ≡ false = s.0 in
    let comma : (c == 44) ≡ false = s.1 in
    rw (blank, comma) (ap (λ l. c ∷ l) (tight_on-solid xs t s.2))

solid_digit : (c : ℕ) → is_digit c ≡ true → (is_blank c ≡ false) × ((c == 44) ≡ false)
solid_digit c d = (grind (arith, nat_tests), grind (arith, nat_tests))

pub solid_digits : (ds : List ℕ) → all_ascii_digits ds ≡ true → IsSolid ds
solid_digits [] a = tt
solid_digits (d ∷ ds) a =
    let parts : (is_digit d ≡ true) × (all_ascii_digits ds ≡ true) = and_parts (is_digit d) (all_ascii_digits ds) a in
    let first = solid_digit d parts.0 in
    (first.0, first.1, solid_digits ds parts.1)

solid_name_byte : (c : ℕ) → is_name_byte c ≡ true → (is_blank c ≡ false) × ((c == 44) ≡ false)
solid_name_byte c d = (grind (arith, nat_tests), grind (arith, nat_tests))

pub solid_name : (cs : List ℕ) → list_all is_name_byte cs ≡ true → IsSolid cs
solid_name [] a = tt
solid_name (c ∷ cs) a =
    let parts : (is_name_byte c ≡ true) × (list_all is_name_byte cs ≡ true) = and_parts (is_name_byte c) (list_all is_name_byte cs) a in
    let first = solid_name_byte c parts.0 in
    (first.0, first.1, solid_name cs parts.1)

pub front_kept : (free : Bool) (xs t : List ℕ) → IsSolid xs → 1 ≤ length xs → tight_on free (xs ++ t) ≡ xs ++ tight_on false t
front_kept free [] t s some = absurd (omega arith)
front_kept free (c ∷ xs) t s some =
    let blank : is_blank c ≡ false = s.0 in
    let comma : (c == 44) ≡ false = s.1 in
    rw (blank, comma) (ap (λ l. c ∷ l) (tight_on-solid xs t s.2))

-- a number is kept, at each place
pub tight_on-decimal : (free : Bool) (n : ℕ) (t : List ℕ) → n < 2 ^ 64 → tight_on free (decimal n ++ t) ≡ decimal n ++ tight_on false t
tight_on-decimal free n t fits = front_kept free (decimal n) t (solid_digits (decimal n) (digits-decimal n fits)) (decimal_nonempty n fits)

pub tight_on-last : (free : Bool) (n : ℕ) → n < 2 ^ 64 → tight_on free (decimal n) ≡ decimal n
tight_on-last free n fits = subst (λ t. tight_on free t ≡ t) (append-nil (decimal n)) (tight_on-decimal free n [] fits)

-- nothing is added
record IsShorter (xs : List ℕ) : Type 0 where
  free : length (tight_on true xs) ≤ length xs
  closed : length (tight_on false xs) ≤ length xs
  open_gap : length (tight_pending xs) ≤ suc (length xs)

kept_shorter : (comma : Bool) (xs : List ℕ) → IsShorter xs → length (tight_on comma xs) ≤ length xs
kept_shorter true xs s = s.free
kept_shorter false xs s = s.closed

shorter : (xs : List ℕ) → IsShorter xs
shorter [] = record { free = omega arith; closed = omega arith; open_gap = omega arith }
shorter (c ∷ xs) =
    let rest = shorter xs in
    ⊎_elim
    (λ (blank : is_blank c ≡ true). record {
      free = rw blank (omega (arith, rest.free));
      closed = rw blank (omega (arith, rest.open_gap));
      open_gap = rw blank (omega (arith, rest.open_gap));
    })
    (λ (other : is_blank c ≡ false).
    let kept = kept_shorter (c == 44) xs rest in
    record {
      free = rw other (omega (arith, kept));
      closed = rw other (omega (arith, kept));
      open_gap = rw other (omega (arith, kept));
    })
    (cases_Bool (is_blank c))

pub length-tight : (xs : List ℕ) → length (tight xs) ≤ length xs
unfolding tight
length-tight xs = (shorter xs).free

-- a number is read from a tight line
pub next_tight : (free : Bool) (n : ℕ) (t : List ℕ) → n < 10 ^ 19 → NoDigit (tight_on false t) → next_number (tight_on free (decimal n ++ t)) ≡ Some (n, tight_on false t)
next_tight free n t small h =
    let fits : n < 2 ^ 64 = omega arith in
    rw (tight_on-decimal free n t fits) (next_number-decimal n (tight_on false t) small h)

pub next_tight_last : (free : Bool) (n : ℕ) → n < 10 ^ 19 → next_number (tight_on free (decimal n)) ≡ Some (n, [])
next_tight_last free n small =
    let fits : n < 2 ^ 64 = omega arith in
    rw (tight_on-last free n fits) (next_number-last n small)

-- the label of a jump is kept
pub tight_pending-name : (label : List ℕ) → is_name label ≡ true → tight_pending label ≡ 32 ∷ label
unfolding is_name
tight_pending-name [] h = cc
tight_pending-name (c ∷ cs) h =
    let whole : (is_spelled (c ∷ cs) && nat_le (length (c ∷ cs)) 32 && not (is_reserved (c ∷ cs))) ≡ true = h in
    let spelled : is_spelled (c ∷ cs) ≡ true = (and_parts (is_spelled (c ∷ cs)) (nat_le (length (c ∷ cs)) 32) (and_parts (is_spelled (c ∷ cs) && nat_le (length (c ∷ cs)) 32) (not (is_reserved (c ∷ cs))) whole).0).0 in
    let parts : (is_letter c ≡ true) × (list_all is_name_byte cs ≡ true) = and_parts (is_letter c) (list_all is_name_byte cs) spelled in
    let letter = parts.0 in
    let blank : is_blank c ≡ false = grind (arith, nat_tests) in
    let comma : (c == 44) ≡ false = grind (arith, nat_tests) in
    let rest : tight_on false cs ≡ cs = subst (λ t. tight_on false t ≡ t) (append-nil cs) (tight_on-solid cs [] (solid_name cs parts.1)) in
    rw (blank, comma, rest) refl
