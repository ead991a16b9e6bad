-- Lines of quiet bytes are lines of instructions.
use Rattle.std.proofs.Common.{◌≡◌, ◌≢◌, ℕ, ◌^◌, ◌<◌, List, [], ◌∷◌, ◌++◌, Bool, true, false, not, ◌&&◌, nat_le, length, ◌==◌, Option, Some, None, refl, arith, All, ⊎_elim}
use Rattle.std.specs.Fmt.{decimal}
use Rattle.std.specs.List.{list_all, last_or}
use Rattle.std.specs.Str.{all_ascii_digits}
use Rattle.std.proofs.lemmas.Bool.{and_parts, cases_Bool}
use Rattle.std.proofs.lemmas.Bool.Decides.{nat_tests}
use Rattle.std.proofs.lemmas.List.Elements.{All-nil, All-cons}
use Rattle.std.proofs.lemmas.List.Folds.{list_all-append}
use Rattle.pf_text.specs.Meaning.Words.{is_digit, is_letter, is_name_byte, is_spelled, is_reserved, is_name}
use Rattle.pf_text.specs.Meaning.Lines.{is_blank, tight_on, tight_pending, tight, IsPlain, IsInstruction}
use Rattle.pf_text.proofs.ScanLaws.{digits-decimal}

-- the byte ends no line, begins no comment and ends no label
abbrev pub is_quiet : ℕ → Bool
is_quiet c = not (c == 10) && not (c == 13) && not (c == 47) && not (c == 58)

abbrev pub are_quiet : List ℕ → Bool
are_quiet xs = list_all is_quiet xs

quiet_digit : (c : ℕ) → is_digit c ≡ true → is_quiet c ≡ true
quiet_digit c d = grind (arith, nat_tests)

quiet_digits : (ds : List ℕ) → all_ascii_digits ds ≡ true → are_quiet ds ≡ true
quiet_digits [] a = refl
quiet_digits (d ∷ ds) a =
    let parts : (is_digit d ≡ true) × (all_ascii_digits ds ≡ true) = and_parts (is_digit d) (all_ascii_digits ds) a in
    rw (quiet_digit d parts.0, quiet_digits ds parts.1) refl

quiet_name_byte : (c : ℕ) → is_name_byte c ≡ true → is_quiet c ≡ true
quiet_name_byte c d = grind (arith, nat_tests)

quiet_name_bytes : (cs : List ℕ) → list_all is_name_byte cs ≡ true → are_quiet cs ≡ true
quiet_name_bytes [] a = refl
quiet_name_bytes (c ∷ cs) a =
    let parts : (is_name_byte c ≡ true) × (list_all is_name_byte cs ≡ true) = and_parts (is_name_byte c) (list_all is_name_byte cs) a in
    rw (quiet_name_byte c parts.0, quiet_name_bytes cs parts.1) refl

-- a number is quiet
pub quiet_number : (n : ℕ) → n < 2 ^ 64 → are_quiet (decimal n) ≡ true
quiet_number n fits = quiet_digits (decimal n) (digits-decimal n fits)

-- so is a number before a quiet text
pub quiet_before : (n : ℕ) (t : List ℕ) → n < 2 ^ 64 → are_quiet t ≡ true → are_quiet (decimal n ++ t) ≡ true
quiet_before n t fits q = rw (list_all-append is_quiet (decimal n) t, quiet_number n fits) q

-- so is a label
pub quiet_label : (label : List ℕ) → is_name label ≡ true → are_quiet label ≡ true
unfolding is_name
quiet_label [] h = refl
quiet_label (c ∷ cs) h =
    let whole : (is_spelled (c ∷ cs) && nat_le (length (c ∷ cs)) 32 && not (is_reserved (c ∷ cs))) ≡ true = h in
    let spelled : is_spelled (c ∷ cs) ≡ true = (and_parts (is_spelled (c ∷ cs)) (nat_le (length (c ∷ cs)) 32) (and_parts (is_spelled (c ∷ cs) && nat_le (length (c ∷ cs)) 32) (not (is_reserved (c ∷ cs))) whole).0).0 in
    let parts : (is_letter c ≡ true) × (list_all is_name_byte cs ≡ true) = and_parts (is_letter c) (list_all is_name_byte cs) spelled in
    let letter = parts.0 in
    let first : is_quiet c ≡ true = grind (arith, nat_tests) in
    rw (first, quiet_name_bytes cs parts.1) refl

-- what is left without the blanks that don't count is quiet too
record IsQuietly (xs : List ℕ) : Type 0 where
  free : are_quiet (tight_on true xs) ≡ true
  closed : are_quiet (tight_on false xs) ≡ true
  open_gap : are_quiet (tight_pending xs) ≡ true

kept_quiet : (comma : Bool) (xs : List ℕ) → IsQuietly xs → are_quiet (tight_on comma xs) ≡ true
kept_quiet true xs s = s.free
kept_quiet false xs s = s.closed

quietly : (xs : List ℕ) → are_quiet xs ≡ true → IsQuietly xs
quietly [] q = record { free = refl; closed = refl; open_gap = refl }
quietly (c ∷ xs) q =
    let parts : (is_quiet c ≡ true) × (are_quiet xs ≡ true) = and_parts (is_quiet c) (are_quiet xs) q in
    let first = parts.0 in
    let rest = quietly xs parts.1 in
    ⊎_elim
    (λ (blank : is_blank c ≡ true). record {
      free = rw blank rest.free;
      closed = rw blank rest.open_gap;
      open_gap = rw blank rest.open_gap;
    })
    (λ (other : is_blank c ≡ false).
    let kept : are_quiet (tight_on (c == 44) xs) ≡ true = kept_quiet (c == 44) xs rest in
    record {
      free = rw (other, first, kept) refl;
      closed = rw (other, first, kept) refl;
      open_gap = rw (other, first, kept) refl;
    })
    (cases_Bool (is_blank c))

quiet-tight : (xs : List ℕ) → are_quiet xs ≡ true → are_quiet (tight xs) ≡ true
unfolding tight
quiet-tight xs q = (quietly xs q).free

-- such a byte isn't quiet
quiet_not : (c d : ℕ) → is_quiet d ≡ false → c ≡ d → is_quiet c ≡ true → ⊥
quiet_not c d loud e q =
    let here : is_quiet d ≡ true = rw (← e) q in
    cc

plain_byte : (c : ℕ) → is_quiet c ≡ true → IsPlain c
plain_byte c q = (λ e. quiet_not c 10 refl e q, λ e. quiet_not c 13 refl e q, λ e. quiet_not c 47 refl e q)

no_colon : (c : ℕ) → is_quiet c ≡ true → Some c ≢ Some 58
no_colon c q e = quiet_not c 58 refl (cc) q

plain : (xs : List ℕ) → are_quiet xs ≡ true → All IsPlain xs
plain [] q = All-nil IsPlain
plain (c ∷ xs) q =
    let parts : (is_quiet c ≡ true) × (are_quiet xs ≡ true) = and_parts (is_quiet c) (are_quiet xs) q in
    All-cons IsPlain c xs (plain_byte c parts.0) (plain xs parts.1)

no_label : (xs : List ℕ) (o : Option ℕ) → are_quiet xs ≡ true → o ≢ Some 58 → last_or o xs ≢ Some 58
no_label [] o q n = n
no_label (c ∷ xs) o q n =
    let parts : (is_quiet c ≡ true) × (are_quiet xs ≡ true) = and_parts (is_quiet c) (are_quiet xs) q in
    no_label xs (Some c) parts.1 (no_colon c parts.0)

-- a line of quiet bytes that isn't blank is an instruction's
pub instruction : (line : List ℕ) → are_quiet line ≡ true → tight line ≢ [] → IsInstruction line
instruction line q some =
    record {
      plain = plain line q;
      some = some;
      no_label = no_label (tight line) None (quiet-tight line q) (λ e. cc);
    }
