-- The numbers and the words of a printed text as tokens.
use Rattle.std.proofs.Common.{◌≡◌, refl, sym, ap, ℕ, zero, suc, ◌^◌, ◌≤◌, ◌<◌, pos, Bool, true, false, ◌&&◌, List, [], ◌∷◌, ◌++◌, length, arith, rules}
use Rattle.std.specs.Prelude.{All, decimal, nat_le, not}
use Rattle.std.specs.Fmt.{digits}
use Rattle.std.specs.List.{list_all}
use Rattle.std.proofs.lemmas.Bool.Decides.{nat_tests}
use Rattle.std.proofs.lemmas.Fmt.{digits_decimal, digits_value-decimal, length-decimal-le, decimal_nonempty}
use Rattle.std.proofs.lemmas.List.{length-append}
use Rattle.std.proofs.lemmas.List.Folds.{list_all-append}
use Rattle.std.proofs.lemmas.Str.Parse.{IsNumeralModel, numerals_by_fold}
use Rattle.pf_ints.specs.declared.lane.LaneType.{LaneType}
use Rattle.pf_ints.specs.declared.lane.Bits.{Bits}
use Rattle.pf_ints.specs.declared.lane.Bits.TheVariants.{Eight, Sixteen, ThirtyTwo}
use Rattle.pf_text.specs.Meaning.Words.{is_digit, is_letter, is_name_byte, is_name, is_spelled, is_reserved}
use Rattle.pf_terms.specs.declared.token.TokenKind.{TokenKind}
use Rattle.pf_terms.specs.declared.token.TokenKind.TheVariants.{Name, TypeWord, Number, Typed}
use Rattle.pf_values.specs.Meaning.Terms.{typed_as}
use Rattle.pf_terms.specs.Meaning.TermTexts.{type_word}
use Rattle.pf_terms.specs.Meaning.Tokens.{digits_behind, IsNumber, IsNoRun}
use Rattle.pf_terms.proofs.ReadBackTexts.{Reads, reads_run}
use Rattle.pf_values.proofs.Typing.{and_left, and_right}

-- ---- decimal numbers
abbrev AreDigits : List ℕ → Type 0
AreDigits ds = list_all is_digit ds ≡ true

own : IsNumeralModel AreDigits (digits_behind 0)
own = numerals_by_fold _ (search rules) digits_behind (search rules)

each_digit : (ds : List ℕ) → list_all is_digit ds ≡ true → All (λ b. is_digit b ≡ true) ds
each_digit [] h n d below = absurd (omega arith)
each_digit (b ∷ ds) h zero d below = and_left (is_digit b) (list_all is_digit ds) h
each_digit (b ∷ ds) h (suc n) d below = each_digit ds (and_right (is_digit b) (list_all is_digit ds) h) n d (omega arith)

digit_byte : (b : ℕ) → is_digit b ≡ true → is_name_byte b ≡ true
digit_byte b h = grind (arith, nat_tests)

digit_bytes : (ds : List ℕ) → list_all is_digit ds ≡ true → list_all is_name_byte ds ≡ true
digit_bytes [] h = refl
digit_bytes (b ∷ ds) h =
    let first : is_name_byte b ≡ true = digit_byte b (and_left (is_digit b) (list_all is_digit ds) h) in
    let more : list_all is_name_byte ds ≡ true = digit_bytes ds (and_right (is_digit b) (list_all is_digit ds) h) in
    rw (first, more)

-- a number of at most ten digits
pub decimal_number : (n : ℕ) → n < 10 ^ 10 → IsNumber (decimal n) (pos n)
decimal_number n small =
    record {
      digits = each_digit (decimal n) (digits_decimal own n (omega arith));
      some = let some : 0 < length (decimal n) = decimal_nonempty n (omega arith) in omega arith;
      few = length-decimal-le 10 n (omega arith) small (omega arith);
      value = ap (λ m. pos m) (sym (digits_value-decimal own n (omega arith)));
    }

decimal_bytes : (n : ℕ) → n < 10 ^ 10 → list_all is_name_byte (decimal n) ≡ true
decimal_bytes n small = digit_bytes (decimal n) (digits_decimal own n (omega arith))

pub reads_number : (n : ℕ) (r : List ℕ) (ls : List TokenKind) → n < 10 ^ 10 → IsNoRun r → Reads r ls → Reads (decimal n ++ r) (Number (pos n) ∷ ls)
reads_number n r ls small none h = let is = decimal_number n small in reads_run (decimal n) (Number (pos n)) r ls is.some (decimal_bytes n small) is none h

-- ---- types
type_bytes : (s : Bool) (b : Bits) → (1 ≤ length (type_word (typed_as s b))) × (list_all is_name_byte (type_word (typed_as s b)) ≡ true)
unfolding digits
type_bytes true Eight = (omega arith, refl)
type_bytes true Sixteen = (omega arith, refl)
type_bytes true ThirtyTwo = (omega arith, refl)
type_bytes false Eight = (omega arith, refl)
type_bytes false Sixteen = (omega arith, refl)
type_bytes false ThirtyTwo = (omega arith, refl)

pub reads_type : (t : LaneType) (r : List ℕ) (ls : List TokenKind) → IsNoRun r → Reads r ls → Reads (type_word t ++ r) (TypeWord t ∷ ls)
reads_type t r ls none h = let bytes = type_bytes t.signed t.bits in reads_run (type_word t) (TypeWord t) r ls bytes.0 bytes.1 refl none h

-- a number and its type
pub reads_typed : (n : ℕ) (t : LaneType) (r : List ℕ) (ls : List TokenKind) → n < 10 ^ 10 → IsNoRun r → Reads r ls → Reads ((decimal n ++ type_word t) ++ r) (Typed (pos n) t ∷ ls)
reads_typed n t r ls small none h =
    let is = decimal_number n small in
    let bytes = type_bytes t.signed t.bits in
    reads_run (decimal n ++ type_word t) (Typed (pos n) t) r ls (omega (arith, is.some, length-append (decimal n) (type_word t)))
    (rw (list_all-append is_name_byte (decimal n) (type_word t), decimal_bytes n small) bytes.1) (decimal n, is, refl) none h

-- ---- names
letter_byte : (b : ℕ) → is_letter b ≡ true → is_name_byte b ≡ true
letter_byte b h = rw h

spelled_bytes : (w : List ℕ) → is_spelled w ≡ true → (1 ≤ length w) × (list_all is_name_byte w ≡ true)
spelled_bytes [] h = absurd (cc)
spelled_bytes (b ∷ w) h =
    let first : is_name_byte b ≡ true = letter_byte b (and_left (is_letter b) (list_all is_name_byte w) h) in
    let more : list_all is_name_byte w ≡ true = and_right (is_letter b) (list_all is_name_byte w) h in
    (omega arith, rw (first, more))

name_spelled : (w : List ℕ) → is_name w ≡ true → is_spelled w ≡ true
unfolding is_name
name_spelled w h = and_left (is_spelled w) (nat_le (length w) 32) (and_left (is_spelled w && nat_le (length w) 32) (not (is_reserved w)) h)

pub reads_name : (w r : List ℕ) (ls : List TokenKind) → is_name w ≡ true → IsNoRun r → Reads r ls → Reads (w ++ r) (Name w ∷ ls)
reads_name w r ls is none h = let bytes = spelled_bytes w (name_spelled w is) in reads_run w (Name w) r ls bytes.0 bytes.1 (is, refl) none h
