-- Operands as they are written at marks, and read.
use Rattle.std.proofs.Common.{◌≡◌, ℕ, zero, suc, ◌^◌, ◌<◌, ◌≤◌, List, [], ◌∷◌, ◌++◌, length, get_or, Bool, true, false, not, ◌&&◌, ◌||◌, ◌==◌, nat_le, nat_lt, Option, Some, None, refl, arith, ap, ⊎_elim}
use Rattle.std.specs.Prelude.{slice_index}
use Rattle.std.specs.Fmt.{decimal}
use Rattle.std.specs.List.{list_all, list_any}
use Rattle.std.specs.Str.{all_ascii_digits, bytes_eq}
use Rattle.std.proofs.lemmas.Bool.{and_parts, cases_Bool, cases_eq, eqb-true, leb-true, ltb-true, lt-ltb}
use Rattle.std.proofs.lemmas.Bool.Decides.{nat_tests}
use Rattle.std.proofs.lemmas.Fmt.{length-decimal-le, decimal_nonempty}
use Rattle.std.proofs.lemmas.List.{get_or_past}
use Rattle.std.proofs.lemmas.Slice.Eq.{bytes_eq-Decides}
use Rattle.pf_text.specs.Meaning.Words.{is_digit, is_name_byte}
use Rattle.pf_text.specs.Steps.Scan.{number_at}
use Rattle.pf_text.proofs.Fronts.{digit_most}
use Rattle.pf_text.proofs.ScanLaws.{NoDigit, digits-decimal, number_at-decimal}
use Rattle.pf_frames.specs.Meaning.Frames.{register_words, limit, operand}
use Rattle.pf_frames.specs.Meaning.FrameTests.{all_below, begins_operand}
use Rattle.pf_frames.specs.Steps.Reading.{leading_word, behind_word, word_place, read_operand}

pub all_below_at : (test : ℕ → Bool) (n k : ℕ) → all_below test n ≡ true → k < n → test k ≡ true
all_below_at test zero k h less = absurd (omega arith)
all_below_at test (suc n) k h less =
    let parts : (test n ≡ true) × (all_below test n ≡ true) = and_parts (test n) (all_below test n) h in
    ⊎_elim
    (λ (same : k ≡ n). rw same parts.0)
    (λ (other : k ≡ n → ⊥). all_below_at test n k parts.1 (omega arith))
    (cases_eq k n)

-- the text begins with no letter, digit or _
abbrev pub NoName : List ℕ → Type 0
NoName [] = Unit {0}
NoName (c ∷ t) = is_name_byte c ≡ false

leading-append : (w t : List ℕ) → list_all is_name_byte w ≡ true → NoName t → (leading_word (w ++ t) ≡ w) × (behind_word (w ++ t) ≡ t)
leading-append [] [] a h = (refl, refl)
leading-append [] (c ∷ t) a h = rw h (refl, refl)
leading-append (d ∷ w) t a h =
    let parts : (is_name_byte d ≡ true) × (list_all is_name_byte w ≡ true) = and_parts (is_name_byte d) (list_all is_name_byte w) a in
    let first = parts.0 in
    let rest = leading-append w t parts.1 h in
    rw first (ap (λ l. d ∷ l) rest.0, rest.1)

-- ---- the words of registers, by computing
abbrev is_place : ℕ → Option ℕ → Bool
is_place n None = false
is_place n (Some k) = k == n

abbrev is_nowhere : Option ℕ → Bool
is_nowhere None = true
is_nowhere (Some k) = false

abbrev word_test : ℕ → ℕ → Bool
word_test m n =
    let w = operand m n in
    list_all is_name_byte w && nat_lt 0 (length w) && nat_le (length w) 10 && begins_operand m (slice_index w 0) && not (is_digit (slice_index w 0)) && is_place n (word_place (register_words m) w)
    && all_below (λ e. e == m || is_nowhere (word_place (register_words e) w)) 5

all_words : (m : ℕ) → m < 4 → all_below (λ n. word_test (suc m) n) 9 ≡ true
all_words zero h = refl
all_words (suc zero) h = refl
all_words (suc (suc zero)) h = refl
all_words (suc (suc (suc zero))) h = refl
all_words (suc (suc (suc (suc m)))) h = absurd (omega arith)

record WordFacts (m n : ℕ) : Type 0 where
  name : list_all is_name_byte (operand m n) ≡ true
  some : 0 < length (operand m n)
  few : length (operand m n) ≤ 10
  begins : begins_operand m (get_or (operand m n) 0 0) ≡ true
  letter : is_digit (get_or (operand m n) 0 0) ≡ false
  place : is_place n (word_place (register_words m) (operand m n)) ≡ true
  others : all_below (λ e. e == m || is_nowhere (word_place (register_words e) (operand m n))) 5 ≡ true

word_facts : (m n : ℕ) → m < 4 → n < 9 → WordFacts (suc m) n
word_facts m n h k = by (operand (suc m) n) refl (all_below_at (λ n. word_test (suc m) n) 9 n (all_words m h) k) where
  by : (w : List ℕ) → operand (suc m) n ≡ w → word_test (suc m) n ≡ true → WordFacts (suc m) n
  by w e test =
      let v = operand (suc m) n in
      let p6 = and_parts (list_all is_name_byte v && nat_lt 0 (length v) && nat_le (length v) 10 && begins_operand (suc m) (slice_index v 0) && not (is_digit (slice_index v 0)) && is_place n (word_place (register_words (suc m)) v)) (all_below (λ e. e == suc m || is_nowhere (word_place (register_words e) v)) 5) test in
      let p5 = and_parts (list_all is_name_byte v && nat_lt 0 (length v) && nat_le (length v) 10 && begins_operand (suc m) (slice_index v 0) && not (is_digit (slice_index v 0))) (is_place n (word_place (register_words (suc m)) v)) p6.0 in
      let p4 = and_parts (list_all is_name_byte v && nat_lt 0 (length v) && nat_le (length v) 10 && begins_operand (suc m) (slice_index v 0)) (not (is_digit (slice_index v 0))) p5.0 in
      let p3 = and_parts (list_all is_name_byte v && nat_lt 0 (length v) && nat_le (length v) 10) (begins_operand (suc m) (slice_index v 0)) p4.0 in
      let p2 = and_parts (list_all is_name_byte v && nat_lt 0 (length v)) (nat_le (length v) 10) p3.0 in
      let p1 = and_parts (list_all is_name_byte v) (nat_lt 0 (length v)) p2.0 in
      let digit : not (is_digit (slice_index v 0)) ≡ true = p4.1 in
      record {
        name = p1.0;
        some = ltb-true 0 (length v) p1.1;
        few = leb-true (length v) 10 p2.1;
        begins = p3.1;
        letter = grind (arith, nat_tests, digit);
        place = p5.1;
        others = p6.1;
      }

place_some : (n : ℕ) (o : Option ℕ) → is_place n o ≡ true → o ≡ Some n
place_some n None h = absurd (cc)
place_some n (Some k) h = ap Some (eqb-true k n h)

nowhere_none : (o : Option ℕ) → is_nowhere o ≡ true → o ≡ None
nowhere_none None h = refl
nowhere_none (Some k) h = absurd (cc)

-- ---- words among others
pub word_place_none : (ws : List (List ℕ)) (d : ℕ) (r : List ℕ) → list_any (λ w. slice_index w 0 == d) ws ≡ false → 0 < d → word_place ws (d ∷ r) ≡ None
word_place_none [] d r h some = refl
word_place_none ([] ∷ ws) d r h some =
    let rest : list_any (λ w. slice_index w 0 == d) ws ≡ false = grind (arith, nat_tests) in
    rw (word_place_none ws d r rest some) refl
word_place_none ((c ∷ w) ∷ ws) d r h some =
    ⊎_elim
    (λ (same : (c == d) ≡ true). absurd (let loud : (c == d || list_any (λ w. slice_index w 0 == d) ws) ≡ true = rw same refl in cc))
    (λ (other : (c == d) ≡ false).
    let rest : list_any (λ w. slice_index w 0 == d) ws ≡ false = rw other at h in
    rw (other, word_place_none ws d r rest some) refl)
    (cases_Bool (c == d))

pub word_place_at : (ws : List (List ℕ)) (t : List ℕ) (n : ℕ) → ((k : ℕ) → k < n → get_or ws k [] ≡ t → ⊥) → n < length ws → get_or ws n [] ≡ t → word_place ws t ≡ Some n
word_place_at [] t n before inside here = absurd (omega arith)
word_place_at (w ∷ ws) t zero before inside here = rw ((bytes_eq-Decides w t).1 here) refl
word_place_at (w ∷ ws) t (suc n) before inside here =
    ⊎_elim
    (λ (same : bytes_eq w t ≡ true). absurd (before 0 (omega arith) ((bytes_eq-Decides w t).0 same)))
    (λ (other : bytes_eq w t ≡ false). rw (other, word_place_at ws t n (λ k less. before (suc k) (omega arith)) (omega arith) here) refl)
    (cases_Bool (bytes_eq w t))

pub word_place_nowhere : (ws : List (List ℕ)) (t : List ℕ) → ((k : ℕ) → k < length ws → get_or ws k [] ≡ t → ⊥) → word_place ws t ≡ None
word_place_nowhere [] t none = refl
word_place_nowhere (w ∷ ws) t none =
    ⊎_elim
    (λ (same : bytes_eq w t ≡ true). absurd (none 0 (omega arith) ((bytes_eq-Decides w t).0 same)))
    (λ (other : bytes_eq w t ≡ false). rw (other, word_place_nowhere ws t (λ k less. none (suc k) (omega arith))) refl)
    (cases_Bool (bytes_eq w t))

pub nine_words : (mark : ℕ) → 1 ≤ mark → length (register_words mark) ≡ 9
nine_words zero h = absurd (omega arith)
nine_words (suc zero) h = refl
nine_words (suc (suc zero)) h = refl
nine_words (suc (suc (suc zero))) h = refl
nine_words (suc (suc (suc (suc mark)))) h = refl

pub short_word : (mark n : ℕ) → 1 ≤ mark → mark ≤ 4 → n < 9 → length (get_or (register_words mark) n []) ≤ 10
short_word zero n h k less = absurd (omega arith)
short_word (suc mark) n h k less = (word_facts mark n (omega arith) less).few

pub no_word : (mark n : ℕ) → 1 ≤ mark → 9 ≤ n → operand mark n ≡ []
no_word zero n h k = absurd (omega arith)
no_word (suc mark) n h k = get_or_past (register_words (suc mark)) n [] (let nine = nine_words (suc mark) (omega arith) in omega arith)

-- ---- what an operand begins with
first_digits : (ds : List ℕ) → all_ascii_digits ds ≡ true → 0 < length ds → is_digit (get_or ds 0 0) ≡ true
first_digits [] a some = absurd (omega arith)
first_digits (d ∷ ds) a some = (and_parts (is_digit d) (all_ascii_digits ds) a).0

name_digits : (ds : List ℕ) → all_ascii_digits ds ≡ true → list_all is_name_byte ds ≡ true
name_digits [] a = refl
name_digits (d ∷ ds) a =
    let parts : (is_digit d ≡ true) × (all_ascii_digits ds ≡ true) = and_parts (is_digit d) (all_ascii_digits ds) a in
    let digit = parts.0 in
    let first : is_name_byte d ≡ true = grind (arith, nat_tests) in
    rw (first, name_digits ds parts.1) refl

no_digit_words : (m : ℕ) → m < 4 → all_below (λ d. not (begins_operand (suc m) d)) 58 ≡ true
no_digit_words zero h = refl
no_digit_words (suc zero) h = refl
no_digit_words (suc (suc zero)) h = refl
no_digit_words (suc (suc (suc zero))) h = refl
no_digit_words (suc (suc (suc (suc m)))) h = absurd (omega arith)

digit_begins_none : (m d : ℕ) → m < 4 → is_digit d ≡ true → begins_operand (suc m) d ≡ false
digit_begins_none m d h digit =
    let low : d ≤ 57 = digit_most d digit in
    let none : not (begins_operand (suc m) d) ≡ true = all_below_at (λ d. not (begins_operand (suc m) d)) 58 d (no_digit_words m h) (omega arith) in
    grind (arith, nat_tests, none)

no_digits : (d : ℕ) (t : List ℕ) → is_digit d ≡ false → number_at (d ∷ t) ≡ None
no_digits d t none = rw none refl

no_name : (mark : ℕ) → word_place (register_words mark) [] ≡ None
no_name zero = refl
no_name (suc zero) = refl
no_name (suc (suc zero)) = refl
no_name (suc (suc (suc zero))) = refl
no_name (suc (suc (suc (suc mark)))) = refl

-- no operand at the mark begins with this byte
pub no_operand : (mark d : ℕ) (t : List ℕ) → begins_operand mark d ≡ false → read_operand mark (d ∷ t) ≡ None
no_operand zero d t none = rw (no_digits d t none) refl
no_operand (suc mark) d t none =
    ⊎_elim
    (λ (name : is_name_byte d ≡ true).
    let some : 0 < d = grind (arith, nat_tests) in
    rw (name, word_place_none (register_words (suc mark)) d (leading_word t) none some) refl)
    (λ (other : is_name_byte d ≡ false). rw (other, no_name (suc mark)) refl)
    (cases_Bool (is_name_byte d))

-- ---- what holds of an operand at a mark
pub record OperandFacts (m n : ℕ) : Type 0 where
  pub name : list_all is_name_byte (operand m n) ≡ true
  pub some : 1 ≤ length (operand m n)
  pub few : length (operand m n) ≤ 10
  pub begins : begins_operand m (get_or (operand m n) 0 0) ≡ true
  pub read : (t : List ℕ) → NoName t → read_operand m (operand m n ++ t) ≡ Some (n, t)
  pub other : (e : ℕ) (t : List ℕ) → e ≤ 4 → (e ≡ m → ⊥) → NoName t → read_operand e (operand m n ++ t) ≡ None

digit_next : (t : List ℕ) → NoName t → NoDigit t
digit_next [] h = tt
digit_next (c ∷ t) h = grind (arith, nat_tests, h)

front_none : (mark : ℕ) (w t : List ℕ) → 1 ≤ length w → begins_operand mark (get_or w 0 0) ≡ false → read_operand mark (w ++ t) ≡ None
front_none mark [] t some none = absurd (omega arith)
front_none mark (d ∷ w) t some none = no_operand mark d (w ++ t) none

number_other : (n e : ℕ) (t : List ℕ) → n < 2 ^ 32 → e ≤ 4 → (e ≡ 0 → ⊥) → read_operand e (decimal n ++ t) ≡ None
number_other n zero t h k other = absurd (other refl)
number_other n (suc e) t h k other =
    let all = digits-decimal n (omega arith) in
    let some = decimal_nonempty n (omega arith) in
    front_none (suc e) (decimal n) t some (digit_begins_none e (get_or (decimal n) 0 0) (omega arith) (first_digits (decimal n) all some))

number_read : (n : ℕ) (t : List ℕ) → n < 2 ^ 32 → NoName t → read_operand 0 (decimal n ++ t) ≡ Some (n, t)
number_read n t h next = rw (number_at-decimal n t (omega arith) (digit_next t next), lt-ltb n (2 ^ 32) h) refl

word_read : (m n : ℕ) (t : List ℕ) → m < 4 → n < 9 → NoName t → read_operand (suc m) (operand (suc m) n ++ t) ≡ Some (n, t)
word_read m n t h k next =
    let f = word_facts m n h k in
    let both = leading-append (operand (suc m) n) t f.name next in
    let place : word_place (register_words (suc m)) (operand (suc m) n) ≡ Some n = place_some n (word_place (register_words (suc m)) (operand (suc m) n)) f.place in
    rw (both.0, both.1, place) refl

word_other : (m n e : ℕ) (t : List ℕ) → m < 4 → n < 9 → e ≤ 4 → (e ≡ suc m → ⊥) → NoName t → read_operand e (operand (suc m) n ++ t) ≡ None
word_other m n zero t h k less other next = let f = word_facts m n h k in front_none 0 (operand (suc m) n) t f.some f.letter
word_other m n (suc e) t h k less other next =
    let f = word_facts m n h k in
    let both = leading-append (operand (suc m) n) t f.name next in
    let test : (suc e == suc m || is_nowhere (word_place (register_words (suc e)) (operand (suc m) n))) ≡ true = all_below_at (λ e. e == suc m || is_nowhere (word_place (register_words e) (operand (suc m) n))) 5 (suc e) f.others (omega arith) in
    let differ : (suc e == suc m) ≡ false = grind (arith, nat_tests) in
    let none : is_nowhere (word_place (register_words (suc e)) (operand (suc m) n)) ≡ true = rw differ at test in
    rw (both.0, nowhere_none (word_place (register_words (suc e)) (operand (suc m) n)) none) refl

pub operand_facts : (m n : ℕ) → m ≤ 4 → n < limit m → OperandFacts m n
operand_facts zero n h k =
    let all = digits-decimal n (omega arith) in
    let some = decimal_nonempty n (omega arith) in
    record {
      name = name_digits (decimal n) all;
      some = some;
      few = length-decimal-le 10 n (omega arith) (omega arith) (omega arith);
      begins = first_digits (decimal n) all some;
      read = λ t next. number_read n t k next;
      other = λ e t less other next. number_other n e t k less other;
    }
operand_facts (suc m) n h k =
    let f = word_facts m n (omega arith) k in
    record {
      name = f.name;
      some = f.some;
      few = f.few;
      begins = f.begins;
      read = λ t next. word_read m n t (omega arith) k next;
      other = λ e t less other next. word_other m n e t (omega arith) k less other next;
    }
