-- The lines of a text that is written line by line.
use Rattle.std.proofs.Common.{◌≡◌, refl, sym, ap, ◌∙◌, ℕ, suc, ◌+◌, ◌-◌, ◌/◌, ◌%◌, ◌<◌, ◌≤◌, zero, Bool, true, false, not, ◌&&◌, ◌||◌, cond, List, [], ◌∷◌, ◌++◌, length, drop, get_or, add-one, arith, append_assoc, drop-cons, All, ◌==◌, ⊎_elim, ℤ, pos, negsuc}
use Rattle.std.specs.Prelude.{decimal, nat_le, if◌then◌else◌}
use Rattle.std.specs.Fmt.{signed_decimal, digits, digits_onto, digit_glyph}
use Rattle.std.specs.List.{list_all, AllByRecursion, slice_split, onto_first}
use Rattle.std.specs.Str.Lines.{lines, lines_of_parts, strip_carriage_return}
use Rattle.std.proofs.lemmas.Bool.{and_parts, not-true, ne_eqb, cases_eq, cases_lt, le-leb, lt-leb, lt-ltb}
use Rattle.std.proofs.lemmas.Bool.Decides.{nat_tests}
use Rattle.std.proofs.lemmas.Grind.{flat_map-append}
use Rattle.std.proofs.lemmas.List.Folds.{list_all-append}
use Rattle.std.proofs.lemmas.List.Sums.{AllPass-from_list_all}
use Rattle.std.proofs.lemmas.List.Splits.{slice_split_at}
use Rattle.pf_text.specs.Meaning.Words.{is_name_byte, is_letter, is_digit, is_spelled, is_reserved, is_name}
use Rattle.pf_machine.specs.declared.code.Line.{Line}
use Rattle.pf_machine.specs.declared.code.Label.{Label}
use Rattle.pf_text.specs.Meaning.Lines.{is_blank, tight_on}
use Rattle.pf_machine.specs.Meaning.Tables.{Table}
use Rattle.pf_isa.specs.Meaning.Texts.{CodeMeaning, Nothing, Named, Does, printed, line_text, label_lines, labels_at, labels_behind, named, code_lines, code_of, labels_of, said_from, uncommented_code}

pub printed-append : (a b : List (List ℕ)) → printed (a ++ b) ≡ printed a ++ printed b
printed-append a b = flat_map-append (λ l. l ++ 10 ∷ []) a b

-- lines that are appended in front of the rest
pub joined_lines : (t u v : List ℕ) (a rest : List (List ℕ)) → u ≡ t ++ printed a → v ≡ u ++ printed rest → v ≡ t ++ printed (a ++ rest)
joined_lines t u v a rest one two = rw (two, one, printed-append a rest) (append_assoc t (printed a) (printed rest))

-- what is left to write from instruction i on: the labels there, the instruction, and the rest
pub code_lines-drop : {I O : Type 0} (t : Table O) (n i : ℕ) (code : List (Line I O)) (labels : List Label) (line : Line I O) → i < length code → line ≡ get_or code i line
    → code_lines t n (drop i code) labels ≡ label_lines (labels_at n labels) ++ line_text t line ∷ code_lines t (n + 1) (drop (i + 1) code) (labels_behind n labels)
code_lines-drop t n i code labels line within is =
    rw (drop-cons code i line within, ← is, add-one i) refl

-- some lines and one line more were written in front of the rest
pub written_on : (before middle after start : List ℕ) (lines : List (List ℕ)) (line : List ℕ) (rest : List (List ℕ)) → middle ≡ before ++ printed lines → after ≡ middle ++ printed (line ∷ [])
    → before ++ printed (lines ++ line ∷ rest) ≡ start → after ++ printed rest ≡ start
written_on before middle after start lines line rest one two all =
    let split : printed (lines ++ line ∷ rest) ≡ printed lines ++ (printed (line ∷ []) ++ printed rest) =
    printed-append lines (line ∷ rest) ∙ ap (λ l. printed lines ++ l) (printed-append (line ∷ []) rest) in
    rw (two, one, append_assoc, append_assoc, ← split) all

-- ---- lines that are written are the lines that are read

-- a byte inside a line, which ends none
abbrev pub inner : ℕ → Bool
inner c = not (c == 10) && not (c == 13)

abbrev pub is_inner : List ℕ → Bool
is_inner bytes = list_all inner bytes

-- tests of every byte, of texts one after another
pub all-append : (p : ℕ → Bool) (a b : List ℕ) → list_all p a ≡ true → list_all p b ≡ true → list_all p (a ++ b) ≡ true
all-append p a b h k = rw (list_all-append p a b, h, k) refl

not_line_feed : (c : ℕ) → inner c ≡ true → (c == 10) ≡ false
not_line_feed c h = not-true (c == 10) (and_parts (not (c == 10)) (not (c == 13)) h).0

not_return : (c : ℕ) → inner c ≡ true → (c == 13) ≡ false
not_return c h = not-true (c == 13) (and_parts (not (c == 10)) (not (c == 13)) h).1

last_inner : (l : List ℕ) → is_inner l ≡ true → (get_or l (length l - 1) 0 == 13) ≡ false
last_inner [] h = refl
last_inner (c ∷ cs) h =
    let pass = AllPass-from_list_all inner (c ∷ cs) h in
    not_return _ (pass (length (c ∷ cs) - 1) 0 (omega arith))

stripped_inner : (l : List ℕ) → is_inner l ≡ true → strip_carriage_return l ≡ l
stripped_inner l h = rw (last_inner l h) refl

-- a text has a first part
pub first_part : (p : ℕ → Bool) (xs : List ℕ) → (y : List ℕ) × (more : List (List ℕ)) × (slice_split p xs ≡ y ∷ more)
first_part p [] = ([], [], refl)
first_part p (x ∷ xs) =
    let rest = first_part p xs in
    elim (p x) as (λ b. (y : List ℕ) × (more : List (List ℕ)) × (cond b ([] ∷ slice_split p xs) (onto_first x (slice_split p xs)) ≡ y ∷ more)) [
      | true ↦ ([], slice_split p xs, refl)
      | false ↦ (x ∷ rest.0, rest.1, ap (onto_first x) rest.2)
    ]

lines_of_parts-cons : (l : List ℕ) (parts : List (List ℕ)) (y : List ℕ) (more : List (List ℕ)) → is_inner l ≡ true → parts ≡ y ∷ more → lines_of_parts (l ∷ parts) ≡ l ∷ lines_of_parts parts
lines_of_parts-cons l parts y more h e = rw e (ap (λ k. k ∷ lines_of_parts (y ∷ more)) (stripped_inner l h))

pub lines-printed : (ls : List (List ℕ)) → AllByRecursion (λ l. is_inner l ≡ true) ls → lines (printed ls) ≡ ls
lines-printed [] h = refl
lines-printed (l ∷ ls) h =
    let p : ℕ → Bool = λ b. b == 10 in
    let none : All (λ c. p c ≡ false) l = λ k d m. not_line_feed _ (AllPass-from_list_all inner l h.0 k d m) in
    let whole : printed (l ∷ ls) ≡ l ++ 10 ∷ printed ls = append_assoc l (10 ∷ []) (printed ls) in
    let split : slice_split p (printed (l ∷ ls)) ≡ l ∷ slice_split p (printed ls) = ap (slice_split p) whole ∙ slice_split_at p l 10 (printed ls) none refl in
    let some = first_part p (printed ls) in
    rw split (lines_of_parts-cons l (slice_split p (printed ls)) some.0 some.1 h.0 some.2 ∙ ap (λ m. l ∷ m) (lines-printed ls h.1))

-- ---- names, digits and instructions are inside a line

-- a byte that may stand in a name is none that may not
pub apart_from : (c k : ℕ) → is_name_byte c ≡ true → is_name_byte k ≡ false → (c == k) ≡ false
apart_from c k h n = ⊎_elim (λ (e : c ≡ k). absurd (let same : true ≡ false = sym h ∙ ap is_name_byte e ∙ n in cc)) (λ (ne : c ≡ k → ⊥). ne_eqb c k ne) (cases_eq c k)

-- what stands in a label's line: it is read as it is
abbrev pub solid : ℕ → Bool
solid c = not (is_blank c) && not (c == 44) && not (c == 47)

name_byte_inner : (c : ℕ) → is_name_byte c ≡ true → inner c ≡ true
name_byte_inner c h = rw (apart_from c 10 h refl, apart_from c 13 h refl) refl

pub name_byte_solid : (c : ℕ) → is_name_byte c ≡ true → solid c ≡ true
name_byte_solid c h = rw (apart_from c 32 h refl, apart_from c 9 h refl, apart_from c 44 h refl, apart_from c 47 h refl) refl

-- a test that holds of each byte for which another does
pub all-weaker : (p q : ℕ → Bool) → ((c : ℕ) → p c ≡ true → q c ≡ true) → (cs : List ℕ) → list_all p cs ≡ true → list_all q cs ≡ true
all-weaker p q w [] h = refl
all-weaker p q w (c ∷ cs) h =
    let both = and_parts (p c) (list_all p cs) h in
    rw (w c both.0) (all-weaker p q w cs both.1)

spelled_bytes : (name : List ℕ) → is_spelled name ≡ true → list_all is_name_byte name ≡ true
spelled_bytes [] h = refl
spelled_bytes (c ∷ cs) h =
    let both = and_parts (is_letter c) (list_all is_name_byte cs) h in
    rw both.0 both.1

pub name_bytes : (name : List ℕ) → is_name name ≡ true → list_all is_name_byte name ≡ true
unfolding is_name
name_bytes name h =
    spelled_bytes name (and_parts (is_spelled name) (nat_le (length name) 32) (and_parts (is_spelled name && nat_le (length name) 32) (not (is_reserved name)) h).0).0

pub inner_name : (name : List ℕ) → is_name name ≡ true → is_inner name ≡ true
inner_name name h = all-weaker is_name_byte inner name_byte_inner name (name_bytes name h)

is_digit-digit : (n : ℕ) → n < 10 → is_digit (48 + n) ≡ true
is_digit-digit n small = grind (arith, nat_tests)

glyph : (n : ℕ) → is_digit (digit_glyph false (n % 10)) ≡ true
glyph n = let below : n % 10 < 10 = omega arith in rw (lt-ltb (n % 10) 10 below) (is_digit-digit (n % 10) below)

digits_before : (k n : ℕ) (behind : List ℕ) → list_all is_digit behind ≡ true → list_all is_digit (digits_onto k 10 false n behind) ≡ true
digits_before zero n behind h = h
digits_before (suc k) n behind h =
    let more : list_all is_digit (digit_glyph false (n % 10) ∷ behind) ≡ true = rw (glyph n) h in
    elim (n / 10 == 0) as (λ b. list_all is_digit (if b then digit_glyph false (n % 10) ∷ behind else digits_onto k 10 false (n / 10) (digit_glyph false (n % 10) ∷ behind)) ≡ true) [
      | true ↦ more
      | false ↦ digits_before k (n / 10) (digit_glyph false (n % 10) ∷ behind) more
    ]

-- a printed number is made of digits
pub decimal_digits : (n : ℕ) → list_all is_digit (decimal n) ≡ true
unfolding digits
decimal_digits n = digits_before 64 n [] refl

-- a digit may stand in a name
pub digit_name_byte : (c : ℕ) → is_digit c ≡ true → is_name_byte c ≡ true
digit_name_byte c h = elim (is_letter c) as (λ b. (b || is_digit c || c == 95) ≡ true) [ true ↦ refl | false ↦ rw h refl ]

pub inner_decimal : (n : ℕ) → is_inner (decimal n) ≡ true
inner_decimal n = all-weaker is_digit inner (λ c h. name_byte_inner c (digit_name_byte c h)) (decimal n) (decimal_digits n)

pub inner_signed : (z : ℤ) → is_inner (signed_decimal z) ≡ true
inner_signed (pos n) = inner_decimal n
inner_signed (negsuc n) = inner_decimal (suc n)

-- ---- what the lines of code say

code_of-append : {I O : Type 0} (a b : List (CodeMeaning I O)) → code_of (a ++ b) ≡ code_of a ++ code_of b
code_of-append [] b = refl
code_of-append (Nothing ∷ a) b = code_of-append a b
code_of-append (Named name ∷ a) b = code_of-append a b
code_of-append (Does line ∷ a) b = ap (λ c. line ∷ c) (code_of-append a b)

code_of-named : {I O : Type 0} (labels : List Label) → code_of {I = I} {O = O} (named labels) ≡ []
code_of-named [] = refl
code_of-named (l ∷ ls) = code_of-named ls

pub code_of-said_from : {I O : Type 0} (n : ℕ) (code : List (Line I O)) (labels : List Label) → code_of (said_from n code labels) ≡ code
code_of-said_from n [] labels = code_of-named labels
code_of-said_from n (line ∷ more) labels =
    code_of-append (named (labels_at n labels)) (Does line ∷ said_from (n + 1) more (labels_behind n labels))
    ∙ rw (code_of-named (labels_at n labels), code_of-said_from (n + 1) more (labels_behind n labels)) refl

-- labels in order, from a number of instructions on and up to another
abbrev pub Ascend : ℕ → ℕ → List Label → Type 0
Ascend low high [] = Unit {0}
Ascend low high (l ∷ ls) = (low ≤ l.before) × (l.before ≤ high) × Ascend l.before high ls

pub labels_of-named : {I O : Type 0} (n : ℕ) (labels : List Label) (more : List (CodeMeaning I O)) → Ascend n n labels → labels_of n (named labels ++ more) ≡ labels ++ labels_of n more
labels_of-named n [] more h = refl
labels_of-named n (l ∷ ls) more h =
    let here : l.before ≡ n = omega (arith, h.0, h.1) in
    let rest : Ascend n n ls = rw here at h.2 in
    rw (labels_of-named n ls more rest) (ap (λ k. k ∷ ls ++ labels_of n more) (ap (λ b. record l { before = b }) (sym here)))

-- those at n, and those behind n
pub ascend_at : (n high : ℕ) (labels : List Label) → Ascend n high labels → (labels_at n labels ++ labels_behind n labels ≡ labels) × Ascend n n (labels_at n labels) × Ascend (n + 1) high (labels_behind n labels)
ascend_at n high [] h = (refl, tt, tt)
ascend_at n high (l ∷ ls) h =
    ⊎_elim
    (λ (gt : n < l.before). rw (lt-leb l.before n gt) (refl, tt, (omega arith, h.1, h.2)))
    (λ (le : l.before ≤ n).
    let here : l.before ≡ n = omega (arith, h.0) in
    let rest = ascend_at n high ls (rw here at h.2) in
    rw (le-leb l.before n le) (ap (λ k. l ∷ k) rest.0, (h.0, le, rw here rest.1), rest.2))
    (cases_lt n l.before)

-- a name is solid
pub is_solid_name : (name : List ℕ) → is_name name ≡ true → list_all solid name ≡ true
is_solid_name name h = all-weaker is_name_byte solid name_byte_solid name (name_bytes name h)

-- solid text is tight, and has no comment
pub tight-solid : (free : Bool) (cs : List ℕ) → list_all solid cs ≡ true → tight_on free cs ≡ cs
tight-solid free [] h = refl
tight-solid free (c ∷ cs) h =
    let both = and_parts (solid c) (list_all solid cs) h in
    let parts = and_parts (not (is_blank c) && not (c == 44)) (not (c == 47)) both.0 in
    let two = and_parts (not (is_blank c)) (not (c == 44)) parts.0 in
    rw (not-true (is_blank c) two.0, not-true (c == 44) two.1) (ap (λ k. c ∷ k) (tight-solid false cs both.1))

abbrev pub no_slash : ℕ → Bool
no_slash c = not (c == 47)

pub uncommented-no_slash : (cs : List ℕ) → list_all no_slash cs ≡ true → uncommented_code cs ≡ cs
uncommented-no_slash [] h = refl
uncommented-no_slash (c ∷ []) h = refl
uncommented-no_slash (c ∷ d ∷ cs) h =
    let both = and_parts (no_slash c) (list_all no_slash (d ∷ cs)) h in
    rw (not-true (c == 47) both.0) (ap (λ k. c ∷ k) (uncommented-no_slash (d ∷ cs) both.1))

pub solid_no_slash : (c : ℕ) → solid c ≡ true → no_slash c ≡ true
solid_no_slash c h = (and_parts (not (is_blank c) && not (c == 44)) (not (c == 47)) h).1
