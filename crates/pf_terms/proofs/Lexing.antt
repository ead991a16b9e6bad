-- How tokens are found from the front.
use Rattle.std.proofs.Common.{◌≡◌, ◌≢◌, refl, sym, ap, ◌∙◌, subst, ℕ, zero, suc, ◌+◌, ◌-◌, ◌≤◌, ◌<◌, inl, inr, ℤ, pos, lit<, Bool, true, false, ◌&&◌, List, [], ◌∷◌, ◌++◌, length, get_or, take, drop, drop-cons, arith, ◌*◌, ◌^◌, add-one, pow-suc}
use native.Mathlib.Nat.{pow-le-pow_right}
use Rattle.std.specs.Prelude.{All, codes, decimal, nat_le, not, Option, Some, None, IfSome, IsSome, MatchOption, bytes_eq}
use Rattle.pf_ints.specs.Meaning.Lanes.{lane_width}
use Rattle.std.proofs.lemmas.List.{take-append-drop, get_or-take, get_or_default, length-take-le, drop_all, take_all, length-drop, drop-drop, drop_more}
use borrow.Author.Tests.{leb-true}
use Rattle.pf_values.proofs.Typing.{and_left, and_right}
use Rattle.std.specs.Fmt.{digits}
use mir.Val.{to_z}
use mir.Syntax.{w64}
use Rattle.std.proofs.lemmas.Int.{to_z_pos}
use Rattle.pf_ints.specs.declared.lane.LaneType.{LaneType}
use Rattle.pf_ints.specs.declared.lane.Bits.{Bits}
use Rattle.pf_ints.specs.declared.lane.Bits.TheVariants.{Eight, Sixteen, ThirtyTwo}
use Rattle.pf_values.specs.Meaning.Terms.{typed_as}
use Rattle.pf_values.specs.declared.op.Op.TheVariants.{Cast, Add, Sub, Mul, ShiftLeft as ShiftLeftBy, ShiftRight as ShiftRightBy, Min, Max, SelectGreater, SelectEqual, Abs, WideningAdd, WideningSub, WideningMul, ExtendingAdd, HalvingAdd, RoundingHalvingAdd, HalvingSub, SaturatingAdd, SaturatingSub, SaturatingCast, Absd, RoundingShr, MulShr, RoundingMulShr}
use Rattle.pf_text.specs.Meaning.Words.{is_digit, is_name_byte, is_name, is_spelled, is_reserved}
use Rattle.pf_values.specs.declared.op.Op.{Op}
use Rattle.pf_terms.specs.declared.token.TokenKind.{TokenKind}
use Rattle.pf_terms.specs.declared.token.TokenKind.TheVariants.{Name, TypeWord, Number, Typed, Long, Word, Choose, Line, Open, Close, OpenSquare, CloseSquare, Comma, Plus, Minus, Times, ShiftLeft, ShiftRight, Less, Greater, Same, Equals, Other}
use Rattle.pf_terms.specs.declared.token.LineWord.{LineWord}
use Rattle.pf_terms.specs.declared.token.Token.{Token}
use Rattle.pf_terms.specs.Meaning.TermTexts.{type_word, sign_letter}
use Rattle.pf_values.specs.Meaning.Spellings.{op_word}
use Rattle.pf_terms.specs.Meaning.Tokens.{is_blank, digits_behind, sign_text, IsNumber, IsLongNumber, IsCalledBy, IsWordOf, line_word, IsNoRun, IsNoDigit, IsShort, IsFrontSign, IsFrontByte, IsFront, IsSolid, IsLexed, at_end, blank, token}

-- what holds at each place holds of what is taken
pub all_taken : (p : ℕ → Bool) (xs : List ℕ) (n : ℕ) → ((k : ℕ) → k < n → p (get_or xs k 0) ≡ true) → n ≤ length xs → All (λ b. p b ≡ true) (take n xs)
all_taken p xs n h within k d below =
    let under : k < n = omega (arith, length-take-le n xs within) in
    ap p (get_or-take n xs k d under ∙ get_or_default xs k d 0 (omega arith)) ∙ h k under

pub no_run_at : (xs : List ℕ) (n : ℕ) → n < length xs → is_name_byte (get_or xs n 0) ≡ false → IsNoRun (drop n xs)
no_run_at xs n below h = subst IsNoRun (sym (drop-cons xs n 0 below)) h

pub no_run_end : (xs : List ℕ) (n : ℕ) → length xs ≤ n → IsNoRun (drop n xs)
no_run_end xs n h = subst IsNoRun (sym (drop_all n xs h)) tt

pub no_digit_at : (xs : List ℕ) (n : ℕ) → n < length xs → is_digit (get_or xs n 0) ≡ false → IsNoDigit (drop n xs)
no_digit_at xs n below h = subst IsNoDigit (sym (drop-cons xs n 0 below)) h

pub no_digit_end : (xs : List ℕ) (n : ℕ) → length xs ≤ n → IsNoDigit (drop n xs)
no_digit_end xs n h = subst IsNoDigit (sym (drop_all n xs h)) tt

-- ---- signs
sign_short_or_long : (k : TokenKind) → length (sign_text k) ≤ 2
sign_short_or_long Open = omega arith
sign_short_or_long Close = omega arith
sign_short_or_long OpenSquare = omega arith
sign_short_or_long CloseSquare = omega arith
sign_short_or_long Comma = omega arith
sign_short_or_long Plus = omega arith
sign_short_or_long Minus = omega arith
sign_short_or_long Times = omega arith
sign_short_or_long ShiftLeft = omega arith
sign_short_or_long ShiftRight = omega arith
sign_short_or_long Less = omega arith
sign_short_or_long Greater = omega arith
sign_short_or_long Same = omega arith
sign_short_or_long Equals = omega arith
sign_short_or_long _ = omega arith

at_most_two : (text : List ℕ) (j : TokenKind) (m : ℕ) → m ≤ length text → sign_text j ≡ take m text → m ≤ 2
at_most_two text j m within e = omega (arith, sign_short_or_long j, ap length e, length-take-le m text within)

pub long_front : (text : List ℕ) (k : TokenKind) → IsNoRun text → (2 ≤ length text) × (sign_text k ≡ take 2 text) → IsFrontSign text 2 k
long_front text k solid h = record { solid = solid; some = omega arith; within = h.0; sign = h.1; longest = at_most_two text }

-- without a sign of two bytes
at_most_one : (text : List ℕ) → IsShort text → (j : TokenKind) (m : ℕ) → m ≤ length text → sign_text j ≡ take m text → m ≤ 1
at_most_one [] h j m within e = omega arith
at_most_one (a ∷ []) h j m within e = omega arith
at_most_one (a ∷ b ∷ rest) h j zero within e = omega arith
at_most_one (a ∷ b ∷ rest) h j (suc zero) within e = omega arith
at_most_one (a ∷ b ∷ rest) h j (suc (suc zero)) within e = absurd (h j e)
at_most_one (a ∷ b ∷ rest) h j (suc (suc (suc m))) within e = let two = at_most_two (a ∷ b ∷ rest) j (suc (suc (suc m))) within e in absurd (omega arith)

pub short_front : (a : ℕ) (rest : List ℕ) (k : TokenKind) → IsNoRun (a ∷ rest) → IsShort (a ∷ rest) → sign_text k ≡ a ∷ [] → IsFrontSign (a ∷ rest) 1 k
short_front a rest k solid short h = record { solid = solid; some = omega arith; within = omega arith; sign = h; longest = at_most_one (a ∷ rest) short }

pub byte_front : (a : ℕ) (rest : List ℕ) → IsNoRun (a ∷ rest) → IsShort (a ∷ rest) → ((k : TokenKind) → sign_text k ≢ a ∷ []) → IsFrontByte (a ∷ rest) 1 Other
byte_front a rest solid short h = record { solid = solid; one = refl; within = omega arith; other = refl; none = none } where
  none : (j : TokenKind) (m : ℕ) → 1 ≤ m → m ≤ length (a ∷ rest) → sign_text j ≡ take m (a ∷ rest) → ⊥
  none j zero some within e = omega arith
  none j (suc zero) some within e = h j e
  none j (suc (suc m)) some within e = let one = at_most_one (a ∷ rest) short j (suc (suc m)) within e in omega arith

-- ---- numbers with their types
no_digit_sign : (s : Bool) (rest : List ℕ) → IsNoDigit (sign_letter s ++ rest)
no_digit_sign true rest = refl
no_digit_sign false rest = refl

pub no_digit_word : (t : LaneType) → IsNoDigit (type_word t)
no_digit_word t = no_digit_sign t.signed (decimal (lane_width t))

-- digits as far as they go are the digits in front
pub digits_front : (ds w : List ℕ) (n : ℕ) → All (λ b. is_digit b ≡ true) ds → IsNoDigit w → n ≤ length (ds ++ w) → All (λ b. is_digit b ≡ true) (take n (ds ++ w)) → IsNoDigit (drop n (ds ++ w)) →
    (take n (ds ++ w) ≡ ds) × (drop n (ds ++ w) ≡ w)
digits_front [] w zero all none within taken left = (refl, refl)
digits_front [] [] (suc n) all none within taken left = absurd (omega arith)
digits_front [] (b ∷ w) (suc n) all none within taken left = absurd (let yes : is_digit b ≡ true = taken 0 0 (omega arith) in cc)
digits_front (d ∷ ds) w zero all none within taken left = absurd (let yes : is_digit d ≡ true = all 0 0 (omega arith) in cc)
digits_front (d ∷ ds) w (suc n) all none within taken left =
    let more = digits_front ds w n (λ k e below. all (suc k) e (omega arith)) none (omega arith) (λ k e below. taken (suc k) e (omega arith)) left in
    (ap (λ xs. d ∷ xs) more.0, more.1)

pub typed_parts : (run ds : List ℕ) (t : LaneType) (n : ℕ) → run ≡ ds ++ type_word t → All (λ b. is_digit b ≡ true) ds → n ≤ length run → All (λ b. is_digit b ≡ true) (take n run) → IsNoDigit (drop n run) →
    (take n run ≡ ds) × (drop n run ≡ type_word t)
typed_parts run ds t n is all within taken left =
    let P : List ℕ → Type 0 = λ xs. n ≤ length xs → All (λ b. is_digit b ≡ true) (take n xs) → IsNoDigit (drop n xs) → (take n xs ≡ ds) × (drop n xs ≡ type_word t) in
    subst P (sym is) (digits_front ds (type_word t) n all (no_digit_word t)) within taken left

-- ---- runs that are no token of the grammar
pub other_run : (w : List ℕ) → ((t : LaneType) → type_word t ≢ w) → ((op : Op) → IsCalledBy w op → ⊥) → ((l : LineWord) → line_word l ≢ w) → w ≢ codes "select" → (is_name w ≡ true → ⊥) →
    ((n : ℤ) → IsNumber w n → ⊥) → ((n : ℤ) (t : LaneType) (ds : List ℕ) → IsNumber ds n → w ≡ ds ++ type_word t → ⊥) →
    ((ty : Option LaneType) → IsWordOf w (Long ty) → ⊥) → (k : TokenKind) → IsWordOf w k → ⊥
other_run w types calls lines choose names numbers typed long (Name n) h = names h.0
other_run w types calls lines choose names numbers typed long (TypeWord t) h = types t (sym h)
other_run w types calls lines choose names numbers typed long (Number n) h = numbers n h
other_run w types calls lines choose names numbers typed long (Typed n t) h = typed n t h.0 h.1 h.2
other_run w types calls lines choose names numbers typed long (Long ty) h = long ty h
other_run w types calls lines choose names numbers typed long (Word op) h = calls op h
other_run w types calls lines choose names numbers typed long Choose h = choose h
other_run w types calls lines choose names numbers typed long (Line l) h = lines l (sym h)
other_run w types calls lines choose names numbers typed long _ h = h

-- ---- numbers
pub digit_more : (n i d : ℕ) → n + 23 ≤ 23 * 10 ^ i → d ≤ 207 → (10 * n + d) + 23 ≤ 23 * 10 ^ (i + 1)
digit_more n i d h small = rw (add-one, pow-suc) (omega arith)

pub digits_fit : (n i : ℕ) → n + 23 ≤ 23 * 10 ^ i → i ≤ 10 → n < 2 ^ 40
digits_fit n i h few = omega (arith, pow-le-pow_right {n = 10} (omega arith) few)

pub number_value : (n i m : ℕ) → n + 23 ≤ 23 * 10 ^ i → i ≤ 10 → n ≡ m → to_z w64 n ≡ pos m
number_value n i m h few e = to_z_pos w64 n (let fits = digits_fit n i h few in omega arith) ∙ ap (λ v. pos v) e

-- ---- words of types
abbrev pub spelled_word : Bool → Bits → List ℕ
spelled_word true Eight = codes "i8"
spelled_word true Sixteen = codes "i16"
spelled_word true ThirtyTwo = codes "i32"
spelled_word false Eight = codes "u8"
spelled_word false Sixteen = codes "u16"
spelled_word false ThirtyTwo = codes "u32"

pub spelled_words : (s : Bool) (b : Bits) → type_word (typed_as s b) ≡ spelled_word s b
unfolding digits
spelled_words true Eight = refl
spelled_words true Sixteen = refl
spelled_words true ThirtyTwo = refl
spelled_words false Eight = refl
spelled_words false Sixteen = refl
spelled_words false ThirtyTwo = refl

pub word_is : (t : LaneType) (s : Bool) (b : Bits) (w : List ℕ) → t.signed ≡ s → t.bits ≡ b → w ≡ spelled_word s b → w ≡ type_word t
word_is t s b w signs widths is = is ∙ sym (spelled_words s b) ∙ ap (λ v. type_word (typed_as v b)) (sym signs) ∙ ap (λ v. type_word (typed_as t.signed v)) (sym widths)

-- each type and each operator of a word stands in its list
pub type_place : (t : LaneType) (w : List ℕ) (xs : List LaneType) → xs ≡ typed_as false Eight ∷ typed_as true Eight ∷ typed_as false Sixteen ∷ typed_as true Sixteen ∷ typed_as false ThirtyTwo ∷ typed_as true ThirtyTwo ∷ [] →
    ((k : ℕ) → k < 6 → type_word (get_or xs k (typed_as false Eight)) ≢ w) → type_word t ≢ w
type_place t w xs is h = by t.signed t.bits where
  at : (k : ℕ) → k < 6 → type_word (get_or (typed_as false Eight ∷ typed_as true Eight ∷ typed_as false Sixteen ∷ typed_as true Sixteen ∷ typed_as false ThirtyTwo ∷ typed_as true ThirtyTwo ∷ []) k (typed_as false Eight)) ≢ w
  at = subst (λ ys. (k : ℕ) → k < 6 → type_word (get_or ys k (typed_as false Eight)) ≢ w) is h

  by : (s : Bool) (b : Bits) → type_word (typed_as s b) ≢ w
  by false Eight = at 0 (lit< tt)
  by true Eight = at 1 (lit< tt)
  by false Sixteen = at 2 (lit< tt)
  by true Sixteen = at 3 (lit< tt)
  by false ThirtyTwo = at 4 (lit< tt)
  by true ThirtyTwo = at 5 (lit< tt)

abbrev pub calls : List Op
calls =
    Min ∷ Max ∷ Abs ∷ WideningAdd ∷ WideningSub ∷ WideningMul ∷ ExtendingAdd ∷ HalvingAdd ∷ RoundingHalvingAdd ∷ HalvingSub ∷ SaturatingAdd ∷ SaturatingSub
    ∷ SaturatingCast ∷ Absd ∷ RoundingShr ∷ MulShr ∷ RoundingMulShr ∷ []

pub call_place : (op : Op) (w : List ℕ) → ((k : ℕ) → k < 17 → op_word (get_or calls k Min) ≢ w) → IsCalledBy w op → ⊥
call_place Min w h c = h 0 (lit< tt) (sym c.0)
call_place Max w h c = h 1 (lit< tt) (sym c.0)
call_place Abs w h c = h 2 (lit< tt) (sym c.0)
call_place WideningAdd w h c = h 3 (lit< tt) (sym c.0)
call_place WideningSub w h c = h 4 (lit< tt) (sym c.0)
call_place WideningMul w h c = h 5 (lit< tt) (sym c.0)
call_place ExtendingAdd w h c = h 6 (lit< tt) (sym c.0)
call_place HalvingAdd w h c = h 7 (lit< tt) (sym c.0)
call_place RoundingHalvingAdd w h c = h 8 (lit< tt) (sym c.0)
call_place HalvingSub w h c = h 9 (lit< tt) (sym c.0)
call_place SaturatingAdd w h c = h 10 (lit< tt) (sym c.0)
call_place SaturatingSub w h c = h 11 (lit< tt) (sym c.0)
call_place SaturatingCast w h c = h 12 (lit< tt) (sym c.0)
call_place Absd w h c = h 13 (lit< tt) (sym c.0)
call_place RoundingShr w h c = h 14 (lit< tt) (sym c.0)
call_place MulShr w h c = h 15 (lit< tt) (sym c.0)
call_place RoundingMulShr w h c = h 16 (lit< tt) (sym c.0)
call_place Cast w h c = absurd (let no : ◌≡◌ {A = Bool} false true = c.1 in cc)
call_place Add w h c = absurd (let no : ◌≡◌ {A = Bool} false true = c.1 in cc)
call_place Sub w h c = absurd (let no : ◌≡◌ {A = Bool} false true = c.1 in cc)
call_place Mul w h c = absurd (let no : ◌≡◌ {A = Bool} false true = c.1 in cc)
call_place ShiftLeftBy w h c = absurd (let no : ◌≡◌ {A = Bool} false true = c.1 in cc)
call_place ShiftRightBy w h c = absurd (let no : ◌≡◌ {A = Bool} false true = c.1 in cc)
call_place SelectGreater w h c = absurd (let no : ◌≡◌ {A = Bool} false true = c.1 in cc)
call_place SelectEqual w h c = absurd (let no : ◌≡◌ {A = Bool} false true = c.1 in cc)

-- digits that end too early are no number
pub not_digits : (xs : List ℕ) (n : ℕ) (v : ℤ) → n < length xs → IsNoDigit (drop n xs) → IsNumber xs v → ⊥
not_digits xs n v below none h =
    let no : is_digit (get_or xs n 0) ≡ false = subst IsNoDigit (drop-cons xs n 0 below) none in
    let yes : is_digit (get_or xs n 0) ≡ true = h.digits n 0 below in
    absurd (cc)

rest_is : (xs : List ℕ) (n : ℕ) → take (length xs - n) (drop n xs) ≡ drop n xs
rest_is xs n = take_all (length xs - n) (drop n xs) (omega (arith, length-drop n xs))

-- ---- long numbers
not_all_digits : (xs : List ℕ) (n : ℕ) → n < length xs → IsNoDigit (drop n xs) → All (λ b. is_digit b ≡ true) xs → ⊥
not_all_digits xs n below none all =
    let no : is_digit (get_or xs n 0) ≡ false = subst IsNoDigit (drop-cons xs n 0 below) none in
    let yes : is_digit (get_or xs n 0) ≡ true = all n 0 below in
    absurd (cc)

pub too_few : (run : List ℕ) (count : ℕ) → count ≤ length run → All (λ b. is_digit b ≡ true) (take count run) → IsNoDigit (drop count run) → count < 11 → (ty : Option LaneType) → IsWordOf run (Long ty) → ⊥
too_few run count within bytes longest few None h = not_all_digits run count (omega (arith, h.many)) longest h.digits
too_few run count within bytes longest few (Some t) h =
    let p = typed_parts run h.0 t count h.2 h.1.digits within bytes longest in
    let long : length (take count run) ≡ length h.0 = ap length p.0 in
    absurd (omega (arith, h.1.many, long, length-take-le count run within))

pub no_long_type : (run : List ℕ) (count : ℕ) → count < length run → All (λ b. is_digit b ≡ true) (take count run) → IsNoDigit (drop count run) → ((t : LaneType) → type_word t ≢ take (length run - count) (drop count run)) →
    (ty : Option LaneType) → IsWordOf run (Long ty) → ⊥
no_long_type run count below bytes longest none None h = not_all_digits run count below longest h.digits
no_long_type run count below bytes longest none (Some t) h =
    let p = typed_parts run h.0 t count h.2 h.1.digits (omega arith) bytes longest in
    none t (sym p.1 ∙ sym (rest_is run count))

pub long_is : (xs : List ℕ) (n : ℕ) → All (λ b. is_digit b ≡ true) (take n xs) → n ≤ length xs → length xs ≤ n → 11 ≤ n → IsLongNumber xs
long_is xs n all within whole many =
    let P : List ℕ → Type 0 = λ ys. All (λ b. is_digit b ≡ true) ys in
    record { digits = subst P (take_all n xs whole) all; many = omega arith }

pub long_typed : (run : List ℕ) (count : ℕ) (t : LaneType) → count ≤ length run → All (λ b. is_digit b ≡ true) (take count run) → 11 ≤ count → type_word t ≡ take (length run - count) (drop count run) → IsWordOf run (Long (Some t))
long_typed run count t within bytes many is =
    (take count run, record { digits = bytes; many = omega (arith, length-take-le count run within) }, sym (take-append-drop count run) ∙ ap (λ l. take count run ++ l) (sym (is ∙ rest_is run count)))

pub number_is : (xs : List ℕ) (n : ℕ) (v : ℤ) → All (λ b. is_digit b ≡ true) (take n xs) → length xs ≤ n → 1 ≤ length xs → length xs ≤ 10 → v ≡ pos (digits_behind 0 xs) → IsNumber xs v
number_is xs n v all whole some few is =
    let P : List ℕ → Type 0 = λ ys. All (λ b. is_digit b ≡ true) ys in
    record { digits = subst P (take_all n xs whole) all; some = some; few = few; value = is }

pub no_number : (run : List ℕ) (count : ℕ) → count ≤ length run → All (λ b. is_digit b ≡ true) (take count run) → IsNoDigit (drop count run) → ((v : ℤ) → IsNumber (take count run) v → ⊥) →
    (v : ℤ) (t : LaneType) (ds : List ℕ) → IsNumber ds v → run ≡ ds ++ type_word t → ⊥
no_number run count within bytes longest none v t ds h is =
    let p = typed_parts run ds t count is h.digits within bytes longest in
    none v (subst (λ w. IsNumber w v) (sym p.0) h)

pub no_type : (run : List ℕ) (count : ℕ) → count ≤ length run → All (λ b. is_digit b ≡ true) (take count run) → IsNoDigit (drop count run) → ((t : LaneType) → type_word t ≢ take (length run - count) (drop count run)) →
    (v : ℤ) (t : LaneType) (ds : List ℕ) → IsNumber ds v → run ≡ ds ++ type_word t → ⊥
no_type run count within bytes longest none v t ds h is =
    let p = typed_parts run ds t count is h.digits within bytes longest in
    none t (sym p.1 ∙ sym (rest_is run count))

-- a name has 1 to 32 bytes
pub name_long : (w : List ℕ) → is_name w ≡ true → (1 ≤ length w) × (length w ≤ 32)
unfolding is_name
name_long [] h = absurd (cc)
name_long (b ∷ w) h = (omega arith, leb-true (length (b ∷ w)) 32 (and_right (is_spelled (b ∷ w)) (nat_le (length (b ∷ w)) 32) (and_left (is_spelled (b ∷ w) && nat_le (length (b ∷ w)) 32) (not (is_reserved (b ∷ w))) h)))

-- ---- the front of a text
pub no_run_here : (text : List ℕ) (n : ℕ) → n ≡ 0 → IsNoRun (drop n text) → IsNoRun text
no_run_here text n e h = subst (λ m. IsNoRun (drop m text)) e h

pub short_at : (text : List ℕ) (k : TokenKind) → IsSolid text → IsNoRun text → IsShort text → sign_text k ≡ get_or text 0 0 ∷ [] → IsFront text 1 k
short_at [] k some solid short h = absurd some
short_at (a ∷ rest) k some solid short h = inr (inl (short_front a rest k solid short h))

pub byte_at : (text : List ℕ) → IsSolid text → IsNoRun text → IsShort text → ((k : TokenKind) → sign_text k ≢ get_or text 0 0 ∷ []) → IsFront text 1 Other
byte_at [] some solid short h = absurd some
byte_at (a ∷ rest) some solid short h = inr (inr (byte_front a rest solid short h))

-- ---- one token after another
pub lexed_blank : (text : List ℕ) (n : ℕ) (ts : List Token) → n < length text → is_blank (get_or (take (length text - n) (drop n text)) 0 0) ≡ true → IsLexed (n + 1) (drop (n + 1) text) ts → IsLexed n (drop n text) ts
lexed_blank text n ts below b h =
    let here : drop n text ≡ get_or text n 0 ∷ drop (n + 1) text = drop_more text n 0 below in
    let first : is_blank (get_or text n 0) ≡ true = ap (λ ys. is_blank (get_or ys 0 0)) (sym (rest_is text n ∙ here)) ∙ b in
    subst (λ ys. IsLexed n ys ts) (sym here) (blank n (get_or text n 0) (drop (n + 1) text) ts first h)

pub solid_here : (text : List ℕ) (n : ℕ) → n < length text → is_blank (get_or (take (length text - n) (drop n text)) 0 0) ≡ false → IsSolid (drop n text)
solid_here text n below b =
    let here : drop n text ≡ get_or text n 0 ∷ drop (n + 1) text = drop_more text n 0 below in
    subst IsSolid (sym here) (ap (λ ys. is_blank (get_or ys 0 0)) (sym (rest_is text n ∙ here)) ∙ b)

pub lexed_token : (text : List ℕ) (n size : ℕ) (k : TokenKind) (ts : List Token) → n < length text → is_blank (get_or (take (length text - n) (drop n text)) 0 0) ≡ false → IsFront (take (length text - n) (drop n text)) size k →
    IsLexed (n + size) (drop (n + size) text) ts → IsLexed n (drop n text) (record { start = n; end = n + size; kind = k } ∷ ts)
lexed_token text n size k ts below b front h =
    token n size (drop n text) k ts (solid_here text n below b) (subst (λ ys. IsFront ys size k) (rest_is text n) front) (subst (λ ys. IsLexed (n + size) ys ts) (drop_then text n size) h) where
      drop_then : (xs : List ℕ) (i j : ℕ) → drop (i + j) xs ≡ drop j (drop i xs)
      drop_then xs i j = sym (drop-drop j i xs)

pub front_within : (text : List ℕ) (size : ℕ) (k : TokenKind) → IsFront text size k → (1 ≤ size) × (size ≤ length text)
front_within text size k (inl h) = (h.some, h.within)
front_within text size k (inr (inl h)) = (h.some, h.within)
front_within text size k (inr (inr h)) = (omega (arith, h.one), h.within)

pub lexed_end : (text : List ℕ) (n : ℕ) → length text ≤ n → IsLexed n (drop n text) []
lexed_end text n h = subst (λ ys. IsLexed n ys []) (sym (drop_all n text h)) (at_end n)

pub front_end : (text : List ℕ) (n size : ℕ) (k : TokenKind) → n < length text → IsFront (take (length text - n) (drop n text)) size k → (1 ≤ size) × (n + size ≤ length text)
front_end text n size k below h =
    let found = front_within (take (length text - n) (drop n text)) size k h in
    (found.0, omega (arith, found.1, ap length (rest_is text n), length-drop n text))

pub name_found : (w : List ℕ) (o : Option (List ℕ)) → is_name w ≡ true → IfSome o (λ n. n ≡ w) → ((1 ≤ length w) × (length w ≤ 32) → IsSome o) → MatchOption o (is_name w ≡ false) (λ n. (is_name w ≡ true) × (n ≡ w))
name_found w (Some n) h value some = (h, value)
name_found w None h value some = absurd (let never : ◌≡◌ {A = Bool} false true = some (name_long w h) in cc)

pub not_word : (w s xs : List ℕ) (r : Bool) → r ≡ bytes_eq w s → r ≡ false → s ≡ xs → bytes_eq xs xs ≡ true → w ≢ xs
not_word w s xs r is fails same itself e =
    let all : bytes_eq w s ≡ true = ap (λ y. bytes_eq y s) e ∙ ap (bytes_eq xs) same ∙ itself in
    absurd (cc)
