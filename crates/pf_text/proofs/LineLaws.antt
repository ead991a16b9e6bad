-- The first line of a text, and the lines behind it.
use Rattle.std.proofs.Common.{◌≡◌, refl, sym, ◌∙◌, ap, ℕ, ◌+◌, ◌-◌, ◌≤◌, ◌<◌, ◌==◌, Bool, true, false, List, [], ◌∷◌, length, take, drop, arith, length-drop, nat_lt}
use Rattle.std.specs.Prelude.{Option, Some, None, cond, if◌then◌else◌, All}
use Rattle.std.specs.List.{position, position_or_len, slice_split}
use Rattle.std.specs.Str.Lines.{lines, lines_of_parts, strip_carriage_return}
use Rattle.std.proofs.lemmas.List.{take_all, drop_all}
use Rattle.std.proofs.lemmas.List.Sums.{fails_before_first}
use Rattle.std.proofs.lemmas.List.Splits.{slice_split_first, slice_split_none, length-slice_split}
use Rattle.std.proofs.lemmas.Bool.Decides.{nat_tests}

not_below : (n m : ℕ) → nat_lt n m ≡ false → m ≤ n
not_below n m e = grind (arith, nat_tests)

below : (n m : ℕ) → nat_lt n m ≡ true → n < m
below n m e = grind (arith, nat_tests)

more_parts : (x : List ℕ) (parts : List (List ℕ)) → 0 < length parts → lines_of_parts (x ∷ parts) ≡ strip_carriage_return x ∷ lines_of_parts parts
more_parts x [] h = absurd (omega arith)
more_parts x (y ∷ ys) h = refl

pub first_ended : (w : List ℕ) (n : ℕ) → ◌≡◌ {A = Option ℕ} (Some n) (position (λ b. b == 10) w) → n < length w → lines w ≡ strip_carriage_return (take n w) ∷ lines (drop (n + 1) w)
first_ended w n h within = by (nat_lt (position_or_len (λ b. b == 10) w) (length w)) refl where
  by : (v : Bool) → nat_lt (position_or_len (λ b. b == 10) w) (length w) ≡ v → lines w ≡ strip_carriage_return (take n w) ∷ lines (drop (n + 1) w)
  by true e =
      let some : ◌≡◌ {A = Option ℕ} (Some n) (Some (position_or_len (λ b. b == 10) w)) = h ∙ ap (λ b. cond b (Some (position_or_len (λ b. b == 10) w)) None) e in
      let place : position_or_len (λ b. b == 10) w ≡ n = cc in
      let parts = slice_split (λ b. b == 10) (drop (n + 1) w) in
      let count : length parts ≡ _ = length-slice_split (λ b. b == 10) (drop (n + 1) w) in
      ap lines_of_parts (slice_split_first (λ b. b == 10) w 0 (below (position_or_len (λ b. b == 10) w) (length w) e))
      ∙ ap (λ m. lines_of_parts (take m w ∷ slice_split (λ b. b == 10) (drop (m + 1) w))) place
      ∙ more_parts (take n w) parts (omega (arith, count))
  by false e = absurd (let none : ◌≡◌ {A = Option ℕ} (Some n) None = h ∙ ap (λ b. cond b (Some (position_or_len (λ b. b == 10) w)) None) e in cc)

same_no : (n : ℕ) → 0 < n → (n == 0) ≡ false
same_no n h = grind (arith, nat_tests)

pub last_line : (w : List ℕ) → ◌≡◌ {A = Option ℕ} None (position (λ b. b == 10) w) → 0 < length w → lines w ≡ w ∷ lines (drop (length w) w)
last_line w h some = by (nat_lt (position_or_len (λ b. b == 10) w) (length w)) refl where
  by : (v : Bool) → nat_lt (position_or_len (λ b. b == 10) w) (length w) ≡ v → lines w ≡ w ∷ lines (drop (length w) w)
  by true e = absurd (let bad : ◌≡◌ {A = Option ℕ} None (Some (position_or_len (λ b. b == 10) w)) = h ∙ ap (λ b. cond b (Some (position_or_len (λ b. b == 10) w)) None) e in cc)
  by false e =
      let past = not_below (position_or_len (λ b. b == 10) w) (length w) e in
      let all : All (λ b. (b == 10) ≡ false) w = λ k d less. fails_before_first (λ b. b == 10) w k d (omega (arith, past, less)) in
      ap lines_of_parts (slice_split_none (λ b. b == 10) w all) ∙ ap (λ v. if v then [] else w ∷ []) (same_no (length w) some)
      ∙ ap (λ (us : List ℕ). w ∷ lines us) (sym (drop_all (length w) w (omega arith)))

pub rest_is : (xs : List ℕ) (n : ℕ) → take (length xs - n) (drop n xs) ≡ drop n xs
rest_is xs n = take_all (length xs - n) (drop n xs) (omega (arith, length-drop n xs))
