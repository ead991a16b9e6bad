-- A line up to its first comment.
use Rattle.std.proofs.Common.{◌≡◌, refl, sym, ◌∙◌, ap, ℕ, Bool, true, false, List, length, take, nat_lt}
use Rattle.std.specs.Prelude.{Option, Some, None, cond}
use Rattle.std.specs.List.{position, position_or_len, before_first}
use Rattle.std.proofs.lemmas.List.{take_all}
use Rattle.std.proofs.lemmas.Bool.{ltb-false}

pub up_to : {X : Type 0} (p : X → Bool) (xs : List X) (n : ℕ) → ◌≡◌ {A = Option ℕ} (Some n) (position p xs) → take n xs ≡ before_first p xs
up_to {X} p xs n h = by (nat_lt (position_or_len p xs) (length xs)) refl where
  by : (b : Bool) → nat_lt (position_or_len p xs) (length xs) ≡ b → take n xs ≡ before_first p xs
  by true e = let same : ◌≡◌ {A = Option ℕ} (Some n) (Some (position_or_len p xs)) = h ∙ ap (λ b. cond b (Some (position_or_len p xs)) None) e in let number : n ≡ position_or_len p xs = cc in ap (λ m. take m xs) number
  by false e = absurd (let none : ◌≡◌ {A = Option ℕ} (Some n) None = h ∙ ap (λ b. cond b (Some (position_or_len p xs)) None) e in cc)

pub all_of_it : {X : Type 0} (p : X → Bool) (xs : List X) → ◌≡◌ {A = Option ℕ} None (position p xs) → xs ≡ before_first p xs
all_of_it {X} p xs h = by (nat_lt (position_or_len p xs) (length xs)) refl where
  by : (b : Bool) → nat_lt (position_or_len p xs) (length xs) ≡ b → xs ≡ before_first p xs
  by true e = absurd (let some : ◌≡◌ {A = Option ℕ} None (Some (position_or_len p xs)) = h ∙ ap (λ b. cond b (Some (position_or_len p xs)) None) e in cc)
  by false e = sym (take_all (position_or_len p xs) xs (ltb-false (position_or_len p xs) (length xs) e))
