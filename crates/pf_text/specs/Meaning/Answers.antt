-- What a reader answers.
use Rattle.std.specs.Prelude.{◌≡◌, ◌⊎◌, Result, Ok, Err}

-- what is read is so, and what is told is a fault, or memory was wanting
abbrev pub Answers : {A F : Type 0} → F → (A → Type 0) → (F → Type 0) → Result A F → Type 0
Answers wanting P E (Ok a) = P a
Answers wanting P E (Err f) = E f ⊎ (f ≡ wanting)

-- and what is so is read, and a fault is told, unless memory is wanting
pub record Decides {A F : Type 0} (wanting : F) (P : A → Type 0) (E : F → Type 0) (r : Result A F) : Type 0 where
  pub answers : Answers wanting P E r
  pub only : (a : A) → P a → Answers wanting (λ b. b ≡ a) (λ f. ⊥) r
  pub told : (f : F) → E f → Answers wanting (λ b. ⊥) (λ g. g ≡ f) r
