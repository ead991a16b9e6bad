-- A reader's answer is the only one.
use Rattle.std.proofs.Common.{◌≡◌, inl, inr}
use Rattle.std.specs.Prelude.{◌⊎◌, Result, Ok, Err, IfOk}
use Rattle.pf_text.specs.Meaning.Answers.{Answers, Decides}

pub answers_map : {A F : Type 0} (wanting : F) (P Q : A → Type 0) (E G : F → Type 0) (r : Result A F) → ((a : A) → P a → Q a) → ((f : F) → E f → G f) → Answers wanting P E r → Answers wanting Q G r
answers_map wanting P Q E G (Ok a) read told h = read a h
answers_map wanting P Q E G (Err f) read told (inl h) = inl (told f h)
answers_map wanting P Q E G (Err f) read told (inr h) = inr h

pub on_read : {A F : Type 0} (wanting : F) (P Q : A → Type 0) (E : F → Type 0) (r : Result A F) → ((a : A) → P a → Q a) → Answers wanting P E r → IfOk r Q
on_read wanting P Q E (Ok a) read h = read a h
on_read wanting P Q E (Err f) read h = tt

-- where a text has one reading or one fault
module _ (A F : Type 0) (wanting : F) (P : A → Type 0) (E : F → Type 0) (one : (a b : A) → P a → P b → a ≡ b) (one_fault : (f g : F) → E f → E g → f ≡ g) (whole : (a : A) (f : F) → P a → E f → ⊥) where
  only : (r : Result A F) → Answers wanting P E r → (a : A) → P a → Answers wanting (λ b. b ≡ a) (λ f. ⊥) r
  only (Ok b) h a k = one b a h k
  only (Err f) (inl h) a k = absurd (whole a f k h)
  only (Err f) (inr h) a k = inr h

  told : (r : Result A F) → Answers wanting P E r → (f : F) → E f → Answers wanting (λ b. ⊥) (λ g. g ≡ f) r
  told (Ok a) h f k = absurd (whole a f h k)
  told (Err g) (inl h) f k = inl (one_fault g f h k)
  told (Err g) (inr h) f k = inr h

  pub decides : (r : Result A F) → Answers wanting P E r → Decides wanting P E r
  decides r h = record { answers = h; only = only r h; told = told r h }

-- where it isn't memory that was wanting
pub refused_whole : {A F : Type 0} (wanting f : F) (P : A → Type 0) (E : F → Type 0) → Decides {A = A} wanting P E (Err f) → (f ≡ wanting → ⊥) → E f × ((a : A) → P a → ⊥)
refused_whole {A} wanting f P E h other = (by h.answers, λ a k. none (h.only a k)) where
  by : E f ⊎ (f ≡ wanting) → E f
  by (inl e) = e
  by (inr e) = absurd (other e)

  none : ⊥ ⊎ (f ≡ wanting) → ⊥
  none (inl e) = e
  none (inr e) = other e
