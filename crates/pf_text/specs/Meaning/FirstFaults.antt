-- Texts that are read step by step up to their first fault.
use Rattle.std.specs.Prelude.{◌≡◌, ℕ, List, [], ◌∷◌, ◌++◌, length}

-- one step for each, from the first state to the last
abbrev pub Steps : {S X : Type 0} → (S → X → S → Type 0) → S → List X → S → Type 0
Steps Step s [] t = s ≡ t
Steps {S} Step s (x ∷ xs) t = (next : S) × Step s x next × Steps Step next xs t

-- each is the only step from its state
abbrev pub OnlySteps : {S X : Type 0} → (S → X → S → Type 0) → S → List X → S → Type 0
OnlySteps {S} {X} Step s xs t = Steps (λ r x next. Step r x next × ((other : S) → Step r x other → other ≡ next)) s xs t

-- the first of them is no step
abbrev pub Halts : {S X : Type 0} → (S → X → S → Type 0) → S → List X → Type 0
Halts Step s [] = Unit {0}
Halts {S} Step s (x ∷ _) = (next : S) → Step s x next → ⊥

-- the first that has a fault behind those that step, and how many these are
pub record IsFirstFault {S X F : Type 0} (Step : S → X → S → Type 0) (Fault : S → X → F → Type 0) (s : S) (xs : List X) (n : ℕ) (fault : F) : Type 0 where
  pub before : List X
  pub here : X
  pub after : List X
  pub state : S
  pub parts : xs ≡ before ++ here ∷ after
  pub count : n ≡ length before
  pub steps : Steps Step s before state
  pub stands : Fault state here fault
