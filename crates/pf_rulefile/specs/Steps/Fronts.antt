-- The front of a text, and of its tokens.
use Rattle.std.specs.Prelude.{ℕ, List, [], ◌∷◌, false, if◌then◌else◌, Option, Some, None, option_map, ◌≡◌}
use Rattle.std.specs.Str.{bytes_eq}
use Rattle.pf_text.specs.Meaning.Lines.{is_blank}
use Rattle.pf_rulefile.specs.Meaning.Tokens.{sticks}

-- what of a text belongs to the token that the byte before it is in, and what is behind that
abbrev pub stuck : ℕ → List ℕ → List ℕ
stuck c [] = []
stuck c (d ∷ cs) = if sticks c d then d ∷ stuck d cs else []

abbrev pub behind_stuck : ℕ → List ℕ → List ℕ
behind_stuck c [] = []
behind_stuck c (d ∷ cs) = if sticks c d then behind_stuck d cs else d ∷ cs

-- a text from its first byte on that is no blank
abbrev pub from_solid : List ℕ → List ℕ
from_solid [] = []
from_solid (c ∷ cs) = if is_blank c then from_solid cs else c ∷ cs

abbrev pub IsSolid : List ℕ → Type 0
IsSolid [] = Unit {0}
IsSolid (c ∷ cs) = is_blank c ≡ false

-- what follows a token
abbrev pub after : List ℕ → List (List ℕ) → Option (List (List ℕ))
after w [] = None
after w (t ∷ ts) = if bytes_eq t w then Some ts else None

-- what a word at the front stands for, and what follows it
abbrev pub sign_by : {A : Type 0} → (List ℕ → Option A) → List (List ℕ) → Option (A × List (List ℕ))
sign_by of [] = None
sign_by of (t ∷ ts) = option_map (λ x. (x, ts)) (of t)
