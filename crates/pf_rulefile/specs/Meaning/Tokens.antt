-- The tokens of a line of a rule file.
use Rattle.std.specs.Prelude.{ℕ, ◌+◌, ◌-◌, ◌*◌, ℤ, pos, List, [], ◌∷◌, length, Bool, false, ◌&&◌, ◌||◌, nat_le, ◌==◌, if◌then◌else◌, Option, Some, None}
use Rattle.std.specs.List.{list_all}
use Rattle.pf_text.specs.Meaning.Words.{is_digit, is_name_byte}
use Rattle.pf_text.specs.Meaning.Lines.{is_blank}

-- two bytes side by side belong to one token: those of a word, those of `<<`, `==` and `>>`, and `}` with the word behind it
abbrev pub sticks : ℕ → ℕ → Bool
sticks c d = is_name_byte d && (is_name_byte c || c == 125) || (c == d && (c == 60 || c == 61 || c == 62))

abbrev pub goes_on : ℕ → List ℕ → Bool
goes_on c [] = false
goes_on c (d ∷ cs) = sticks c d

abbrev pub longer : ℕ → List (List ℕ) → List (List ℕ)
longer c [] = (c ∷ []) ∷ []
longer c (w ∷ ws) = (c ∷ w) ∷ ws

-- the tokens of a text, blanks left out: each is a byte and the next ones as long as they belong to it
abbrev pub tokens : List ℕ → List (List ℕ)
tokens [] = []
tokens (c ∷ cs) = if is_blank c then tokens cs else (if goes_on c cs then longer c (tokens cs) else (c ∷ []) ∷ tokens cs)

-- one to ten digits, and the number that they stand for
abbrev pub is_int : List ℕ → Bool
is_int w = nat_le 1 (length w) && (nat_le (length w) 10 && list_all is_digit w)

-- the number that digits stand for, behind a number that was read before them
abbrev pub digits_behind : ℕ → List ℕ → ℕ
digits_behind n [] = n
digits_behind n (c ∷ cs) = digits_behind (10 * n + (c - 48)) cs

abbrev pub int_of : List ℕ → Option ℤ
int_of w = if is_int w then Some (pos (digits_behind 0 w)) else None
