-- How a text is read from its front.
use Rattle.std.specs.Prelude.{ℕ, ◌+◌, ◌-◌, ◌*◌, List, [], ◌∷◌, length, Bool, true, false, ◌&&◌, ◌||◌, nat_lt, ◌==◌, if◌then◌else◌, Option, Some, None, slice_index}
use Rattle.pf_text.specs.Meaning.Words.{is_digit}
use Rattle.pf_text.specs.Meaning.Lines.{tight_on, tight_pending}
use Rattle.pf_text.specs.declared.tight.Gap.{Gap}
use Rattle.pf_text.specs.declared.tight.Gap.TheVariants.{Free, Closed, Open}

-- what follows a word
abbrev pub behind : List ℕ → List ℕ → Option (List ℕ)
behind [] t = Some t
behind (w ∷ ws) [] = None
behind (w ∷ ws) (c ∷ t) = if w == c then behind ws t else None

-- the digits that a text begins with, and what follows them
abbrev pub leading_digits : List ℕ → List ℕ
leading_digits [] = []
leading_digits (c ∷ t) = if is_digit c then c ∷ leading_digits t else []

abbrev pub behind_digits : List ℕ → List ℕ
behind_digits [] = []
behind_digits (c ∷ t) = if is_digit c then behind_digits t else c ∷ t

-- a text from its first digit on
abbrev pub from_digit : List ℕ → List ℕ
from_digit [] = []
from_digit (c ∷ t) = if is_digit c then c ∷ t else from_digit t

-- the number that digits write behind those of n
abbrev pub number_on : ℕ → List ℕ → ℕ
number_on n [] = n
number_on n (c ∷ cs) = number_on (10 * n + (c - 48)) cs

-- these digits are no number: there are none or more than 19, or they begin with a 0 that isn't alone
abbrev pub is_misspelled : List ℕ → Bool
is_misspelled ds = nat_lt (length ds) 1 || nat_lt 19 (length ds) || (slice_index ds 0 == 48 && nat_lt 1 (length ds))

-- a decimal number at the front, and what follows it
abbrev pub number_at : List ℕ → Option (ℕ × List ℕ)
number_at t = if is_misspelled (leading_digits t) then None else Some (number_on 0 (leading_digits t), behind_digits t)

-- the next number, and what follows it
abbrev pub next_number : List ℕ → Option (ℕ × List ℕ)
next_number t = number_at (from_digit t)

-- reading goes on behind a word, or with a value that was read
abbrev pub then_behind : {B : Type 0} → Option (List ℕ) → (List ℕ → Option B) → Option B
then_behind None f = None
then_behind (Some t) f = f t

abbrev pub then_with : {A B : Type 0} → Option (A × List ℕ) → (A → List ℕ → Option B) → Option B
then_with None f = None
then_with (Some p) f = f p.0 p.1

-- a word decides how the text behind it is read; another text is read otherwise
abbrev pub by_word : {B : Type 0} → Option (List ℕ) → (List ℕ → Option B) → Option B → Option B
by_word None f other = other
by_word (Some t) f other = f t

-- a line without the blanks that don't count, by what stands before it
abbrev pub tight_behind : Gap → List ℕ → List ℕ
tight_behind Free line = tight_on true line
tight_behind Closed line = tight_on false line
tight_behind Open line = tight_pending line

-- what stands before a byte behind a blank, and behind a byte that is none
abbrev pub behind_blank : Gap → Gap
behind_blank Free = Free
behind_blank Closed = Open
behind_blank Open = Open

abbrev pub behind_byte : ℕ → Gap
behind_byte c = if c == 44 then Free else Closed

-- a byte, with the blank that counts before it
abbrev pub byte_behind_gap : Gap → ℕ → List ℕ
byte_behind_gap Free c = c ∷ []
byte_behind_gap Closed c = c ∷ []
byte_behind_gap Open c = 32 ∷ c ∷ []
