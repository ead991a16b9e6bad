-- Lines of assembly text, and which differences between two lines don't count.
use Rattle.std.specs.Prelude.{◌≡◌, ◌≢◌, ℕ, List, [], ◌∷◌, Bool, true, ◌||◌, ◌==◌, if◌then◌else◌, All, Some, None}
use Rattle.std.specs.List.{last_or}

-- a space or a TAB
abbrev pub is_blank : ℕ → Bool
is_blank c = c == 32 || c == 9

-- A line without the blanks that don't count: those at its ends and behind a comma, and all but one of others.
-- `free`: blanks don't count here; `pending`: blanks stand before what comes next.
abbrev mutual
  pub tight_on : Bool → List ℕ → List ℕ
  tight_on free [] = []
  tight_on free (c ∷ cs) = if is_blank c then (if free then tight_on true cs else tight_pending cs) else c ∷ tight_on (c == 44) cs

  pub tight_pending : List ℕ → List ℕ
  tight_pending [] = []
  tight_pending (c ∷ cs) = if is_blank c then tight_pending cs else 32 ∷ c ∷ tight_on (c == 44) cs

unfoldable pub tight : List ℕ → List ℕ
tight line = tight_on true line

-- the line is this printed one, up to blanks
abbrev pub IsLine : List ℕ → List ℕ → Type 0
IsLine line printed = tight line ≡ tight printed

-- a byte that ends no line and begins no comment
abbrev pub IsPlain : ℕ → Type 0
IsPlain c = (c ≢ 10) × (c ≢ 13) × (c ≢ 47)

-- an instruction's line: it is not blank, has no end of a line and no comment, and doesn't end as a label does
pub record IsInstruction (line : List ℕ) : Type 0 where
  pub plain : All IsPlain line
  pub some : tight line ≢ []
  pub no_label : last_or None (tight line) ≢ Some 58
