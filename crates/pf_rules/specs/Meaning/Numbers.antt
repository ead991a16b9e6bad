-- Numbers that depend on the width w and the shift k.
use Rattle.std.specs.Prelude.{ℕ, ℤ, pos, negsuc, neg_ℤ, ◌^◌, ◌+ℤ◌, ◌*ℤ◌, int_le, Bool, ◌&&◌, if◌then◌else◌, List, [], ◌∷◌, map, Option, Some, None, option_and_then, option_map}
use Rattle.pf_ints.specs.Meaning.Ranges.{Includes, range, furthest}
use Rattle.pf_rules.specs.declared.number.LinOf.{LinOf}
use Rattle.pf_rules.specs.declared.number.LinOf.TheVariants as of
use Rattle.pf_rules.specs.declared.number.LinPart.{LinPart}
use Rattle.pf_rules.specs.declared.number.Amount.{Amount}
use Rattle.pf_rules.specs.declared.number.Amount.TheVariants as amount
use Rattle.pf_rules.specs.declared.number.NumberItem.{NumberItem}
use Rattle.pf_rules.specs.declared.number.NumberItem.TheVariants as item
use Rattle.pf_rules.specs.declared.number.NumberPart.{NumberPart}
use Rattle.pf_rules.specs.declared.number.Number.{Number}

-- a number that is at most 2 ^ 120 from 0, else none
abbrev pub limited : ℤ → Option ℤ
limited n = if int_le (neg_ℤ furthest) n && int_le n furthest then Some n else None

abbrev pub with_sign : Bool → ℤ → ℤ
with_sign minus n = if minus then neg_ℤ n else n

-- s and the numbers together, taken from the left; none where one has no value, or a sum on the way is too far from 0
abbrev pub sum_from : ℤ → List (Option ℤ) → Option ℤ
sum_from s [] = Some s
sum_from s (None ∷ ns) = None
sum_from s (Some n ∷ ns) = option_and_then (λ t. sum_from t ns) (limited (s +ℤ n))

abbrev pub unit_at : ℕ → ℕ → LinOf → ℤ
unit_at w k of.One = pos 1
unit_at w k of.W = pos w
unit_at w k of.K = pos k

abbrev pub linear_part_at : ℕ → ℕ → LinPart → Option ℤ
linear_part_at w k p = option_map (with_sign p.minus) (limited (p.times *ℤ unit_at w k p.of))

-- the value of an amount or an exponent
abbrev pub amount_at : ℕ → ℕ → Amount → Option ℤ
amount_at w k (amount.Int n) = Some n
amount_at w k amount.W = Some (pos w)
amount_at w k amount.K = Some (pos k)
amount_at w k (amount.Linear parts) = sum_from (pos 0) (map (linear_part_at w k) parts)

-- a multiple of a power of two; none where the exponent is negative
abbrev pub power_at : ℤ → ℤ → Option ℤ
power_at times (pos e) = limited (times *ℤ pos (2 ^ e))
power_at times (negsuc e) = None

abbrev pub item_at : ℕ → ℕ → NumberItem → Option ℤ
item_at w k (item.Int n) = Some n
item_at w k (item.Power times exponent) = option_and_then (power_at times) (amount_at w k exponent)
item_at w k item.W = Some (pos w)
item_at w k item.K = Some (pos k)

abbrev pub part_at : ℕ → ℕ → NumberPart → Option ℤ
part_at w k p = option_map (with_sign p.minus) (item_at w k p.item)

-- the value of a number; none where one of its parts, or the sum of its first parts, has none
abbrev pub number_at : ℕ → ℕ → Number → Option ℤ
number_at w k n = sum_from (pos 0) (map (part_at w k) n.parts)

-- what limited numbers are
abbrev pub IsLimited : ℤ → Type 0
IsLimited n = Includes (range (neg_ℤ furthest) furthest) n
