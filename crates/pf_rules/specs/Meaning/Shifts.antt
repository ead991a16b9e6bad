-- What is told of a rule without shifts at a width.
use Rattle.std.specs.Prelude.{◌≡◌, ℕ, Option, Some}
use Rattle.pf_rules.specs.declared.shifts.PairsFault.{PairsFault}
use Rattle.pf_rules.specs.declared.shifts.PairsFault.TheVariants.{Shift, Memory}

-- the fault tells the first width without shifts, or want of memory
abbrev pub TellsShift : PairsFault → Option ℕ → Type 0
TellsShift (Shift w) bad = bad ≡ Some w
TellsShift Memory bad = Unit {0}
