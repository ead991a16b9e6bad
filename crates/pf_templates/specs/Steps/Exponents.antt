-- An exponent that is judged.
use Rattle.std.specs.Prelude.{◌≡◌, ℕ, true, false, nat_lt, Result, Ok, Err}
use Rattle.pf_templates.specs.declared.fault.BuildFault.{BuildFault}
use Rattle.pf_templates.specs.declared.fault.BuildFault.TheVariants.{TooWide, Memory}

-- the exponent, where it is within the limits of forms
abbrev pub IsExponent : Result ℕ BuildFault → ℕ → Type 0
IsExponent (Ok k) e = (nat_lt e 120 ≡ true) × (k ≡ e)
IsExponent (Err TooWide) e = nat_lt e 120 ≡ false
IsExponent (Err Memory) e = Unit {0}
