-- Definitions whose terms may be lifted.
use Rattle.std.specs.Prelude.{◌≡◌, true}
use Rattle.pf_values.specs.declared.kernel.Definition.{Definition}
use Rattle.pf_values.specs.Meaning.Terms.{IsWellTyped}
use Rattle.pf_bounds.specs.declared.ranges.Ranges.{Ranges}
use Rattle.pf_bounds.specs.Meaning.TermBounds.{are_ranges_of}

-- a well-typed term whose leaves have ranges
pub record IsRanged (ranges : Ranges) (d : Definition) : Type 0 where
  pub typed : IsWellTyped d.term
  pub entries : are_ranges_of ranges d.term ≡ true
