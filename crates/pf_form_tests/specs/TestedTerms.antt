-- Terms that are made by hand for tests of bounds.
use Rattle.std.specs.Prelude.{◌≡◌, true, false, slice_get}
use Rattle.pf_ints.specs.declared.lane.LaneType.{LaneType}
use Rattle.pf_ints.specs.declared.lane.Bits.TheVariants.{Eight, Sixteen}
use Rattle.pf_values.specs.declared.term.Term.{Term}
use Rattle.pf_values.specs.Meaning.Terms.{IsWellTyped, stated_type, typed_as}
use Rattle.pf_bounds.specs.declared.ranges.Ranges.{Ranges}
use Rattle.pf_bounds.specs.Meaning.TermBounds.{lies_in_type, are_ranges_of}

-- taps 0 and 1 are u8, tap 2 is i16
pub record HasRanges (r : Ranges) : Type 0 where
  pub first : lies_in_type (slice_get r.taps 0) (typed_as false Eight) ≡ true
  pub second : lies_in_type (slice_get r.taps 1) (typed_as false Eight) ≡ true
  pub third : lies_in_type (slice_get r.taps 2) (typed_as true Sixteen) ≡ true

-- a term of the type that is ready for its bounds
pub record IsTested (ty : LaneType) (t : Term) : Type 0 where
  pub typed : IsWellTyped t
  pub stated : stated_type t ≡ ty
  pub ranged : (r : Ranges) → HasRanges r → are_ranges_of r t ≡ true
