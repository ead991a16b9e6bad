-- Ranges that have an entry for each name.
use Rattle.std.specs.Prelude.{◌≡◌, ℕ, ◌<◌, true, List, ◌++◌, length, map, slice_get, slice_index_or}
use Rattle.pf_ints.specs.declared.lane.LaneType.{LaneType}
use Rattle.pf_values.specs.declared.kernel.Definition.{Definition}
use Rattle.pf_values.specs.declared.names.Names.{Names}
use Rattle.pf_values.specs.Meaning.NamedTerms.{is_named_tap, no_tap, no_def}
use Rattle.pf_values.specs.Meaning.Terms.{same_type}
use Rattle.pf_bounds.specs.declared.ranges.Ranges.{Ranges}
use Rattle.pf_bounds.specs.Meaning.TermBounds.{lies_in_type}
use Rattle.pf_leaves.specs.Meaning.Leaves.{AreDefined, def_name}

-- each tap and each definition of the names has a range, which lies in its type
pub record AreEntries (names : Names) (ranges : Ranges) : Type 0 where
  pub taps : (n : ℕ) (ty : LaneType) → n < length names.taps → is_named_tap names.images (slice_index_or names.taps n no_tap) ty ≡ true → lies_in_type (slice_get ranges.taps n) ty ≡ true
  pub defs : (n : ℕ) (ty : LaneType) → n < length names.defs → same_type (slice_index_or names.defs n no_def).ty ty ≡ true → lies_in_type (slice_get ranges.defs n) ty ≡ true
  pub count : length ranges.defs ≡ length names.defs

-- the names, and behind them these definitions
abbrev pub with_defs : Names → List Definition → Names
with_defs names ds = record names { defs = names.defs ++ map def_name ds }

-- definitions that may follow on these ranges
abbrev pub MayFollow : Ranges → List Definition → Type 0
MayFollow ranges ds = (names : Names) × AreEntries names ranges × AreDefined names ds
