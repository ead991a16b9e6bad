-- A value that is stored as the output.
use Rattle.std.specs.Prelude.{◌≡◌, ℕ, ℤ, ◌<◌, List, [], ◌∷◌, ◌++◌, Some, slice_index}
use Rattle.pf_ints.specs.declared.lane.LaneType.{LaneType}
use Rattle.pf_ints.specs.declared.lane.Bits.{Bits}
use Rattle.pf_ints.specs.declared.lane.Bits.TheVariants.{Eight, Sixteen, ThirtyTwo}
use Rattle.pf_machine.specs.declared.block.Item.{Item}
use Rattle.pf_machine.specs.declared.block.Item.TheVariants.{OutStore}
use Rattle.pf_machine.specs.Meaning.Tables.{Table}
use Rattle.pf_layout.specs.Meaning.Orders.{place_of}
use Rattle.pf_blocks.specs.declared.kept.Kept.{Kept}
use Rattle.pf_blocks.specs.Meaning.Values.{Start, Holds}
use Rattle.pf_blocks.specs.Meaning.Growth.{IsOperation, Continues}

-- the stores of a value's vectors, one a part
abbrev pub stores_of : {O : Type 0} → Bits → List ℕ → List (Item O)
stores_of Eight ns = OutStore (slice_index ns 0) 0 ∷ []
stores_of Sixteen ns = OutStore (slice_index ns 0) 0 ∷ OutStore (slice_index ns 1) 1 ∷ []
stores_of ThirtyTwo ns = OutStore (slice_index ns 0) 0 ∷ OutStore (slice_index ns 1) 1 ∷ OutStore (slice_index ns 2) 2 ∷ OutStore (slice_index ns 3) 3 ∷ []

-- behind the block the value is put in the plain order, and then stored
pub record IsStored {O : Type 0} (t : Table O) (is_op : O → Type 0) (old : List (Item O)) (older : ℕ) (ty : LaneType) (value : Kept) (new : List (Item O)) : Type 0 where
  pub middle : List (Item O)
  pub names : ℕ
  pub kept : Kept
  pub goes : Continues t (IsOperation is_op) old older middle names 12 0
  pub plain : (ds : List ℕ) (p : ℕ) → kept.order ≡ Some ds → p < t.vector → place_of ds p ≡ p
  pub holds : (widths : List ℕ) (x : Start → ℕ → ℤ) → Holds t widths old older ty value x → Holds t widths middle names ty kept x
  pub stores : new ≡ middle ++ stores_of ty.bits kept.names
