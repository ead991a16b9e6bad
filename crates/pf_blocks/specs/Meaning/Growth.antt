-- What is appended to a block.
use Rattle.std.specs.Prelude.{◌≡◌, ℕ, ◌+◌, ◌<◌, ◌≤◌, List, [], ◌∷◌, ◌++◌, map, sum, All, Contains, slice_get, Some}
use Rattle.pf_ints.specs.declared.lane.LaneType.{LaneType}
use Rattle.pf_machine.specs.declared.block.Item.{Item}
use Rattle.pf_machine.specs.declared.block.Item.TheVariants.{Vector, TapLoad, OutStore, SlotLoad, SlotStore}
use Rattle.pf_machine.specs.declared.registers.Reg.{Reg}
use Rattle.pf_machine.specs.declared.registers.Reg.TheVariants.{V}
use Rattle.pf_machine.specs.Meaning.Tables.{Table}
use Rattle.pf_machine.specs.Meaning.Blocks.{IsWithin}
use Rattle.pf_lanes.specs.Meaning.Lanes.{bytes_of}
use Rattle.pf_laneops.specs.declared.lane_item.LaneItem.{LaneItem}
use Rattle.pf_laneops.specs.declared.lane_item.LaneItem.TheVariants.{Tap}

-- what a block's operations cost together
abbrev pub step_cost : {O : Type 0} → Table O → Item O → ℕ
step_cost t (Vector op) = t.cost op
step_cost t _ = 0

abbrev pub cost_of : {O : Type 0} → Table O → List (Item O) → ℕ
cost_of t block = sum (map (step_cost t) block)

-- the registers that a step may change
abbrev pub step_defs : {O : Type 0} → Table O → Item O → List Reg
step_defs t (Vector op) = t.defs op
step_defs t (TapLoad to tap part) = V to ∷ []
step_defs t (OutStore from part) = []
step_defs t (SlotLoad to slot) = V to ∷ []
step_defs t (SlotStore from slot) = []

-- it is an operation of the table
abbrev pub IsOperation : {O : Type 0} → (O → Type 0) → Item O → Type 0
IsOperation is_op (Vector op) = is_op op
IsOperation is_op _ = ⊥

-- it is an operation of the table, or loads a part of a tap that the items have
abbrev pub IsOperationOrLoad : {O : Type 0} → (O → Type 0) → List LaneItem → Item O → Type 0
IsOperationOrLoad is_op items (Vector op) = is_op op
IsOperationOrLoad is_op items (TapLoad to tap part) = (n : ℕ) × (ty : LaneType) × (slice_get items n ≡ Some (Tap tap ty)) × (part < bytes_of ty)
IsOperationOrLoad is_op items _ = ⊥

-- a step is such as is asked, names vectors below a bound, and changes none of the older names
pub record IsOwn {O : Type 0} (t : Table O) (is : Item O → Type 0) (older names : ℕ) (item : Item O) : Type 0 where
  pub kind : is item
  pub within : IsWithin t names 0 item
  pub fresh : (n : ℕ) → t.vectors ≤ n → n < older → Contains (step_defs t item) (V n) → ⊥

-- the new block is the old one and steps of a kind behind it, which make at most so many new names and cost at most so much
pub record Continues {O : Type 0} (t : Table O) (is : Item O → Type 0) (old : List (Item O)) (older : ℕ) (new : List (Item O)) (names : ℕ) (room work : ℕ) : Type 0 where
  pub steps : List (Item O)
  pub items : new ≡ old ++ steps
  pub own : All (IsOwn t is older names) steps
  pub later : older ≤ names
  pub few : names ≤ older + room
  pub cost : cost_of t steps ≤ work
