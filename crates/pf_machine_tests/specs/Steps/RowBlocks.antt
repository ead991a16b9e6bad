-- Blocks of neon that are made by hand.
use Rattle.std.specs.Prelude.{ℕ, List, [], ◌∷◌, ◌++◌}
use Rattle.pf_machine.specs.declared.block.Item.{Item}
use Rattle.pf_machine.specs.declared.block.Item.TheVariants.{Vector, TapLoad, OutStore, SlotLoad, SlotStore}
use Rattle.pf_tables.specs.declared.instruction.Instruction.{Instruction}
use Rattle.pf_tables.specs.declared.instruction.Instruction.TheVariants.{Binary}
use Rattle.pf_neon.specs.declared.mnemonic.Mnemonic.TheVariants.{Umin16b}
use Rattle.pf_neon.specs.Meaning.Rows.{place}

-- both parts of a tap of two bytes go to the output
abbrev pub copy_block : List (Item Instruction)
copy_block = TapLoad 3 0 0 ∷ OutStore 3 0 ∷ TapLoad 2 0 1 ∷ OutStore 2 1 ∷ []

-- two taps go to slots
abbrev pub kept_taps : List (Item Instruction)
kept_taps = TapLoad 0 0 0 ∷ SlotStore 0 1 ∷ TapLoad 0 15 0 ∷ SlotStore 0 0 ∷ []

abbrev pub lesser : (to left right : ℕ) → Instruction
lesser to left right = Binary (place Umin16b) (record { to = to; left = left; right = right })

-- the least bytes of these and of a third tap
abbrev pub least_block : List (Item Instruction)
least_block = kept_taps ++ (SlotLoad 2 1 ∷ SlotLoad 3 0 ∷ Vector (lesser 2 2 3) ∷ TapLoad 1 16 0 ∷ Vector (lesser 2 2 1) ∷ OutStore 2 0 ∷ [])
