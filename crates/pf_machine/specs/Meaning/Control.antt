-- Control instructions: which there are.
use Rattle.std.specs.Prelude.{ℕ, ◌<◌, ◌%◌, Bool, ◌&&◌, ◌||◌, nat_le, ◌==◌, IsTrue, if◌then◌else◌}
use Rattle.pf_text.specs.Meaning.Words.{is_name}
use Rattle.pf_machine.specs.declared.control.Control.{Control}
use Rattle.pf_machine.specs.declared.control.Control.TheVariants.{LoadPtr, StorePtr, Imm, AddImm, AddReg, LoadByte, LoadHalf, StoreByte, StoreHalf, Compare, Below, Jump, Return}

-- what may be added: 0 to 4095 or a multiple of 4096 up to 16773120, or less by 1 to 4095
abbrev pub is_offset : Bool → ℕ → Bool
is_offset down by = if down then nat_le 1 by && nat_le by 4095 else nat_le by 4095 || (by % 4096 == 0 && nat_le by 16773120)

-- registers are 0 to 7 by their roles, and labels are names
abbrev pub IsControl : Control → Type 0
IsControl (LoadPtr to base entry) = (to < 8) × (base < 8) × (entry < 256)
IsControl (StorePtr base entry from) = (base < 8) × (entry < 256) × (from < 8)
IsControl (Imm to n) = (to < 8) × (n < 65536)
IsControl (AddImm to from down by) = (to < 8) × (from < 8) × IsTrue (is_offset down by)
IsControl (AddReg to left right) = (to < 8) × (left < 8) × (right < 8)
IsControl (LoadByte to at) = (to < 8) × (at < 8)
IsControl (LoadHalf to at) = (to < 8) × (at < 8)
IsControl (StoreByte at from) = (at < 8) × (from < 8)
IsControl (StoreHalf at from) = (at < 8) × (from < 8)
IsControl (Compare left right) = (left < 8) × (right < 8)
IsControl (Below label) = IsTrue (is_name label)
IsControl (Jump label) = IsTrue (is_name label)
IsControl Return = Unit {0}
