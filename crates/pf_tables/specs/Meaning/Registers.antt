-- Vectors that an instruction names, under other names.
use Rattle.std.specs.Prelude.{ℕ}
use Rattle.pf_machine.specs.Meaning.RegisterFiles.{renamed_vector}
use Rattle.pf_lanes.specs.declared.registers.Double.{Double}
use Rattle.pf_lanes.specs.declared.registers.Triple.{Triple}
use Rattle.pf_lanes.specs.declared.registers.Transfer.{Transfer}
use Rattle.pf_tables.specs.declared.operands.Sources.{Sources}
use Rattle.pf_tables.specs.declared.operands.Ends.{Ends}

abbrev pub renamed_sources : ℕ → ℕ → Sources → Sources
renamed_sources old new r = record { left = renamed_vector old new r.left; right = renamed_vector old new r.right }

abbrev pub renamed_ends : ℕ → ℕ → Ends → Ends
renamed_ends old new r = record { low = renamed_vector old new r.low; high = renamed_vector old new r.high }

-- the same where a function gives all names
abbrev pub double_by : (ℕ → ℕ) → Double → Double
double_by f r = record { to = f r.to; from = f r.from }

abbrev pub triple_by : (ℕ → ℕ) → Triple → Triple
triple_by f r = record { to = f r.to; left = f r.left; right = f r.right }

abbrev pub transfer_by : (ℕ → ℕ) → Transfer → Transfer
transfer_by f r = record { vector = f r.vector; base = r.base; j = r.j }

abbrev pub sources_by : (ℕ → ℕ) → Sources → Sources
sources_by f r = record { left = f r.left; right = f r.right }

abbrev pub ends_by : (ℕ → ℕ) → Ends → Ends
ends_by f r = record { low = f r.low; high = f r.high }
