-- Vectors that an instruction names, under other names.
use Rattle.std.specs.Prelude.{ℕ}
use Rattle.pf_machine.specs.Meaning.RegisterFiles.{renamed_vector}
use Rattle.pf_lanes.specs.declared.registers.Double.{Double}
use Rattle.pf_lanes.specs.declared.registers.Triple.{Triple}
use Rattle.pf_lanes.specs.declared.registers.Transfer.{Transfer}

abbrev pub renamed_double : ℕ → ℕ → Double → Double
renamed_double old new r = record { to = renamed_vector old new r.to; from = renamed_vector old new r.from }

abbrev pub renamed_triple : ℕ → ℕ → Triple → Triple
renamed_triple old new r = record { to = renamed_vector old new r.to; left = renamed_vector old new r.left; right = renamed_vector old new r.right }

abbrev pub renamed_transfer : ℕ → ℕ → Transfer → Transfer
renamed_transfer old new r = record { vector = renamed_vector old new r.vector; base = r.base; j = r.j }
