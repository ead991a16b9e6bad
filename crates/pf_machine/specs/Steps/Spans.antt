-- Bytes inside a region, as numbers.
use Rattle.std.specs.Prelude.{ℕ, ◌+◌, ◌≤◌, length}
use Rattle.pf_machine.specs.declared.memory.Region.{Region}

-- all n bytes from the address on lie in the region
pub record Spans (address n : ℕ) (r : Region) : Type 0 where
  pub low : r.start ≤ address
  pub high : address + n ≤ r.start + length r.bytes
