-- Memory as a list of regions.
use Rattle.std.specs.Prelude.{ℕ, ◌+◌, ◌-◌, ◌≤◌, List, [], ◌++◌, length, take, drop, Bool, false, ◌&&◌, nat_le, Option, slice_index_or, slice_set, ◌⊎◌, position}
use Rattle.std.specs.Option.{option_map}
use Rattle.pf_machine.specs.declared.memory.Region.{Region}

-- all n bytes from the address on lie in the region
abbrev pub holds : ℕ → ℕ → Region → Bool
holds address n r = nat_le r.start address && nat_le (address + n) (r.start + length r.bytes)

-- the first region that holds the bytes and may be read, or written
abbrev pub readable : List Region → ℕ → ℕ → Option ℕ
readable regions address n = position (λ r. r.reads && holds address n r) regions

abbrev pub writable : List Region → ℕ → ℕ → Option ℕ
writable regions address n = position (λ r. r.writes && holds address n r) regions

-- n bytes of a region from the address on
abbrev pub bytes_at : Region → ℕ → ℕ → List ℕ
bytes_at r address n = take n (drop (address - r.start) r.bytes)

-- the region with other bytes from the address on
abbrev pub with_bytes : Region → ℕ → List ℕ → Region
with_bytes r address new = record r { bytes = take (address - r.start) r.bytes ++ (new ++ drop (address - r.start + length new) r.bytes) }

-- what stands in the list past its end
abbrev pub nowhere : Region
nowhere = record { start = 0; bytes = []; reads = false; writes = false }

-- the bytes of a load, where one region allows it
abbrev pub loaded : List Region → ℕ → ℕ → Option (List ℕ)
loaded regions address n = option_map (λ k. bytes_at (slice_index_or regions k nowhere) address n) (readable regions address n)

-- the regions after a store, where one region allows it
abbrev pub stored : List Region → ℕ → List ℕ → Option (List Region)
stored regions address new = option_map (λ k. slice_set regions k (with_bytes (slice_index_or regions k nowhere) address new)) (writable regions address (length new))

-- two regions share no address
abbrev pub Apart : Region → Region → Type 0
Apart r s = (r.start + length r.bytes ≤ s.start) ⊎ (s.start + length s.bytes ≤ r.start)
