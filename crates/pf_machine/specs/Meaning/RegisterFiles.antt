-- The register file, and what an instruction does to it: it takes what its uses hold to what its defs then hold.
use Rattle.std.specs.Prelude.{ℕ, ◌<◌, List, [], ◌∷◌, map, nat_lt, ◌==◌, if◌then◌else◌, slice_set, slice_index, slice_index_or}
use Rattle.pf_machine.specs.declared.registers.Reg.{Reg}
use Rattle.pf_machine.specs.declared.registers.Reg.TheVariants.{V, K, Q}
use Rattle.pf_machine.specs.declared.registers.RegFile.{RegFile}

-- what a register holds: a vector its bytes, the constant register one number, the predicate a 0 or 1 for each byte
abbrev pub read : RegFile → Reg → List ℕ
read f (V n) = slice_index_or f.vectors n []
read f K = f.k ∷ []
read f Q = map (λ b. if b then 1 else 0) f.q

-- the file in which the register holds this
abbrev pub write : RegFile → Reg → List ℕ → RegFile
write f (V n) held = record f { vectors = slice_set f.vectors n held }
write f K held = record f { k = slice_index held 0 }
write f Q held = record f { q = map (λ n. nat_lt 0 n) held }

abbrev pub reads : RegFile → List Reg → List (List ℕ)
reads f rs = map (λ r. read f r) rs

abbrev pub writes : RegFile → List Reg → List (List ℕ) → RegFile
writes f [] held = f
writes f (r ∷ rs) [] = f
writes f (r ∷ rs) (h ∷ hs) = writes (write f r h) rs hs

-- the file has the register
abbrev pub IsRegisterOf : ℕ → Reg → Type 0
IsRegisterOf count (V n) = n < count
IsRegisterOf count K = Unit {0}
IsRegisterOf count Q = Unit {0}

-- the name of a vector, where `to` stands for `from`
abbrev pub renamed_vector : ℕ → ℕ → ℕ → ℕ
renamed_vector from to n = if n == from then to else n

abbrev pub renamed_register : ℕ → ℕ → Reg → Reg
renamed_register from to (V n) = V (renamed_vector from to n)
renamed_register from to K = K
renamed_register from to Q = Q

-- the register, where a function gives each vector's name
abbrev pub register_by : (ℕ → ℕ) → Reg → Reg
register_by f (V n) = V (f n)
register_by f K = K
register_by f Q = Q
