-- Names are kept with zeros behind them.
use Rattle.std.proofs.Common.{◌≡◌, ℕ, ◌-◌, ◌≤◌, List, length, take, ◌++◌, refl, arith}
use Rattle.std.specs.Prelude.{replicate}
use Rattle.std.proofs.lemmas.List.{length-take-le}
use Rattle.pf_ints.specs.declared.name.Name.TheInside.{Inside}

-- zeros up to 32 bytes
abbrev pub padded : List ℕ → List ℕ
padded bytes = bytes ++ replicate (32 - length bytes) 0

-- 1 to 32 bytes, and zeros after them
pub record IsPadded (count : ℕ) (bytes : List ℕ) : Type 0 where
  pub some : 1 ≤ count
  pub most : count ≤ 32
  pub long : length bytes ≡ 32
  pub zeros : take count bytes ++ replicate (32 - count) 0 ≡ bytes

-- a name's bytes give its fields back
pub padded_back : (a : Inside) → IsPadded a.count a.bytes → ◌≡◌ {A = Inside} (record { bytes = padded (take a.count a.bytes); count = length (take a.count a.bytes) }) a
padded_back a h =
    let size : length (take a.count a.bytes) ≡ a.count = length-take-le a.count a.bytes (omega (arith, h.long, h.most)) in
    rw (size, h.zeros) refl
