-- The bits of a number that is less than a modulus away from them.
use Rattle.std.proofs.Common.{◌≡◌, ℕ, ℤ, pos, negsuc, ◌<◌, ◌%◌, arith, refl}
use Rattle.std.proofs.Math.Nat.{mod-eq_of_lt}
use Rattle.std.proofs.lemmas.Int.{ints}
use Rattle.std.specs.Prelude.{◌+ℤ◌, ◌<ℤ◌, ◌≤ℤ◌}
use Rattle.pf_ints.specs.Meaning.Whole.{floor_mod}
use Rattle.pf_ints.proofs.Floor.{division_is}

pub residue_same : (z : ℤ) (m r : ℕ) → z ≡ pos r → r < m → r ≡ floor_mod z m
residue_same z m r e less = let d = division_is z (pos 0) m r less (grind (arith, ints)) in grind (arith, d.1)

pub residue_next : (z : ℤ) (m r : ℕ) → z +ℤ pos m ≡ pos r → r < m → r ≡ floor_mod z m
residue_next z m r e less = let d = division_is z (negsuc 0) m r less (grind (arith, ints)) in grind (arith, d.1)
