-- Division that rounds down: there is one quotient and one rest.
use Rattle.std.proofs.Common.{◌≡◌, sym, ◌∙◌, ℕ, ◌+◌, ◌<◌, ℤ, pos, negsuc, ◌+ℤ◌, ◌*ℤ◌, arith}
use Rattle.std.proofs.lemmas.Int.{ints}
use Rattle.std.proofs.lemmas.Nat.{same_from_place, mod_below}
use Rattle.std.proofs.Math.Nat.{div-add-mod}
use borrow.Author.Differences.{up, down, same_in}
use Rattle.pf_ints.specs.Meaning.Whole.{floor_div, floor_mod}

-- the rest is below the divisor
pub floor_mod_below : (z : ℤ) (m : ℕ) → 0 < m → floor_mod z m < m
floor_mod_below (pos a) m some = mod_below a m some
floor_mod_below (negsuc a) m some = omega arith

-- quotient and rest make the number
pub floor_split : (z : ℤ) (m : ℕ) → 0 < m → z ≡ floor_div z m *ℤ pos m +ℤ pos (floor_mod z m)
floor_split (pos a) m some = omega (arith, ints, div-add-mod a m)
floor_split (negsuc a) m some = omega (arith, ints, div-add-mod a m, mod_below a m some)

-- two quotients and rests of one number are the same
pub same_division : (a b : ℤ) (m r s : ℕ) → r < m → s < m → a *ℤ pos m +ℤ pos r ≡ b *ℤ pos m +ℤ pos s → (a ≡ b) × (r ≡ s)
same_division a b m r s below_r below_s same =
    let places : (up a + down b ≡ up b + down a) × (r ≡ s) =
    same_from_place (up a + down b) r (up b + down a) s m below_r below_s (omega (arith, ints, same)) in
    (same_in a b places.0, places.1)

-- what splits a number so is its quotient and its rest
pub division_is : (z q : ℤ) (m r : ℕ) → r < m → z ≡ q *ℤ pos m +ℤ pos r → (floor_div z m ≡ q) × (floor_mod z m ≡ r)
division_is z q m r below split =
    let some : 0 < m = omega arith in
    same_division (floor_div z m) q m (floor_mod z m) r (floor_mod_below z m some) below (sym (floor_split z m some) ∙ split)
