-- Tap 0 may be added to lane code of tap 0 alone.
use Rattle.std.proofs.Common.{◌≡◌, refl, sym, subst, ℕ, zero, suc, List, [], ◌∷◌, Some, ⊎_elim, true, arith}
use Rattle.std.specs.Prelude.{slice_get}
use Rattle.pf_laneops.specs.declared.lane_item.LaneItem.{LaneItem}
use Rattle.pf_laneops.specs.Meaning.LaneCodes.{CanAdd, tap_agrees}
use Rattle.pf_form_tests.specs.TestedCode.{byte_tap, HasAtMostTap}

can_first : CanAdd [] byte_tap
can_first = record { room = omega arith; own = refl; taps = λ n a e. absurd (cc) }

agrees : (n : ℕ) (a : LaneItem) → slice_get (byte_tap ∷ []) n ≡ Some a → tap_agrees a byte_tap ≡ true
agrees zero a e = let same : byte_tap ≡ a = cc in subst (λ b. tap_agrees b byte_tap ≡ true) same refl
agrees (suc n) a e = absurd (cc)

can_again : CanAdd (byte_tap ∷ []) byte_tap
can_again = record { room = omega arith; own = refl; taps = agrees }

pub can_tap : (items : List LaneItem) → HasAtMostTap items → CanAdd items byte_tap
can_tap items h = ⊎_elim (λ e. subst (λ xs. CanAdd xs byte_tap) (sym e) can_first) (λ e. subst (λ xs. CanAdd xs byte_tap) (sym e) can_again) h
