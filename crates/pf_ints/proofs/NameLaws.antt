-- Bytes over zeros are a name.
use Rattle.std.proofs.Common.{ℕ, ◌≤◌, List, length, drop, ◌++◌, refl, arith}
use Rattle.std.specs.Prelude.{replicate}
use Rattle.std.proofs.lemmas.List.{take_at, drop-replicate, length-append, length-drop, length-replicate}
use Rattle.pf_ints.specs.Steps.Names.{IsPadded}

-- bytes that are written over zeros
pub padded_from : (xs : List ℕ) → 1 ≤ length xs → length xs ≤ 32 → IsPadded (length xs) (xs ++ drop (length xs) (replicate 32 0))
padded_from xs some most =
    record {
      some = some;
      most = most;
      long = omega (arith, length-append xs (drop (length xs) (replicate 32 0)), length-drop (length xs) (replicate {A = ℕ} 32 0), length-replicate {A = ℕ} 32 0);
      zeros = rw (take_at xs (drop (length xs) (replicate 32 0)) (length xs) refl, drop-replicate) refl;
    }
