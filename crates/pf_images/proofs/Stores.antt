-- A map whose bytes of one name were set.
use Rattle.std.proofs.Common.{◌≡◌, ◌≢◌, ℕ, Bool, true, false, cond, List, Some, ◌∙◌, refl, sym}
use Rattle.std.specs.Map.{update}
use Rattle.std.specs.Str.{bytes_eq}
use Rattle.std.specs.Cmp.Lexicographic.{bytes_decides}
use Rattle.pf_images.specs.Meaning.Outside.{Contents, Puts}

-- a map of contents in which one name was set puts the bytes there
pub puts_from_set : (name bytes : List ℕ) (old new : Contents) → ((q : List ℕ) → new q ≡ update bytes_eq old name (Some bytes) q) → Puts name bytes old new
puts_from_set name bytes old new sets = record {
  there = sets name ∙ same (bytes_eq name name) refl;
  others = λ other differs. sets other ∙ kept other differs (bytes_eq name other) refl;
}
  where
    same : (b : Bool) → bytes_eq name name ≡ b → cond b (Some bytes) (old name) ≡ Some bytes
    same true _ = refl
    same false e = let yes : bytes_eq name name ≡ true = (bytes_decides name name).1 refl in cc

    kept : (other : List ℕ) → other ≢ name → (b : Bool) → bytes_eq name other ≡ b → cond b (Some bytes) (old other) ≡ old other
    kept other differs true e = absurd (differs (sym ((bytes_decides name other).0 e)))
    kept other differs false _ = refl
