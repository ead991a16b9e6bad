-- Words that are names.
use Rattle.std.proofs.Common.{◌≡◌, refl, ap, sym, ◌∙◌, ℕ, ◌≤◌, List, [], ◌∷◌, Bool, true, false, length, arith}
use Rattle.std.specs.Prelude.{Option, Some, None, IfSome, IsSome, ◌&&◌, not, nat_le}
use Rattle.std.proofs.lemmas.Bool.{and_parts}
use Rattle.std.proofs.lemmas.Bool.Decides.{nat_tests}
use Rattle.pf_text.specs.Meaning.Words.{is_name, is_spelled, is_reserved}
use Rattle.pf_rulefile.specs.Meaning.Words.{is_rule_name}
use Rattle.pf_rulefile.specs.Steps.FieldReads.{name_of}

name_size : (w : List ℕ) → is_name w ≡ true → (1 ≤ length w) × (length w ≤ 32)
unfolding is_name
name_size [] h = absurd (cc)
name_size (c ∷ w) h = (omega arith, grind (arith, nat_tests, and_parts (is_spelled (c ∷ w) && nat_le (length (c ∷ w)) 32) (not (is_reserved (c ∷ w))) h))

pub name_made : (w : List ℕ) (o : Option (List ℕ)) → is_rule_name w ≡ true → IfSome o (λ n. n ≡ w) → ((1 ≤ length w) × (length w ≤ 32) → IsSome o) → o ≡ name_of w
name_made w (Some n) h value some = ap Some value ∙ sym (rw h refl)
name_made w None h value some = absurd (let never : ◌≡◌ {A = Bool} false true = some (name_size w (and_parts (is_name w) _ h).0) in cc)
