-- What a writer holds that takes bytes piece by piece.
use Rattle.std.proofs.Common.{◌≡◌, ℕ, zero, suc, ◌+◌, List, [], ◌∷◌, ◌++◌, take, drop, Option, None, Some, refl, sym, ap, subst, ◌∙◌, arith, append-nil, append_assoc}
use Rattle.std.proofs.Math.Seq.{take-add}
use Rattle.std.proofs.lemmas.List.{drop-drop}
use Rattle.std.specs.Io.KnownBytes.{Appends, Keeps}

pub kept_appends : (a b : Option (List ℕ)) → Keeps a b → Appends a b []
kept_appends None b kept = tt
kept_appends (Some xs) None kept = kept
kept_appends (Some xs) (Some ys) kept = kept ∙ sym (append-nil xs)

pub nothing_appends : (a : Option (List ℕ)) → Appends a a []
nothing_appends None = tt
nothing_appends (Some xs) = sym (append-nil xs)

pub appends_then : (a b c : Option (List ℕ)) (first next : List ℕ) → Appends a b first → Appends b c next → Appends a c (first ++ next)
appends_then None b c first next p q = tt
appends_then (Some xs) None c first next p q = absurd p
appends_then (Some xs) (Some ys) None first next p q = absurd q
appends_then (Some xs) (Some ys) (Some zs) first next p q = q ∙ ap (λ l. l ++ next) p ∙ append_assoc xs first next

-- what was written so far, and what is left
abbrev pub SoFar : Option (List ℕ) → List ℕ → Option (List ℕ) → List ℕ → Type 0
SoFar old bytes now rest = (count : ℕ) × (rest ≡ drop count bytes) × Appends old now (take count bytes)

pub one_more : (old now new : Option (List ℕ)) (bytes rest next : List ℕ) (n : ℕ) → SoFar old bytes now rest → Appends now new (take n rest) → next ≡ drop n rest → SoFar old bytes new next
one_more old now new bytes rest next n so_far more is = (
  so_far.0 + n,
  is ∙ ap (drop n) so_far.1 ∙ drop-drop n so_far.0 bytes,
  subst (Appends old new) (sym (take-add so_far.0 n bytes)) (appends_then old now new (take so_far.0 bytes) (take n (drop so_far.0 bytes)) so_far.2 (subst (λ r. Appends now new (take n r)) so_far.1 more)),
)

none_left : (m : ℕ) (xs : List ℕ) → [] ≡ drop m xs → take m xs ≡ xs
none_left zero [] e = refl
none_left zero (x ∷ xs) e = absurd (cc)
none_left (suc m) [] e = refl
none_left (suc m) (x ∷ xs) e = ap (λ l. x ∷ l) (none_left m xs e)

pub all_written : (old now : Option (List ℕ)) (bytes rest : List ℕ) → rest ≡ [] → SoFar old bytes now rest → Appends old now bytes
all_written old now bytes rest none so_far = subst (Appends old now) (none_left so_far.0 bytes (sym none ∙ so_far.1)) so_far.2

-- a failed write appended nothing more
pub cut_short : (old now new : Option (List ℕ)) (bytes rest : List ℕ) → SoFar old bytes now rest → Appends now new [] → (count : ℕ) × Appends old new (take count bytes)
cut_short old now new bytes rest so_far kept =
    (so_far.0, subst (Appends old new) (append-nil (take so_far.0 bytes)) (appends_then old now new (take so_far.0 bytes) [] so_far.2 kept))
