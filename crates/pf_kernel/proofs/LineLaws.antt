-- What a line says goes by its tokens.
use Rattle.std.proofs.Common.{◌≡◌, sym, subst, ℕ, zero, suc, ◌+◌, ◌-◌, ◌≤◌, List, length, drop, arith, length-drop}
use Rattle.std.specs.Prelude.{Ok, Err, Some, None, Option, MatchOption, slice_get}
use Rattle.std.proofs.lemmas.List.{length-map}
use Rattle.pf_terms.specs.declared.meaning.ReadFault.TheVariants.{Syntax}
use Rattle.pf_terms.specs.declared.token.Token.{Token}
use Rattle.pf_terms.specs.Meaning.Tokens.{kinds, token_place, token_place_by, IsLexed, at_end, blank, token}
use Rattle.pf_terms.proofs.Lexing.{front_within}
use Rattle.pf_kernel.specs.declared.front.Front.{Front}
use Rattle.pf_kernel.specs.Steps.Fronts.{front_of}
use Rattle.pf_kernel.specs.Meaning.Lines.{Begun, IsShape, may_stand, told_at, end_of, end_by, IsTokensFault, front}
use Rattle.pf_kernel.proofs.Shapes.{shaped}
use Rattle.pf_kernel.proofs.FrontFaults.{front_fault}

-- ---- tokens stand in their text
pub record IsWithin (most : ℕ) (t : Token) : Type 0 where
  pub start : t.start ≤ most
  pub end : t.end ≤ most

all_within : (n most : ℕ) (text : List ℕ) (ts : List Token) → IsLexed n text ts → n + length text ≤ most → (k : ℕ) → MatchOption (slice_get ts k) (Unit {0}) (IsWithin most)
all_within n most _ _ (at_end _) le k = tt
all_within n most _ ts (blank _ b text _ is h) le k = all_within (n + 1) most text ts h (omega arith) k
all_within n most text _ (token _ size _ kind ts solid first h) le zero =
    let fits = front_within text size kind first in
    record { start = omega arith; end = omega (arith, fits.1) }
all_within n most text _ (token _ size _ kind ts solid first h) le (suc k) =
    let fits = front_within text size kind first in
    all_within (n + size) most (drop size text) ts h (omega (arith, fits.1, length-drop size text)) k

place_within : (most : ℕ) (a b : Option Token) → MatchOption a (Unit {0}) (IsWithin most) → MatchOption b (Unit {0}) (IsWithin most) → token_place_by a b ≤ most
place_within most (Some t) b h k = h.start
place_within most None (Some t) h k = k.end
place_within most None None h k = omega arith

end_within : (most : ℕ) (a : Option Token) → MatchOption a (Unit {0}) (IsWithin most) → end_by a ≤ most
end_within most (Some t) h = h.end
end_within most None h = omega arith

pub place_fits : (text : List ℕ) (ts : List Token) (n : ℕ) → IsLexed 0 text ts → token_place ts n ≤ length text
place_fits text ts n h = place_within (length text) _ _ (all_within 0 (length text) text ts h (omega arith) n) (all_within 0 (length text) text ts h (omega arith) (length ts - 1))

pub end_fits : (text : List ℕ) (ts : List Token) (n : ℕ) → IsLexed 0 text ts → end_of ts n ≤ length text
end_fits text ts n h = end_within (length text) _ (all_within 0 (length text) text ts h (omega arith) n)

-- ---- what is told of the front
pub front_told : (b : Begun) (text : List ℕ) (ts : List Token) (n column : ℕ) → Err n ≡ front_of (may_stand b) (kinds ts) → 1 ≤ length ts → column ≡ token_place ts (told_at (kinds ts) n) + 1 → IsTokensFault b text ts (Syntax column)
front_told b text ts n column e some is =
    let long : length (kinds ts) ≡ length ts = length-map ts (λ t. t.kind) in
    subst (λ (c : ℕ). IsTokensFault b text ts (Syntax c)) (sym is) (front n (front_fault b (kinds ts) n (omega arith) (sym e)))

pub front_shape : (b : Begun) (ts : List Token) (f : Front) → Ok f ≡ front_of (may_stand b) (kinds ts) → IsShape b (kinds ts) f
front_shape b ts f e = shaped b (kinds ts) f (sym e)
