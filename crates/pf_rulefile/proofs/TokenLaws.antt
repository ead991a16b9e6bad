-- The first token of a text, and those behind it.
use Rattle.std.proofs.Common.{◌≡◌, refl, sym, ap, ◌∙◌, subst, ℕ, suc, ◌+◌, ◌-◌, ◌*◌, ◌<◌, ◌≤◌, List, [], ◌∷◌, true, false, arith, ⊎_elim, take, drop, length, get_or, add-one}
use Rattle.std.specs.Prelude.{All}
use Rattle.std.specs.List.{list_all}
use Rattle.std.proofs.lemmas.Bool.{cases_Bool, and_parts}
use Rattle.std.proofs.lemmas.Bool.Decides.{nat_tests}
use Rattle.std.proofs.lemmas.List.Elements.{All-nil, All-cons}
use Rattle.pf_text.proofs.LineLaws.{rest_is}
use Rattle.pf_text.specs.Meaning.Lines.{is_blank}
use Rattle.pf_text.specs.Steps.Scan.{number_on}
use Rattle.pf_text.specs.Meaning.Words.{is_digit}
use Rattle.pf_rulefile.specs.Meaning.Tokens.{sticks, longer, tokens, digits_behind}
use Rattle.pf_rulefile.specs.Steps.Fronts.{stuck, behind_stuck, from_solid, IsSolid}

pub solid_tokens : (text : List ℕ) → tokens (from_solid text) ≡ tokens text
solid_tokens [] = refl
solid_tokens (c ∷ cs) =
    ⊎_elim
    (λ (e : is_blank c ≡ true). rw e (solid_tokens cs))
    (λ (e : is_blank c ≡ false). rw e (rw e refl))
    (cases_Bool (is_blank c))

pub solid_first : (text : List ℕ) → IsSolid (from_solid text)
solid_first [] = tt
solid_first (c ∷ cs) =
    ⊎_elim
    (λ (e : is_blank c ≡ true). rw e (solid_first cs))
    (λ (e : is_blank c ≡ false). rw e e)
    (cases_Bool (is_blank c))

-- what belongs to a token is no blank
pub sticks_solid : (c d : ℕ) → sticks c d ≡ true → is_blank d ≡ false
sticks_solid c d h = grind (arith, nat_tests)

pub first_token : (c : ℕ) (cs : List ℕ) → is_blank c ≡ false → tokens (c ∷ cs) ≡ (c ∷ stuck c cs) ∷ tokens (behind_stuck c cs)
first_token c [] e = rw e refl
first_token c (d ∷ cs) e =
    ⊎_elim
    (λ (h : sticks c d ≡ true). let rest = first_token d cs (sticks_solid c d h) in rw (e, h) (ap (longer c) rest))
    (λ (h : sticks c d ≡ false). rw (e, h) refl)
    (cases_Bool (sticks c d))

pub all_digits : (w : List ℕ) → list_all is_digit w ≡ true → All (λ c. is_digit c ≡ true) w
all_digits [] h = All-nil (λ c. is_digit c ≡ true)
all_digits (c ∷ cs) h =
    let parts = and_parts (is_digit c) (list_all is_digit cs) h in
    All-cons (λ c. is_digit c ≡ true) c cs parts.0 (all_digits cs parts.1)

module _ (text : List ℕ) where
  pub no_token : (solid : List ℕ) → solid ≡ from_solid text → length solid < 1 → tokens text ≡ []
  no_token [] e h = sym (solid_tokens text) ∙ ap tokens (sym e)
  no_token (c ∷ cs) e h = absurd (omega arith)

  pub token_in_front : (solid : List ℕ) (n : ℕ) → solid ≡ from_solid text → 1 ≤ length solid → n ≤ length (take (length solid - 1) (drop 1 solid)) →
      stuck (get_or solid 0 0) (take (length solid - 1) (drop 1 solid)) ≡ take n (take (length solid - 1) (drop 1 solid)) →
      behind_stuck (get_or solid 0 0) (take (length solid - 1) (drop 1 solid)) ≡ drop n (take (length solid - 1) (drop 1 solid)) →
      tokens text ≡ take (n + 1) solid ∷ tokens (take (length solid - (n + 1)) (drop (n + 1) solid))
  token_in_front [] n e some within front behind = absurd (omega arith)
  token_in_front (c ∷ cs) n e some within front behind =
      let rest : take (length (c ∷ cs) - 1) (drop 1 (c ∷ cs)) ≡ cs = rest_is (c ∷ cs) 1 in
      let blank : is_blank c ≡ false = subst IsSolid (sym e) (solid_first text) in
      let f : stuck c cs ≡ take n cs = rw rest at front in
      let b : behind_stuck c cs ≡ drop n cs = rw rest at behind in
      sym (solid_tokens text) ∙ ap tokens (sym e) ∙ first_token c cs blank
      ∙ ap (λ (w : List ℕ). (c ∷ w) ∷ tokens (behind_stuck c cs)) f
      ∙ ap (λ (us : List ℕ). (c ∷ take n cs) ∷ tokens us) (b ∙ same_end n)
      ∙ same_front n
    where
      same_end : (n : ℕ) → drop n cs ≡ take (length (c ∷ cs) - (n + 1)) (drop (n + 1) (c ∷ cs))
      same_end n = rw add-one (sym (rest_is (c ∷ cs) (suc n)))

      same_front : (n : ℕ) → (c ∷ take n cs) ∷ tokens (take (length (c ∷ cs) - (n + 1)) (drop (n + 1) (c ∷ cs))) ≡ take (n + 1) (c ∷ cs) ∷ tokens (take (length (c ∷ cs) - (n + 1)) (drop (n + 1) (c ∷ cs)))
      same_front n = ap (λ (w : List ℕ). w ∷ tokens (take (length (c ∷ cs) - (n + 1)) (drop (n + 1) (c ∷ cs)))) (rw add-one refl)

pub digits_same : (n : ℕ) (w : List ℕ) → number_on n w ≡ digits_behind n w
digits_same n [] = refl
digits_same n (c ∷ cs) = digits_same (10 * n + (c - 48)) cs
