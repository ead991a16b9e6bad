-- What stands in front of tokens, by what was read there.
use Rattle.std.proofs.Common.{◌≡◌, refl, ap, ◌∙◌, subst, ℕ, List, [], ◌∷◌, true, false, ⊎_elim}
use Rattle.std.specs.Prelude.{Option, Some, None, option_map, option_and_then}
use Rattle.std.specs.Str.{bytes_eq}
use Rattle.std.proofs.lemmas.Bool.{cases_Bool}
use Rattle.std.proofs.lemmas.Slice.Eq.{bytes_eq-Decides}
use Rattle.pf_rulefile.specs.Meaning.Grammar.{Tokens}
use Rattle.pf_rulefile.specs.Steps.Fronts.{after, sign_by}
use Rattle.pf_rulefile.specs.Steps.NumberReads.{then_read}
use Rattle.pf_rulefile.specs.Steps.SideReads.{on_behind}

pub given : {A : Type 0} (Q : A → Type 0) (x y : A) → ◌≡◌ {A = Option A} (Some x) (Some y) → Q x → Q y
given Q x y e q = let same : x ≡ y = cc in subst Q same q

pub then_is : {A B : Type 0} (r : Option (A × Tokens)) (f : A → Tokens → Option B) (y : B) → then_read r f ≡ Some y → (p : A × Tokens) × (r ≡ Some p) × (f p.0 p.1 ≡ Some y)
then_is None f y e = absurd (cc)
then_is (Some p) f y e = (p, refl, e)

pub behind_is : {B : Type 0} (r : Option Tokens) (f : Tokens → Option B) (y : B) → on_behind r f ≡ Some y → (ts : Tokens) × (r ≡ Some ts) × (f ts ≡ Some y)
behind_is None f y e = absurd (cc)
behind_is (Some ts) f y e = (ts, refl, e)

pub and_then_is : {A B : Type 0} (r : Option A) (f : A → Option B) (y : B) → option_and_then f r ≡ Some y → (x : A) × (r ≡ Some x) × (f x ≡ Some y)
and_then_is None f y e = absurd (cc)
and_then_is (Some x) f y e = (x, refl, e)

pub map_is : {A B : Type 0} (r : Option A) (f : A → B) (y : B) → option_map f r ≡ Some y → (x : A) × (r ≡ Some x) × (f x ≡ y)
map_is None f y e = absurd (cc)
map_is (Some x) f y e = (x, refl, cc)

pub after_is : (w : List ℕ) (ts us : Tokens) → after w ts ≡ Some us → ts ≡ w ∷ us
after_is w [] us e = absurd (cc)
after_is w (t ∷ ts) us e =
    ⊎_elim
    (λ (h : bytes_eq t w ≡ true). let there : ◌≡◌ {A = Option Tokens} (Some ts) (Some us) = rw h at e in let same : t ≡ w = (bytes_eq-Decides t w).0 h in let rest : ts ≡ us = cc in rw (same, rest) refl)
    (λ (h : bytes_eq t w ≡ false). absurd (let no : ◌≡◌ {A = Option Tokens} None (Some us) = rw h at e in cc))
    (cases_Bool (bytes_eq t w))

pub sign_is : {A : Type 0} (of : List ℕ → Option A) (ts : Tokens) (q : A × Tokens) → sign_by of ts ≡ Some q → (w : List ℕ) × (ts ≡ w ∷ q.1) × (of w ≡ Some q.0)
sign_is of [] q e = absurd (cc)
sign_is of (t ∷ ts) q e =
    let m = map_is (of t) (λ x. (x, ts)) q e in
    (t, ap (λ (p : _ × Tokens). t ∷ p.1) m.2, m.1 ∙ ap (λ (p : _ × Tokens). Some p.0) m.2)

pub sign_again : {A : Type 0} (of : List ℕ → Option A) (w : List ℕ) (x : A) (us : Tokens) → of w ≡ Some x → sign_by of (w ∷ us) ≡ Some (x, us)
sign_again of w x us e = rw e refl

-- a word of one table isn't this one, which isn't in the table
pub other : {A : Type 0} (of : List ℕ → Option A) (w v : List ℕ) (x : A) → of w ≡ Some x → of v ≡ None → bytes_eq w v ≡ false
other of w v x e f =
    ⊎_elim
    (λ (h : bytes_eq w v ≡ true). absurd (let same : of w ≡ of v = ap of ((bytes_eq-Decides w v).0 h) in cc))
    (λ (h : bytes_eq w v ≡ false). h)
    (cases_Bool (bytes_eq w v))

pub no_front : {A : Type 0} (of : List ℕ → Option A) (w v : List ℕ) (x : A) (us : Tokens) → of w ≡ Some x → of v ≡ None → after v (w ∷ us) ≡ None
no_front of w v x us e f = rw (other of w v x e f) refl
