-- Sums that are read part by part.
use Rattle.std.proofs.Common.{◌≡◌, refl, sym, ap, ◌∙◌, ℕ, zero, suc, ◌-◌, ◌<◌, List, [], ◌∷◌, ◌++◌, Bool, arith, append_assoc}
use Rattle.std.specs.Prelude.{Option, Some, None, option_map}
use Rattle.pf_rulefile.specs.Steps.NumberReads.{sum_read}

-- parts in front of those that are read
abbrev pub behind_parts : {A : Type 0} → List A → Option (List A × List (List ℕ)) → Option (List A × List (List ℕ))
behind_parts xs r = option_map (λ p. (xs ++ p.0, p.1)) r

pub no_parts : {A : Type 0} (r : Option (List A × List (List ℕ))) → r ≡ behind_parts [] r
no_parts None = refl
no_parts (Some p) = refl

one_more : {A : Type 0} (xs : List A) (a : A) (r : Option (List A × List (List ℕ))) → behind_parts xs (option_map (λ p. (a ∷ p.0, p.1)) r) ≡ behind_parts (xs ++ a ∷ []) r
one_more xs a None = refl
one_more xs a (Some p) = ap (λ us. Some (us, p.1)) (sym (append_assoc xs (a ∷ []) p.0))

module _ (A : Type 0) (sign : List (List ℕ) → Option (Bool × List (List ℕ))) (part : Bool → List (List ℕ) → Option (A × List (List ℕ))) (xs : List A) (minus : Bool) (ts : List (List ℕ)) where
  module _ (a : A) (us : List (List ℕ)) (e : part minus ts ≡ Some (a, us)) where
    pub sum_end : (most : ℕ) → 0 < most → sign us ≡ None → behind_parts xs (sum_read sign part most minus ts) ≡ Some (xs ++ a ∷ [], us)
    sum_end zero h f = absurd (omega arith)
    sum_end (suc most) h f = rw e (rw f refl)

    pub sum_step : (most : ℕ) (m : Bool) (vs : List (List ℕ)) → 0 < most → sign us ≡ Some (m, vs) → behind_parts xs (sum_read sign part most minus ts) ≡ behind_parts (xs ++ a ∷ []) (sum_read sign part (most - 1) m vs)
    sum_step zero m vs h f = absurd (omega arith)
    sum_step (suc most) m vs h f =
        let less : most ≡ suc most - 1 = omega arith in
        rw e (rw f (one_more xs a (sum_read sign part most m vs))) ∙ ap (λ (n : ℕ). behind_parts (xs ++ a ∷ []) (sum_read sign part n m vs)) less

-- the same by what was read of it
module _ (A : Type 0) (sign : List (List ℕ) → Option (Bool × List (List ℕ))) (part : Bool → List (List ℕ) → Option (A × List (List ℕ))) (whole : Option (List A × List (List ℕ))) (xs ys : List A) (minus : Bool) (ts us : List (List ℕ)) (a : A) (most : ℕ) where
  pub goes_on : (m : Bool) (vs : List (List ℕ)) → whole ≡ behind_parts xs (sum_read sign part most minus ts) → 0 < most → part minus ts ≡ Some (a, us) → ys ≡ xs ++ a ∷ [] → sign us ≡ Some (m, vs) → whole ≡ behind_parts ys (sum_read sign part (most - 1) m vs)
  goes_on m vs so_far some e more f = so_far ∙ sum_step A sign part xs minus ts a us e most m vs some f ∙ ap (λ (zs : List A). behind_parts zs (sum_read sign part (most - 1) m vs)) (sym more)

  pub ends : whole ≡ behind_parts xs (sum_read sign part most minus ts) → 0 < most → part minus ts ≡ Some (a, us) → ys ≡ xs ++ a ∷ [] → sign us ≡ None → whole ≡ Some (ys, us)
  ends so_far some e more f = so_far ∙ sum_end A sign part xs minus ts a us e most some f ∙ ap (λ (zs : List A). Some (zs, us)) (sym more)
