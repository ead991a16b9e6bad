-- Names in lists.
use Rattle.std.proofs.Common.{◌≡◌, ◌≢◌, sym, ◌∙◌, ⊎_elim, ℕ, ◌<◌, List, ◌++◌, length, map, get_or, arith, length-append, Bool, true, false, ap, [], ◌∷◌}
use Rattle.std.specs.Prelude.{Contains}
use Rattle.std.specs.List.{AllPairs, list_any}
use Rattle.std.specs.Str.{bytes_eq}
use Rattle.std.proofs.lemmas.List.Folds.{Any-from_list_any, list_any_at}
use Rattle.std.proofs.lemmas.Slice.Eq.{bytes_eq-Decides}
use Rattle.std.proofs.lemmas.List.{get_or-map, length-map, get_or_append_left}
use Rattle.std.proofs.lemmas.List.Elements.{Contains-append_cases, Contains-append_left, Contains-append_right}
use Rattle.pf_values.specs.declared.names.ImageName.{ImageName}
use Rattle.pf_terms.specs.Meaning.KernelNames.{IsNames}
use Rattle.pf_machine.specs.declared.program.Head.{Head}
use Rattle.pf_machine.specs.Meaning.Heads.{image_name}
use Rattle.pf_isa.specs.Meaning.TextFaults.{names_so_far}

-- a name in the second of two lists that isn't in the first
in_second : (xs ys : List (List ℕ)) (x : List ℕ) → (Contains xs x → ⊥) → Contains (xs ++ ys) x → Contains ys x
in_second xs ys x none h = ⊎_elim (λ (l : Contains xs x). absurd (none l)) (λ (r : Contains ys x). r) (Contains-append_cases xs ys x h)

name_at : {A : Type 0} (f : A → List ℕ) (xs : List A) (k : ℕ) (d : A) (name : List ℕ) → k < length xs → f (get_or xs k d) ≡ name → Contains (map f xs) name
name_at f xs k d name lt e = (k, omega (arith, lt, length-map xs f), get_or-map f xs k d name lt ∙ e)

any_named : {A : Type 0} (f : A → List ℕ) (xs : List A) (name : List ℕ) → list_any (λ x. bytes_eq (f x) name) xs ≡ true → Contains (map f xs) name
any_named f xs name h = let a = Any-from_list_any (λ x. bytes_eq (f x) name) xs h in name_at f xs a.0 a.1 name a.2 (ap f a.3 ∙ (bytes_eq-Decides (f a.1) name).0 a.4)

named_any : {A : Type 0} (f : A → List ℕ) (xs : List A) (name : List ℕ) → Contains (map f xs) name → list_any (λ x. bytes_eq (f x) name) xs ≡ true
named_any f [] name (k, lt, at) = absurd (omega arith)
named_any f (x ∷ xs) name (k, lt, at) =
    let below : k < length (x ∷ xs) = omega (arith, lt, length-map (x ∷ xs) f) in
    list_any_at (λ y. bytes_eq (f y) name) (x ∷ xs) k x below ((bytes_eq-Decides (f (get_or (x ∷ xs) k x)) name).1 (sym (get_or-map f (x ∷ xs) k x name below) ∙ at))

-- a name in the first of two lists, and in the second
pub is_first : {A : Type 0} (f : A → List ℕ) (xs : List A) (ys : List (List ℕ)) (name : List ℕ) → true ≡ list_any (λ x. bytes_eq (f x) name) xs → Contains (map f xs ++ ys) name
is_first f xs ys name is = Contains-append_left (map f xs) ys name (any_named f xs name (sym is))

pub is_second : {A B : Type 0} (f : A → List ℕ) (g : B → List ℕ) (xs : List A) (ys : List B) (name : List ℕ) (b : Bool) → false ≡ list_any (λ x. bytes_eq (f x) name) xs → b ≡ list_any (λ y. bytes_eq (g y) name) ys
    → (b ≡ true → Contains (map f xs ++ map g ys) name) × (Contains (map f xs ++ map g ys) name → b ≡ true)
is_second f g xs ys name b none is = (
  λ h. Contains-append_right (map f xs) (map g ys) name (any_named g ys name (sym is ∙ h)),
  λ h. is ∙ named_any g ys name (in_second (map f xs) (map g ys) name (λ l. let there = none ∙ named_any f xs name l in absurd (cc)) h),
)

pub distinct_in : {A : Type 0} (f : A → List ℕ) (xs : List A) (ys : List (List ℕ)) → AllPairs (λ s t. s ≢ t) (map f xs ++ ys) → AllPairs (λ a b. f a ≢ f b) xs
distinct_in f xs ys h = λ i j d less lt e.
    let long = length-map xs f in
    let in_i : i < length (map f xs) = omega (arith, less, lt, long) in
    let in_j : j < length (map f xs) = omega (arith, lt, long) in
    let all : j < length (map f xs ++ ys) = omega (arith, in_j, length-append (map f xs) ys) in
    let at_i = get_or_append_left (map f xs) ys (f d) i in_i ∙ get_or-map f xs i d (f d) (omega (arith, less, lt)) in
    let at_j = get_or_append_left (map f xs) ys (f d) j in_j ∙ get_or-map f xs j d (f d) lt in
    h i j (f d) less all (at_i ∙ e ∙ sym at_j)

pub images_distinct : (h : Head) (images : List ImageName) → images ≡ map image_name h.images → IsNames (names_so_far h) → AllPairs (λ i j. i.name ≢ j.name) images
images_distinct h images is names = rw is (distinct_in (λ (i : ImageName). i.name) (map image_name h.images) _ names.distinct_names)
