-- What is kept of a side tells of it what its lines need.
use Rattle.std.proofs.Common.{◌≡◌, refl, ◌∙◌, ℕ, zero, suc, ◌+◌, ◌-◌, ◌^◌, ◌≤◌, ◌<◌, min, List, [], ◌∷◌, ◌++◌, length, Bool, true, false, arith, ⊎_elim}
use Rattle.std.specs.Prelude.{Option, Some, None, if◌then◌else◌, ◌||◌, not, nat_le}
use Rattle.std.proofs.lemmas.Bool.{cases_Bool}
use Rattle.std.proofs.lemmas.Bool.Decides.{nat_tests}
use Rattle.pf_laneops.specs.declared.lane_name.LaneName.{LaneName}
use Rattle.pf_rules.specs.declared.number.Amount.{Amount}
use Rattle.pf_rules.specs.declared.pattern.PatType.{PatType}
use Rattle.pf_rules.specs.declared.pattern.Pattern.{Pattern}
use Rattle.pf_rules.specs.declared.rule.VarDecl.{VarDecl}
use Rattle.pf_rulefile.specs.declared.part.Part.{Part}
use Rattle.pf_rulefile.specs.declared.line.Open.{Open}
use Rattle.pf_rulefile.specs.Meaning.Words.{is_some}
use Rattle.pf_rulefile.specs.Meaning.Grammar.{Written, Name, Typed, Pair, Node, Lane}
use Rattle.pf_rulefile.specs.Meaning.Says.{place_in, nodes, is_bare, has_k, is_unknown, is_number, stands, all_stand, variable, patterns, one_pattern, added_left, added_right}
use Rattle.pf_rulefile.specs.Steps.SideReads.{made}
use Rattle.pf_rulefile.specs.Steps.Parts.{parts, used, name_by, both_patterns, node_items, lane_items}
use Rattle.pf_rulefile.specs.Steps.LineReads.{all_used, kept, left_part, right_part}

abbrev tab : (ℕ → Bool) → List Bool
tab f = f 0 ∷ f 1 ∷ f 2 ∷ f 3 ∷ f 4 ∷ f 5 ∷ f 6 ∷ f 7 ∷ []

-- patterns where they are known and few enough
abbrev few : Bool → ℕ → List Pattern → Option (List Pattern)
few unknown n ps = if unknown then None else (if nat_le n 64 then Some ps else None)

abbrev part : ℕ → List Bool → Bool → Bool → Bool → Option (List Pattern) → Part
part n us unknown bare k ps = record { nodes = n; used = us; unknown = unknown; bare = bare; has_k = k; patterns = ps }

abbrev summary : List VarDecl → Written → Part
summary vars t = part (min (nodes t) (2 ^ 64 - 1)) (tab (λ n. stands vars n t)) (is_unknown vars t) (is_bare t) (has_k t) (few (is_unknown vars t) (nodes t) (patterns vars t))

same_part : (n m : ℕ) (us : List Bool) (u b k : Bool) (ps qs : Option (List Pattern)) → n ≡ m → ps ≡ qs → part n us u b k ps ≡ part m us u b k qs
same_part n m us u b k ps qs e f = rw (e, f) refl

capped_sum : (x y m : ℕ) → min (min x m + min y m) m ≡ min (x + y) m
capped_sum x y m = omega arith

capped_test : (n : ℕ) → nat_le (min n (2 ^ 64 - 1)) 64 ≡ nat_le n 64
capped_test n = grind (arith, nat_tests)

more_false : (x y : ℕ) → nat_le x 64 ≡ false → nat_le (x + y) 64 ≡ false
more_false x y h = grind (arith, nat_tests, h)

both_kept : (n : ℕ) (a b : Bool) (x y : ℕ) (ps qs : List Pattern) → n ≡ min (x + y) (2 ^ 64 - 1) → both_patterns n (few a x ps) (few b y qs) ≡ few (a || b) (x + y) (ps ++ qs)
both_kept n true b x y ps qs e = refl
both_kept n false true x y ps qs e =
    ⊎_elim
    (λ (h : nat_le x 64 ≡ true). rw h refl)
    (λ (h : nat_le x 64 ≡ false). rw h refl)
    (cases_Bool (nat_le x 64))
both_kept n false false x y ps qs e =
    ⊎_elim
    (λ (h : nat_le x 64 ≡ true).
    ⊎_elim
    (λ (g : nat_le y 64 ≡ true). rw (h, g, e) (rw (capped_test (x + y)) refl))
    (λ (g : nat_le y 64 ≡ false). let no : nat_le (x + y) 64 ≡ false = grind (arith, nat_tests, g) in rw (h, g, no) refl)
    (cases_Bool (nat_le y 64)))
    (λ (h : nat_le x 64 ≡ false). rw (h, more_false x y h) refl)
    (cases_Bool (nat_le x 64))

one_kept : (n : ℕ) (a : Bool) (x : ℕ) (ps qs : List Pattern) (items : Option (List Pattern) → Option (List Pattern)) → items None ≡ None → items (Some ps) ≡ (if nat_le (min (x + 1) (2 ^ 64 - 1)) 64 then Some qs else None) →
    items (few a x ps) ≡ few a (x + 1) qs
one_kept n true x ps qs items none some = none
one_kept n false x ps qs items none some =
    ⊎_elim
    (λ (h : nat_le x 64 ≡ true). rw h (some ∙ rw (capped_test (x + 1)) refl))
    (λ (h : nat_le x 64 ≡ false). rw (h, more_false x 1 h) none)
    (cases_Bool (nat_le x 64))

either_true : (a : Bool) → (a || true) ≡ true
either_true true = refl
either_true false = refl

either_false : (a : Bool) → (a || false) ≡ a
either_false true = refl
either_false false = refl

lane_kept : (vars : List VarDecl) (op : Option LaneName) (to : Option PatType) (k : Amount) (t : Written) →
    lane_items (min (nodes t + 1) (2 ^ 64 - 1)) op to k (few (is_unknown vars t) (nodes t) (patterns vars t)) ≡ few (is_unknown vars t || not (is_some op)) (nodes t + 1) (patterns vars (Lane op to k t))
lane_kept vars None to k t = rw (either_true (is_unknown vars t)) refl
lane_kept vars (Some op) to k t =
    rw (either_false (is_unknown vars t)) (one_kept 0 (is_unknown vars t) (nodes t) (patterns vars t) (patterns vars (Lane (Some op) to k t)) (lane_items (min (nodes t + 1) (2 ^ 64 - 1)) (Some op) to k) refl refl)

pub summed : (vars : List VarDecl) (t : Written) → made (parts vars) t ≡ summary vars t
summed vars (Name w) = by (place_in 0 vars w)
  where
    by : (o : Option ℕ) → name_by o ≡ part 1 (tab (λ n. is_number n o)) (not (is_some o)) true false (few (not (is_some o)) 1 (variable o))
    by None = refl
    by (Some n) = refl
summed vars (Typed n ty) = refl
summed vars (Pair a b) =
    rw (summed vars a, summed vars b)
    (same_part _ _ (tab (λ n. stands vars n a || stands vars n b)) (is_unknown vars a || is_unknown vars b) false (has_k a || has_k b) _ _ (capped_sum (nodes a) (nodes b) (2 ^ 64 - 1))
    (both_kept _ (is_unknown vars a) (is_unknown vars b) (nodes a) (nodes b) (patterns vars a) (patterns vars b) (capped_sum (nodes a) (nodes b) (2 ^ 64 - 1))))
summed vars (Node op to k t) =
    let size : min (min (nodes t) (2 ^ 64 - 1) + 1) (2 ^ 64 - 1) ≡ min (nodes t + 1) (2 ^ 64 - 1) = capped_sum (nodes t) 1 (2 ^ 64 - 1) in
    rw (summed vars t) (rw size (same_part _ _ (tab (λ n. stands vars n t)) (is_unknown vars t) false _ _ _ refl
    (one_kept 0 (is_unknown vars t) (nodes t) (patterns vars t) (patterns vars (Node op to k t)) (node_items (min (nodes t + 1) (2 ^ 64 - 1)) op to k) refl refl)))
summed vars (Lane op to k t) =
    let size : min (min (nodes t) (2 ^ 64 - 1) + 1) (2 ^ 64 - 1) ≡ min (nodes t + 1) (2 ^ 64 - 1) = capped_sum (nodes t) 1 (2 ^ 64 - 1) in
    rw (summed vars t) (rw size (same_part _ _ (tab (λ n. stands vars n t)) (is_unknown vars t || not (is_some op)) false _ _ _ refl (lane_kept vars op to k t)))

-- ---- what the lines need
used_at : (f : ℕ → Bool) (n : ℕ) → n < 8 → used (tab f) n ≡ f n
used_at f zero h = refl
used_at f (suc zero) h = refl
used_at f (suc (suc zero)) h = refl
used_at f (suc (suc (suc zero))) h = refl
used_at f (suc (suc (suc (suc zero)))) h = refl
used_at f (suc (suc (suc (suc (suc zero))))) h = refl
used_at f (suc (suc (suc (suc (suc (suc zero)))))) h = refl
used_at f (suc (suc (suc (suc (suc (suc (suc zero))))))) h = refl
used_at f (suc (suc (suc (suc (suc (suc (suc (suc n)))))))) h = absurd (omega (arith, h))

all_same : (vars : List VarDecl) (t : Written) (n : ℕ) → n ≤ 8 → all_used n (tab (λ m. stands vars m t)) ≡ all_stand vars n t
all_same vars t zero h = refl
all_same vars t (suc n) h = rw (used_at (λ m. stands vars m t) n (omega (arith, h)), all_same vars t n (omega (arith, h))) refl

kept_one : (ps : List Pattern) → kept (Some ps) ≡ one_pattern ps
kept_one [] = refl
kept_one (p ∷ []) = refl
kept_one (p ∷ q ∷ ps) = refl

kept_same : (n : ℕ) (ps : List Pattern) → kept (few false n ps) ≡ (if nat_le n 64 then one_pattern ps else None)
kept_same n ps =
    ⊎_elim
    (λ (h : nat_le n 64 ≡ true). rw h (kept_one ps))
    (λ (h : nat_le n 64 ≡ false). rw h refl)
    (cases_Bool (nat_le n 64))

pub left_same : (o : Open) (t : Written) → length o.vars ≤ 8 → left_part o (made (parts o.vars) t) ≡ added_left o t
left_same o t h =
    ⊎_elim
    (λ (u : is_unknown o.vars t ≡ true). rw (summed o.vars t) (rw u refl))
    (λ (u : is_unknown o.vars t ≡ false). rw (summed o.vars t) (rw (all_same o.vars t (length o.vars) h) (rw u (rw (kept_same (nodes t) (patterns o.vars t)) refl))))
    (cases_Bool (is_unknown o.vars t))

pub right_same : (o : Open) (t : Written) → right_part o (made (parts o.vars) t) ≡ added_right o t
right_same o t =
    ⊎_elim
    (λ (u : is_unknown o.vars t ≡ true). rw (summed o.vars t) (rw u refl))
    (λ (u : is_unknown o.vars t ≡ false). rw (summed o.vars t) (rw u (rw (kept_same (nodes t) (patterns o.vars t)) refl)))
    (cases_Bool (is_unknown o.vars t))
