-- The terms of a kernel have ranges for their leaves, and are lifted one after another.
use Rattle.std.proofs.Common.{◌≡◌, refl, sym, ap, ◌∙◌, subst, ℕ, zero, suc, ◌+◌, ◌<◌, ◌≤◌, Bool, true, false, ◌&&◌, List, [], ◌∷◌, ◌++◌, length, map, get_or, take, drop, Option, Some, None, Ok, Err, arith, append_assoc}
use Rattle.std.specs.Prelude.{All, IfOk, Result, nat_lt, slice_index_or, sum}
use Rattle.std.proofs.lemmas.Bool.{and_parts, ltb-true, lt-ltb}
use Rattle.std.proofs.lemmas.List.{length-map, length-append, take_more, take_all}
use Rattle.std.proofs.lemmas.List.Elements.{All-push}
use Rattle.std.proofs.Math.ListN.{get_or-append}
use Rattle.pf_ints.specs.declared.lane.LaneType.{LaneType}
use Rattle.pf_values.specs.declared.kernel.Definition.{Definition}
use Rattle.pf_values.specs.declared.kernel.ImageDecl.{ImageDecl}
use Rattle.pf_values.specs.declared.names.DefName.{DefName}
use Rattle.pf_values.specs.declared.names.Names.{Names}
use Rattle.pf_values.specs.declared.names.Tap.{Tap as TapOf}
use Rattle.pf_values.specs.declared.term.Leaf.{Leaf as LeafOf}
use Rattle.pf_values.specs.declared.term.Leaf.TheVariants.{Tap, Const, Def}
use Rattle.pf_values.specs.declared.term.Term.{Term}
use Rattle.pf_values.specs.Meaning.Kernels.{Source}
use Rattle.pf_values.specs.Meaning.NamedTerms.{is_named, named_step, is_named_leaf, no_def}
use Rattle.pf_values.specs.Meaning.Terms.{IsWellTyped, same_type, weight_of}
use Rattle.pf_bounds.specs.declared.ranges.Ranges.{Ranges}
use Rattle.pf_bounds.specs.Meaning.TermBounds.{are_ranges_of}
use Rattle.pf_bounds.proofs.TermLaws.{implied}
use Rattle.pf_check.specs.declared.checked.CheckedParts.{CheckedParts}
use Rattle.pf_terms.specs.Meaning.KernelNames.{IsNearTap}
use Rattle.pf_kernel.specs.Meaning.Kernels.{Meaning, IsKernelOf, IsDeclaredRange, IsTermOf, AreDefinitions, image_name, def_name, names_behind}
use Rattle.pf_leaves.specs.Meaning.Leaves.{IsDeclared, AreDefined, AreRanges}
use Rattle.pf_lift.specs.Meaning.Rewriting.{LiftsTo}
use Rattle.pf_lift.specs.Meaning.Lifted.{Keeps}
use Rattle.pf_lift.specs.Meaning.Kernels.{IsLiftOf, AreLiftsOf, written}
use Rattle.pf_lift.specs.Steps.Written.{IsRanged}
use Rattle.pf_lift.proofs.Lists.{sum_cons, sum_push}

-- ---- what is asked of the leaves

pub declared_each : (images : List ImageDecl) → All IsDeclaredRange images → All IsDeclared images
declared_each images h = λ i d below. let own = h i d below in record { ordered = own.ordered; inside = own.inside }

pub near_each : (images : List ImageDecl) (taps : List TapOf) → All (IsNearTap (length (map image_name images))) taps → All (λ t. t.image < length images) taps
near_each images taps h = λ i d below. subst (λ n. (get_or taps i d).image < n) (length-map images image_name) (h i d below).image

pub defined_each : (names : Names) (ds : List Definition) → AreDefinitions names ds → AreDefined names ds
defined_each names [] h = tt
defined_each names (d ∷ ds) h = (record { typed = h.0.formed; stated = h.0.typed; named = h.0.named }, defined_each (record names { defs = names.defs ++ def_name d ∷ [] }) ds h.1)

-- ---- names of later definitions

module _ (names : Names) (more : List DefName) where
  abbrev longer : Names
  longer = record names { defs = names.defs ++ more }

  both : (a b : Bool) → a ≡ true → b ≡ true → a && b ≡ true
  both true b h k = k
  both false b h k = absurd (cc h)

  leaf_longer : (leaf : LeafOf) (ty : LaneType) → is_named_leaf names leaf ty ≡ true → is_named_leaf longer leaf ty ≡ true
  leaf_longer (Tap n) ty h = h
  leaf_longer (Const n) ty h = refl
  leaf_longer (Def n) ty h =
      let parts = and_parts (nat_lt n (length names.defs)) (same_type (slice_index_or names.defs n no_def).ty ty) h in
      let below : n < length names.defs = ltb-true n (length names.defs) parts.0 in
      let long : n < length (names.defs ++ more) = omega (arith, below, length-append names.defs more) in
      both (nat_lt n (length (names.defs ++ more))) (same_type (slice_index_or (names.defs ++ more) n no_def).ty ty) (lt-ltb n (length (names.defs ++ more)) long)
      (subst (λ (e : DefName). same_type e.ty ty ≡ true) (sym (get_or-append names.defs more no_def n below)) parts.1)

  pub named_longer : (t : Term) → is_named names t ≡ true → is_named longer t ≡ true
  named_longer = implied (named_step names) (named_step longer) (λ op ty k bs. refl) (λ op ty k bs. refl) leaf_longer

abbrev IsKnown : Names → Definition → Type 0
IsKnown names d = IsWellTyped d.term × (is_named names d.term ≡ true)

all_cons : (P : Definition → Type 0) (d : Definition) (ds : List Definition) → P d → All P ds → All P (d ∷ ds)
all_cons P d ds p h zero e below = p
all_cons P d ds p h (suc i) e below = h i e (omega (arith, below))

known_each : (names : Names) (ds : List Definition) → AreDefinitions names ds → All (IsKnown (record names { defs = names.defs ++ map def_name ds })) ds
known_each names [] h = λ i d below. absurd (omega (arith, below))
known_each names (d ∷ ds) h =
    let next : Names = record names { defs = names.defs ++ def_name d ∷ [] } in
    let whole : (names.defs ++ def_name d ∷ []) ++ map def_name ds ≡ names.defs ++ map def_name (d ∷ ds) = append_assoc names.defs (def_name d ∷ []) (map def_name ds) in
    let rest = subst (λ es. All (IsKnown (record names { defs = es })) ds) whole (known_each next ds h.1) in
    all_cons (IsKnown (record names { defs = names.defs ++ map def_name (d ∷ ds) })) d ds (h.0.formed, named_longer names (map def_name (d ∷ ds)) d.term h.0.named) rest

all_ranged : (k : Meaning) → IsKernelOf k → (ranges : Ranges) → ((t : Term) → is_named (names_behind k.source.images k.source.taps k.source.defs) t ≡ true → are_ranges_of ranges t ≡ true) → All (λ d. IsRanged ranges d) (written k.source)
all_ranged k h ranges entries =
    let s = k.source in
    let defs = known_each (names_behind s.images s.taps []) s.defs h.defs in
    All-push (λ d. IsRanged ranges d) s.defs _ (λ i d below. let own = defs i d below in record { typed = own.0; entries = entries (get_or s.defs i d).term own.1 }) (record { typed = h.out.formed; entries = entries s.out h.out.named })

-- ---- one after another

module _ (rules : List CheckedParts) (ranges : Ranges) where
  pub lifts_push : (n m : ℕ) (ds es : List Definition) (d e : Definition) → AreLiftsOf rules ranges n ds es → IsLiftOf rules ranges m d e → AreLiftsOf rules ranges (n + m) (ds ++ d ∷ []) (es ++ e ∷ [])
  lifts_push n m [] [] d e h k = (m, 0, omega (arith, h), k, refl)
  lifts_push n m [] (x ∷ es) d e h k = absurd h
  lifts_push n m (x ∷ ds) [] d e h k = absurd h
  lifts_push n m (x ∷ ds) (y ∷ es) d e h k = (h.0, h.1 + m, omega (arith, h.2), h.3, lifts_push h.1 m ds es d e h.4 k)

  pub record LiftedSoFar (ds es : List Definition) (i before now : ℕ) : Type 0 where
    pub count : ℕ
    pub counted : now ≡ before + count
    pub lifts : AreLiftsOf rules ranges count (take i ds) es
    pub few : count ≤ sum (map (λ d. weight_of d.term) (take i ds))

  pub so_far_more : (ds es new : List Definition) (i before now later : ℕ) (d e : Definition) → LiftedSoFar ds es i before now → i < length ds → d ≡ get_or ds i d →
      (u : Term) → e ≡ record { name = d.name; ty = d.ty; term = u } → ((n : ℕ) × (later ≡ now + n) × LiftsTo rules ranges n d.term u × (weight_of u + n ≤ weight_of d.term)) → Keeps ranges d.term u → new ≡ es ++ e ∷ [] → LiftedSoFar ds new (i + 1) before later
  so_far_more ds es new i before now later d e g below at u is h keeps push = subst (λ ys. LiftedSoFar ds ys (i + 1) before later) (sym push) (record {
    count = g.count + h.0;
    counted = omega (arith, g.counted, h.1);
    lifts = subst (λ xs. AreLiftsOf rules ranges (g.count + h.0) xs (es ++ e ∷ [])) (sym taken) (lifts_push g.count h.0 (take i ds) es d e g.lifts own);
    few = omega (arith, g.few, h.3, ap (λ xs. sum (map (λ d. weight_of d.term) xs)) taken, sum_push (λ (x : Definition). weight_of x.term) (take i ds) d);
  })
    where
      taken : take (i + 1) ds ≡ take i ds ++ d ∷ []
      taken = take_more ds i d below ∙ ap (λ z. take i ds ++ z ∷ []) (sym at)

      own : IsLiftOf rules ranges h.0 d e
      own = subst (IsLiftOf rules ranges h.0 d) (sym is) (record { name = refl; ty = refl; lifts = h.2; keeps = keeps; lighter = h.3 })

  pub all_lifted : (ds es : List Definition) (i before now : ℕ) → LiftedSoFar ds es i before now → length ds ≤ i → (n : ℕ) × (now ≡ before + n) × AreLiftsOf rules ranges n ds es
  all_lifted ds es i before now g past = (g.count, g.counted, subst (λ xs. AreLiftsOf rules ranges g.count xs es) (take_all i ds past) g.lifts)

  pub weight_def : (ds : List Definition) (i : ℕ) (d : Definition) → i < length ds → d ≡ get_or ds i d → sum (map (λ x. weight_of x.term) (take i ds)) + weight_of d.term ≤ sum (map (λ x. weight_of x.term) ds)
  weight_def [] i d below at = absurd (omega (arith, below))
  weight_def (x ∷ ds) zero d below at = let e = sum_cons (weight_of x.term) (map (λ y. weight_of y.term) ds) in let same = ap (λ (y : Definition). weight_of y.term) at in omega (arith, e, same)
  weight_def (x ∷ ds) (suc i) d below at =
      let e = sum_cons (weight_of x.term) (map (λ y. weight_of y.term) ds) in
      let f = sum_cons (weight_of x.term) (map (λ y. weight_of y.term) (take i ds)) in
      let rest = weight_def ds i d (omega (arith, below)) at in
      omega (arith, e, f, rest)

pub all_ranged_in : (k : Meaning) → IsKernelOf k → (ranges : Ranges) → ((t : Term) → is_named (names_behind k.source.images k.source.taps k.source.defs) t ≡ true → are_ranges_of ranges t ≡ true) → (all : List Definition) → all ≡ written k.source → All (λ d. IsRanged ranges d) all
all_ranged_in k h ranges entries all is = subst (λ ds. All (λ d. IsRanged ranges d) ds) (sym is) (all_ranged k h ranges entries)
