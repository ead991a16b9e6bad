-- Each leaf has its range, which holds its number.
use Rattle.std.proofs.Common.{◌≡◌, refl, sym, ap, ◌∙◌, subst, ℕ, zero, suc, ◌+◌, ◌<◌, ◌≤◌, ℤ, pos, ◌≤ℤ◌, Bool, true, false, List, [], ◌∷◌, ◌++◌, length, map, get_or, take, drop, Option, Some, None, Ok, Err, arith, append_assoc}
use Rattle.std.specs.Prelude.{All, IfOk, Result, ◌-◌, nat_lt, slice_get, slice_index_or}
use Rattle.std.proofs.lemmas.Bool.{and_parts, ltb-true}
use Rattle.std.proofs.lemmas.Int.{ints}
use Rattle.std.proofs.lemmas.List.{length-map, get_or-map, get_or_default, map-append, take_more, take_all}
use Rattle.std.proofs.lemmas.Option.{slice_get-get_or}
use Rattle.pf_ints.specs.declared.lane.LaneType.{LaneType}
use Rattle.pf_ints.specs.Meaning.Lanes.{IsIn}
use Rattle.pf_ints.specs.Meaning.Ranges.{Range, IsRange, Includes, range, within, lies_in, lane_range}
use Rattle.pf_ints.proofs.LaneLaws.{spans}
use Rattle.pf_ints.proofs.RangeLaws.{is_range_lane, within_some}
use Rattle.pf_values.specs.declared.kernel.Definition.{Definition}
use Rattle.pf_values.specs.declared.kernel.ImageDecl.{ImageDecl}
use Rattle.pf_values.specs.declared.names.DefName.{DefName}
use Rattle.pf_values.specs.declared.names.Names.{Names}
use Rattle.pf_values.specs.declared.names.Tap.{Tap as TapOf}
use Rattle.pf_values.specs.declared.term.Env.{Env}
use Rattle.pf_values.specs.declared.term.Leaf.{Leaf as LeafOf}
use Rattle.pf_values.specs.declared.term.Leaf.TheVariants.{Tap, Const, Def}
use Rattle.pf_values.specs.declared.term.Term.{Term}
use Rattle.pf_values.specs.Meaning.Kernels.{no_decl, def_values}
use Rattle.pf_values.specs.Meaning.NamedTerms.{is_named, named_step, is_named_leaf, is_named_tap, no_image, no_tap, no_def}
use Rattle.pf_values.specs.Meaning.Terms.{same_type, stated_type, Val}
use Rattle.pf_values.proofs.NodeRanges.{same_type_is}
use Rattle.pf_bounds.specs.declared.ranges.Ranges.{Ranges}
use Rattle.pf_bounds.specs.Meaning.TermBounds.{AreWithin, IsWithin, interval_of, lies_in_type, are_ranges_of, ranged_step, is_ranged_leaf}
use Rattle.pf_bounds.proofs.Narrowing.{lies_true}
use Rattle.pf_bounds.proofs.TermLaws.{implied}
use Rattle.pf_leaves.specs.Meaning.Leaves.{IsDeclared, IsDefined, AreDefined, image_name, def_name, names_behind, declared_range, tap_range, ranges_of, HaveRanges}
use Rattle.pf_leaves.specs.Steps.Entries.{AreEntries, MayFollow, with_defs}

-- ---- the declared ranges

pub declared_kept : (d : ImageDecl) → IsDeclared d → IsRange (declared_range d)
declared_kept d h =
    let near = is_range_lane d.ty in
    let low = (spans d.ty).low in
    record {
      low = omega (arith, ints, near.low, low);
      ordered = omega (arith, ints, h.ordered);
      high = omega (arith, ints, near.high, h.inside.high);
    }

declared_lies : (d : ImageDecl) → IsDeclared d → lies_in (declared_range d) (lane_range d.ty) ≡ true
declared_lies d h =
    let low = (spans d.ty).low in
    lies_true (declared_range d) (lane_range d.ty) (omega (arith, ints, low)) h.inside.high

-- ---- entries

pub tap_entries : (images : List ImageDecl) (taps : List TapOf) (rs : List Range) → All IsDeclared images → rs ≡ map (tap_range images) taps → AreEntries (names_behind images taps []) (ranges_of rs [])
tap_entries images taps rs declared is = record {
  taps = λ n ty below h.
      let t = get_or taps n no_tap in
      let both = and_parts (nat_lt t.image (length (map image_name images))) _ h in
      let under = ltb-true t.image (length (map image_name images)) both.0 in
      let inside : t.image < length images = omega (arith, under, length-map images image_name) in
      let d = get_or images t.image no_decl in
      let at : get_or (map image_name images) t.image no_image ≡ image_name d = get_or-map image_name images t.image no_decl no_image inside in
      let typed : d.ty ≡ ty = same_type_is d.ty ty (subst (λ i. same_type i.ty ty ≡ true) at both.1) in
      let long : n < length (map (tap_range images) taps) = omega (arith, below, length-map taps (tap_range images)) in
      let found : slice_get rs n ≡ Some (tap_range images t) =
      ap (λ xs. slice_get xs n) is ∙ slice_get-get_or (map (tap_range images) taps) n (tap_range images no_tap) long ∙ ap Some (get_or-map (tap_range images) taps n no_tap (tap_range images no_tap) below) in
      let lies : lies_in (declared_range d) (lane_range ty) ≡ true = subst (λ u. lies_in (declared_range d) (lane_range u) ≡ true) typed (declared_lies d (declared t.image no_decl inside)) in
      ap (λ o. lies_in_type o ty) found ∙ lies;
  defs = λ n ty below h. absurd (omega (arith, below));
  count = refl;
}

abbrev Have : List DefName → List Range → Type 0
Have ds rs = (n : ℕ) (ty : LaneType) → n < length ds → same_type (slice_index_or ds n no_def).ty ty ≡ true → lies_in_type (slice_get rs n) ty ≡ true

have_more : (ds : List DefName) (rs : List Range) (d : DefName) (r : Range) → length rs ≡ length ds → Have ds rs → lies_in r (lane_range d.ty) ≡ true → Have (ds ++ d ∷ []) (rs ++ r ∷ [])
have_more [] [] d r same h lies zero ty below is = subst (λ u. lies_in r (lane_range u) ≡ true) (same_type_is d.ty ty is) lies
have_more [] [] d r same h lies (suc n) ty below is = absurd (omega (arith, below))
have_more [] (q ∷ rs) d r same h lies n ty below is = absurd (omega (arith, same))
have_more (e ∷ ds) [] d r same h lies n ty below is = absurd (omega (arith, same))
have_more (e ∷ ds) (q ∷ rs) d r same h lies zero ty below is = h 0 ty (omega arith) is
have_more (e ∷ ds) (q ∷ rs) d r same h lies (suc n) ty below is =
    have_more ds rs d r (omega (arith, same)) (λ m u under. h (suc m) u (omega (arith, under))) lies n ty (omega (arith, below)) is

long_more : {A B : Type 0} (xs : List A) (ys : List B) (x : A) (y : B) → length xs ≡ length ys → length (xs ++ x ∷ []) ≡ length (ys ++ y ∷ [])
long_more [] [] x y h = refl
long_more [] (b ∷ ys) x y h = absurd (omega (arith, h))
long_more (a ∷ xs) [] x y h = absurd (omega (arith, h))
long_more (a ∷ xs) (b ∷ ys) x y h = ap suc (long_more xs ys x y (omega (arith, h)))

pub entries_more : (names : Names) (ranges new : Ranges) (d : Definition) (r : Range) → AreEntries names ranges → new.taps ≡ ranges.taps → new.defs ≡ ranges.defs ++ r ∷ [] → lies_in r (lane_range d.ty) ≡ true →
    AreEntries (record names { defs = names.defs ++ def_name d ∷ [] }) new
entries_more names ranges new d r h taps defs lies = record {
  taps = λ n ty below is. subst (λ rs. lies_in_type (slice_get rs n) ty ≡ true) (sym taps) (h.taps n ty below is);
  defs = λ n ty below is. subst (λ rs. lies_in_type (slice_get rs n) ty ≡ true) (sym defs) (have_more names.defs ranges.defs (def_name d) r h.count h.defs lies n ty below is);
  count = ap length defs ∙ long_more ranges.defs names.defs r (def_name d) h.count;
}

module _ (names : Names) (ranges : Ranges) (h : AreEntries names ranges) where
  leaf_ranged : (leaf : LeafOf) (ty : LaneType) → is_named_leaf names leaf ty ≡ true → is_ranged_leaf ranges leaf ty ≡ true
  leaf_ranged (Tap n) ty e = let both = and_parts (nat_lt n (length names.taps)) _ e in h.taps n ty (ltb-true n (length names.taps) both.0) both.1
  leaf_ranged (Const n) ty e = refl
  leaf_ranged (Def n) ty e = let both = and_parts (nat_lt n (length names.defs)) _ e in h.defs n ty (ltb-true n (length names.defs) both.0) both.1

  -- a term with these names has the ranges of its leaves
  pub entries_range : (t : Term) → is_named names t ≡ true → are_ranges_of ranges t ≡ true
  entries_range = implied (named_step names) (ranged_step ranges) (λ op ty k bs. refl) (λ op ty k bs. refl) leaf_ranged

-- ---- numbers in their ranges

pub within_more : (rs : List Range) (xs : List ℤ) (r : Range) (x : ℤ) → length xs ≡ length rs → AreWithin rs xs → Includes r x → AreWithin (rs ++ r ∷ []) (xs ++ x ∷ [])
within_more [] [] r x same h is zero s e = let at : r ≡ s = cc e in subst (λ q. Includes q x) at is
within_more [] [] r x same h is (suc n) s e = absurd (cc e)
within_more [] (y ∷ xs) r x same h is n s e = absurd (omega (arith, same))
within_more (q ∷ rs) [] r x same h is n s e = absurd (omega (arith, same))
within_more (q ∷ rs) (y ∷ xs) r x same h is zero s e = h 0 s e
within_more (q ∷ rs) (y ∷ xs) r x same h is (suc n) s e = within_more rs xs r x (omega (arith, same)) (λ m. h (suc m)) is n s e

-- ---- one definition more

abbrev pub rest_of : List Definition → List Definition
rest_of ds = take (length ds - 1) (drop 1 ds)

tail_is : (d : Definition) (ds : List Definition) → rest_of (d ∷ ds) ≡ ds
tail_is d ds = take_all (length (d ∷ ds) - 1) ds (omega arith)

pub whole_is : (ds : List Definition) (d : Definition) → 1 ≤ length ds → d ≡ get_or ds 0 d → ds ≡ d ∷ rest_of ds
whole_is [] d some at = absurd (omega (arith, some))
whole_is (e ∷ es) d some at = ap (λ x. x ∷ es) (sym at) ∙ ap (λ xs. d ∷ xs) (sym (tail_is e es))

pub rest_short : (ds : List Definition) → 1 ≤ length ds → length (rest_of ds) < length ds
rest_short [] some = absurd (omega (arith, some))
rest_short (e ∷ es) some = let same = ap length (tail_is e es) in omega (arith, same)

ok_map : (E : Type 0) (r : Result Ranges E) (P Q : Ranges → Type 0) → ((x : Ranges) → P x → Q x) → IfOk r P → IfOk r Q
ok_map E (Ok x) P Q f h = f x h
ok_map E (Err e) P Q f h = tt

pub whole_defined : (names : Names) (ds : List Definition) (d : Definition) → 1 ≤ length ds → d ≡ get_or ds 0 d → AreDefined names ds → IsDefined names d × AreDefined (record names { defs = names.defs ++ def_name d ∷ [] }) (rest_of ds)
whole_defined names ds d some at h = subst (AreDefined names) (whole_is ds d some at) h

module _ (found new : Ranges) (ds : List Definition) (d : Definition) (r : Range) (some : 1 ≤ length ds) (at : d ≡ get_or ds 0 d) (taps : new.taps ≡ found.taps) (push : new.defs ≡ found.defs ++ r ∷ []) where
  whole : ds ≡ d ∷ rest_of ds
  whole = whole_is ds d some at

  pub follow_more : (names : Names) → AreEntries names found → AreDefined names ds → lies_in r (lane_range (stated_type d.term)) ≡ true → AreEntries (record names { defs = names.defs ++ def_name d ∷ [] }) new
  follow_more names h defined lies =
      let stated = (whole_defined names ds d some at defined).0.stated in
      entries_more names found new d r h taps push (subst (λ t. lies_in r (lane_range t) ≡ true) stated lies)

  pub value_more : (E : Type 0) (o : Result Ranges E) → interval_of found d.term ≡ Some r → IfOk o (λ x. HaveRanges new.taps new.defs (rest_of ds) x.defs) → IfOk o (λ x. HaveRanges found.taps found.defs ds x.defs)
  value_more E o is = ok_map E o (λ x. HaveRanges new.taps new.defs (rest_of ds) x.defs) (λ x. HaveRanges found.taps found.defs ds x.defs) (λ x h.
      let rest : HaveRanges found.taps (found.defs ++ r ∷ []) (rest_of ds) x.defs = subst (λ ts. HaveRanges ts (found.defs ++ r ∷ []) (rest_of ds) x.defs) taps (subst (λ rs. HaveRanges new.taps rs (rest_of ds) x.defs) push h) in
      subst (λ es. HaveRanges found.taps found.defs es x.defs) (sym whole) (r, is, rest))

  pub all_more : (E : Type 0) (o : Result Ranges E) → lies_in r (lane_range (stated_type d.term)) ≡ true →
      IfOk o (λ x. (names : Names) → AreEntries names new → AreDefined names (rest_of ds) → AreEntries (with_defs names (rest_of ds)) x) →
      IfOk o (λ x. (names : Names) → AreEntries names found → AreDefined names ds → AreEntries (with_defs names ds) x)
  all_more E o lies = ok_map E o (λ x. (names : Names) → AreEntries names new → AreDefined names (rest_of ds) → AreEntries (with_defs names (rest_of ds)) x) (λ x. (names : Names) → AreEntries names found → AreDefined names ds → AreEntries (with_defs names ds) x) (λ x h names entries defined.
      let longer = h (record names { defs = names.defs ++ def_name d ∷ [] }) (follow_more names entries defined lies) (whole_defined names ds d some at defined).1 in
      let same : (names.defs ++ def_name d ∷ []) ++ map def_name (rest_of ds) ≡ names.defs ++ map def_name ds = append_assoc names.defs (def_name d ∷ []) (map def_name (rest_of ds)) ∙ ap (λ es. names.defs ++ map def_name es) (sym whole) in
      subst (λ es. AreEntries (record names { defs = es }) x) same longer)

  pub within_all : (E : Type 0) (o : Result Ranges E) → ((env : Env) → IsWithin found env → Includes r (Val env d.term)) →
      IfOk o (λ x. (xs vs : List ℤ) → AreWithin new.taps xs → AreWithin new.defs vs → length vs ≡ length new.defs → AreWithin x.defs (def_values xs vs (rest_of ds))) →
      IfOk o (λ x. (xs vs : List ℤ) → AreWithin found.taps xs → AreWithin found.defs vs → length vs ≡ length found.defs → AreWithin x.defs (def_values xs vs ds))
  within_all E o holds = ok_map E o (λ x. (xs vs : List ℤ) → AreWithin new.taps xs → AreWithin new.defs vs → length vs ≡ length new.defs → AreWithin x.defs (def_values xs vs (rest_of ds))) (λ x. (xs vs : List ℤ) → AreWithin found.taps xs → AreWithin found.defs vs → length vs ≡ length found.defs → AreWithin x.defs (def_values xs vs ds)) (λ x h xs vs in_taps in_defs same.
      let env : Env = record { taps = xs; defs = vs } in
      let here : Includes r (Val env d.term) = holds env (record { taps = in_taps; defs = in_defs }) in
      let more : AreWithin new.defs (vs ++ Val env d.term ∷ []) = subst (λ rs. AreWithin rs (vs ++ Val env d.term ∷ [])) (sym push) (within_more found.defs vs r (Val env d.term) same in_defs here) in
      let long : length (vs ++ Val env d.term ∷ []) ≡ length new.defs = long_more vs found.defs (Val env d.term) r same ∙ ap length (sym push) in
      subst (λ es. AreWithin x.defs (def_values xs vs es)) (sym whole) (h xs (vs ++ Val env d.term ∷ []) (subst (λ ts. AreWithin ts xs) (sym taps) in_taps) more long))

-- ---- the whole

pub may_follow : (images : List ImageDecl) (taps : List TapOf) (defs ds : List Definition) (rs none : List Range) → All IsDeclared images → rs ≡ map (tap_range images) taps → none ≡ [] → AreDefined (names_behind images taps []) defs → ds ≡ defs →
    MayFollow (ranges_of rs none) ds
may_follow images taps defs ds rs none declared is empty defined same =
    (names_behind images taps [], subst (λ n. AreEntries (names_behind images taps []) (ranges_of rs n)) (sym empty) (tap_entries images taps rs declared is), subst (AreDefined (names_behind images taps [])) (sym same) defined)

pub all_ranged : (E : Type 0) (o : Result Ranges E) (images : List ImageDecl) (taps : List TapOf) (defs ds : List Definition) (rs none : List Range) → All IsDeclared images → rs ≡ map (tap_range images) taps → none ≡ [] → AreDefined (names_behind images taps []) defs → ds ≡ defs →
    IfOk o (λ x. (names : Names) → AreEntries names (ranges_of rs none) → AreDefined names ds → AreEntries (with_defs names ds) x) → IfOk o (λ x. (t : Term) → is_named (names_behind images taps defs) t ≡ true → are_ranges_of x t ≡ true)
all_ranged E o images taps defs ds rs none declared is empty defined same =
    ok_map E o (λ x. (names : Names) → AreEntries names (ranges_of rs none) → AreDefined names ds → AreEntries (with_defs names ds) x) (λ x. (t : Term) → is_named (names_behind images taps defs) t ≡ true → are_ranges_of x t ≡ true) (λ x h.
    let entries = subst (λ n. AreEntries (names_behind images taps []) (ranges_of rs n)) (sym empty) (tap_entries images taps rs declared is) in
    let all = h (names_behind images taps []) entries (subst (AreDefined (names_behind images taps [])) (sym same) defined) in
    entries_range (names_behind images taps defs) x (subst (λ es. AreEntries (names_behind images taps es) x) same all))

pub ranges_more : (images : List ImageDecl) (taps : List TapOf) (i : ℕ) (e : TapOf) (n : ℕ) (d : ImageDecl) (rs new : List Range) (r : Range) → rs ≡ map (tap_range images) (take i taps) → i < length taps → All (λ t. t.image < length images) taps →
    n ≡ (get_or taps i e).image → d ≡ get_or images n d → new ≡ rs ++ r ∷ [] → within (declared_range d) ≡ Some r → new ≡ map (tap_range images) (take (i + 1) taps)
ranges_more images taps i e n d rs new r before below near from at push is =
    let t = get_or taps i e in
    let under : n < length images = subst (λ m. m < length images) (sym from) (near i e below) in
    let same : declared_range d ≡ tap_range images t = ap declared_range (at ∙ get_or_default images n d no_decl under ∙ ap (λ m. get_or images m no_decl) from) in
    push ∙ ap (λ s. rs ++ s ∷ []) (sym (within_some (declared_range d) r is).1 ∙ same) ∙ ap (λ ss. ss ++ tap_range images t ∷ []) before ∙ sym (map-append (tap_range images) (take i taps) (t ∷ [])) ∙ ap (map (tap_range images)) (sym (take_more taps i e below))
