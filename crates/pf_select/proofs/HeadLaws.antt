-- The head of a selected text is one that a text may have.
use Rattle.std.proofs.Common.{◌≡◌, ◌≢◌, refl, sym, ap, subst, ◌∙◌, ℕ, suc, ◌<◌, ◌≤◌, Bool, true, false, List, [], ◌∷◌, ◌++◌, length, map, get_or, arith, rules, All}
use Rattle.std.specs.Prelude.{codes, ◌+◌, ◌&&◌, nat_lt, sum, IsTrue}
use Rattle.std.specs.List.{AllPairs, AllByRecursion as ByRecursion}
use Rattle.std.proofs.lemmas.Bool.Decides.{nat_tests}
use Rattle.std.proofs.lemmas.List.{append-nil, length-map}
use Rattle.std.proofs.lemmas.List.Elements.{All-from_recursion, All-push, recursion_from_All}
use Rattle.std.proofs.lemmas.List.Kept.{AllPairs-cons}
use Rattle.pf_ints.specs.Meaning.Images.{IsPixelType}
use Rattle.pf_text.specs.Meaning.Words.{is_name, is_reserved}
use Rattle.pf_values.specs.declared.kernel.Definition.{Definition}
use Rattle.pf_values.specs.declared.kernel.ImageDecl.{ImageDecl}
use Rattle.pf_values.specs.declared.names.Names.{Names}
use Rattle.pf_values.specs.declared.names.Tap.{Tap}
use Rattle.pf_values.specs.declared.op.Op.TheVariants.{Min}
use Rattle.pf_values.specs.declared.term.Leaf.TheVariants.{Tap as TapLeaf}
use Rattle.pf_values.specs.declared.term.Term.TheVariants.{rolls-Leaf, rolls-Node}
use Rattle.pf_values.specs.declared.term.Term.TheOpen.{Term-F}
use Rattle.pf_values.specs.declared.term.Term.TheOpen.Term-F.{Leaf as LeafLayer, Node as NodeLayer}
use Rattle.pf_values.specs.declared.term.Term.TheFolds.{fold-Term, fold-roll-Term}
use Rattle.pf_terms.specs.Meaning.KernelNames.{all_names, IsNearTap}
use Rattle.pf_values.specs.Meaning.Kernels.{Source}
use Rattle.pf_values.specs.Meaning.Terms.{node_count}
use Rattle.pf_values.specs.Meaning.NamedTerms.{is_named, named_step, is_named_leaf}
use Rattle.pf_machine.specs.declared.program.Head.{Head}
use Rattle.pf_machine.specs.Meaning.Heads.{IsHead, IsDecl, IsTap}
use Rattle.pf_kernel.specs.Meaning.Kernels.{Meaning, IsKernelOf, IsTermOf, names_of, names_behind, image_name, def_name, terms_of, IsDeclaredRange as IsRange}
use Rattle.pf_select.specs.Meaning.MinOfTaps.{byte_type, tap_term, min_term, IsMinOfTaps, HasTaps}
use Rattle.pf_select.specs.Meaning.Selected.{head_of}

-- ---- a fold of a tap, and of the lesser of two
fold_tap : {A : Type 0} (step : Term-F A → A) (n : ℕ) → fold-Term A step (tap_term byte_type n) ≡ step (LeafLayer (TapLeaf n) byte_type)
fold_tap {A = A} step n = ap (fold-Term A step) (sym (rolls-Leaf (TapLeaf n) byte_type)) ∙ fold-roll-Term A step (LeafLayer (TapLeaf n) byte_type)

fold_least : {A : Type 0} (step : Term-F A → A) (m n : ℕ)
    → fold-Term A step (min_term byte_type m n) ≡ step (NodeLayer Min byte_type 0 (step (LeafLayer (TapLeaf m) byte_type) ∷ step (LeafLayer (TapLeaf n) byte_type) ∷ []))
fold_least {A = A} step m n =
    ap (fold-Term A step) (sym (rolls-Node Min byte_type 0 (tap_term byte_type m ∷ tap_term byte_type n ∷ []))) ∙ fold-roll-Term A step (NodeLayer Min byte_type 0 (tap_term byte_type m ∷ tap_term byte_type n ∷ []))
    ∙ ap (λ a. step (NodeLayer Min byte_type 0 (a ∷ fold-Term A step (tap_term byte_type n) ∷ []))) (fold_tap step m)
    ∙ ap (λ b. step (NodeLayer Min byte_type 0 (step (LeafLayer (TapLeaf m) byte_type) ∷ b ∷ []))) (fold_tap step n)

both_true : (b c : Bool) → b && (c && true) ≡ true → (b ≡ true) × (c ≡ true)
both_true true true e = (refl, refl)
both_true true false e = absurd (cc)
both_true false c e = absurd (cc)

first_true : (b c : Bool) → b && c ≡ true → b ≡ true
first_true true c e = refl
first_true false c e = absurd (cc)

leaf_within : (names : Names) (n : ℕ) → is_named_leaf names (TapLeaf n) byte_type ≡ true → n < length names.taps
leaf_within names n named = let low : nat_lt n (length names.taps) ≡ true = first_true _ _ named in grind (arith, nat_tests)

-- both taps of the lesser of two are there
taps_within : (names : Names) (m n : ℕ) → is_named names (min_term byte_type m n) ≡ true → (m < length names.taps) × (n < length names.taps)
taps_within names m n named =
    let both = both_true (is_named_leaf names (TapLeaf m) byte_type) (is_named_leaf names (TapLeaf n) byte_type) (sym (fold_least (named_step names) m n) ∙ named) in
    (leaf_within names m both.0, leaf_within names n both.1)

-- ---- the head's parts

-- no name is `out`
out_reserved : is_name (codes "out") ≡ false
unfolding is_name is_reserved
out_reserved = refl

not_out : (name : List ℕ) → is_name name ≡ true → name ≢ codes "out"
not_out name h e = let same : true ≡ false = sym h ∙ ap is_name e ∙ out_reserved in cc

one_alone : {X : Type 0} (a : X) → AllPairs (λ x y. x ≢ y) (a ∷ [])
one_alone a i j d h m = absurd (omega arith)

-- one more thing behind others that it is none of
push_apart : {X : Type 0} (xs : List X) (y : X) → AllPairs (λ s t. s ≢ t) xs → All (λ s. s ≢ y) xs → AllPairs (λ s t. s ≢ t) (xs ++ y ∷ [])
push_apart [] y apart others = one_alone y
push_apart (x ∷ xs) y apart others =
    AllPairs-cons (λ s t. s ≢ t) x (xs ++ y ∷ [])
    (All-push (λ t. x ≢ t) xs y (λ k d h. apart 0 (suc k) d (omega arith) (omega arith)) (others 0 x (omega arith)))
    (push_apart xs y (λ i j d h m. apart (suc i) (suc j) d (omega arith) (omega arith)) (λ k d h. others (suc k) d (omega arith)))

same_names : (ds : List ImageDecl) → map (λ i. i.name) (map image_name ds) ≡ map (λ d. d.name) ds
same_names [] = refl
same_names (d ∷ ds) = ap (λ names. d.name ∷ names) (same_names ds)

true_name : (name : List ℕ) → is_name name ≡ true → IsTrue (is_name name)
true_name name h = search rules

decls_of : (ds : List ImageDecl) → ByRecursion IsRange ds → ByRecursion (λ i. IsPixelType i.ty) (map image_name ds) → ByRecursion (λ s. is_name s ≡ true) (map (λ d. d.name) ds) → ByRecursion IsDecl ds
decls_of [] ranges pixels names = tt
decls_of (d ∷ ds) ranges pixels names =
    (record { name = true_name d.name names.0; ty = pixels.0; ordered = ranges.0.ordered; inside = ranges.0.inside }, decls_of ds ranges.1 pixels.1 names.1)

near_tap : (count : ℕ) (t : Tap) → IsNearTap count t → IsTap count t
near_tap count t near = record { image = near.image; left = near.across.low; right = near.across.high; up = near.down.low; down = near.down.high }

module _ (k : Meaning) (kernel : IsKernelOf k) (none : k.source.defs ≡ []) where
  abbrev s : Source
  s = k.source

  abbrev image_names : List (List ℕ)
  image_names = map (λ (d : ImageDecl). d.name) s.images

  abbrev names : Names
  names = names_behind s.images s.taps []

  all_images : all_names (names_of s) ≡ image_names
  all_images = ap (λ (ds : List Definition). map (λ i. i.name) (map image_name s.images) ++ map (λ d. d.name) (map def_name ds)) none ∙ append-nil _ ∙ same_names s.images

  named : All (λ n. is_name n ≡ true) image_names
  named = subst (All (λ n. is_name n ≡ true)) all_images kernel.names.named

  apart : AllPairs (λ n m. n ≢ m) (image_names ++ codes "out" ∷ [])
  apart = push_apart image_names (codes "out") (subst (AllPairs (λ n m. n ≢ m)) all_images kernel.names.distinct_names) (λ i d h. not_out _ (named i d h))

  decls : All IsDecl s.images
  decls = All-from_recursion IsDecl s.images (decls_of s.images (recursion_from_All _ _ kernel.images) (recursion_from_All _ _ kernel.names.pixels) (recursion_from_All _ _ named))

  count : length (map image_name s.images) ≡ length s.images
  count = length-map s.images image_name

  same_behind : names_of s ≡ names
  same_behind = ap (λ (ds : List Definition). record { images = map image_name s.images; taps = s.taps; defs = map def_name ds }) none

  out_of : IsTermOf names s.out_ty s.out
  out_of = subst (λ n. IsTermOf n s.out_ty s.out) same_behind kernel.out

  nodes : sum (map node_count (terms_of s)) ≡ 0 + node_count s.out
  nodes = ap (λ (ds : List Definition). sum (map node_count (map (λ d. d.term) ds ++ s.out ∷ []))) none

  few : length s.taps ≤ 64
  few = kernel.names.few_taps

  head_is : IsHead (head_of s)
  head_is =
      let deep = out_of.depth in
      let many = kernel.nodes in
      let images = kernel.names.few_images in
      record {
        some_images = kernel.some_images;
        few_images = omega (arith, count, images);
        images = decls;
        few_taps = few;
        taps = λ i d h. near_tap (length s.images) (get_or s.taps i d) (subst (λ n. IsNearTap n (get_or s.taps i d)) count (kernel.names.near i d h));
        distinct_taps = kernel.names.distinct_taps;
        out_ty = kernel.out_ty;
        scratch = omega (arith, few);
        few_lifted = omega arith;
        lifted = (record { typed = out_of.formed; ty = out_of.typed; named = out_of.named; depth = omega (arith, deep) }, tt);
        lifted_names = refl;
        nodes = omega (arith, nodes, many);
        distinct_names = apart;
        cost = omega arith;
      }

-- a head's taps are of its images
pub head_taps_known : (h : Head) → IsHead h → All (λ t. t.image < length h.images) h.taps
head_taps_known h head i d inside = let tap = head.taps i d inside in tap.image

-- a kernel's taps are of its images
pub taps_known : (k : Meaning) → IsKernelOf k → All (λ t. t.image < length k.source.images) k.source.taps
taps_known k kernel i d h = let near = kernel.names.near i d h in omega (arith, near.image, length-map k.source.images image_name)

-- the head of a kernel that is the lesser of two taps
pub head_taps : (k : Meaning) (first second : ℕ) → IsKernelOf k → IsMinOfTaps k.source first second → HasTaps (head_of k.source) first second
head_taps k first second kernel least =
    let named = subst (λ t. is_named (names_behind k.source.images k.source.taps []) t ≡ true) least.out (out_of k kernel least.defs).named in
    let within = taps_within (names_behind k.source.images k.source.taps []) first second named in
    record {
      head = head_is k kernel least.defs;
      out_ty = least.out_ty;
      taps = least.taps;
      scratch = refl;
      first_tap = within.0;
      second_tap = within.1;
    }
