-- A term's text with the names of the whole kernel means the term behind the lines before it.
use Rattle.std.proofs.Common.{◌≡◌, refl, sym, ◌∙◌, ap, subst, ℕ, ◌+◌, ◌-◌, ◌≤◌, ◌<◌, ◌||◌, Bool, true, false, List, [], ◌∷◌, ◌++◌, length, map, take, drop, append_assoc, append-nil, arith, length-append}
use Rattle.std.specs.Prelude.{None, max, nat_lt}
use Rattle.std.specs.List.{concat, list_any, position_or_len}
use Rattle.std.proofs.Math.ListN.{get_or-append}
use Rattle.std.proofs.lemmas.List.{length-take-le, take-append-drop}
use Rattle.std.proofs.lemmas.Bool.{and_from, and_parts, lt-ltb}
use Rattle.pf_ints.specs.declared.lane.LaneType.{LaneType}
use Rattle.pf_terms.specs.declared.parse.syntax_tree.SyntaxTree.{SyntaxTree}
use Rattle.pf_values.specs.declared.names.DefName.{DefName}
use Rattle.pf_values.specs.declared.names.Names.{Names}
use Rattle.pf_values.specs.declared.names.Tap.{Tap as TapOf}
use Rattle.pf_values.specs.declared.term.Leaf.{Leaf as LeafOf}
use Rattle.pf_values.specs.declared.term.Leaf.TheVariants.{Tap, Const, Def}
use Rattle.pf_values.specs.declared.term.Term.{Term, roll-Term, map-Term}
use Rattle.pf_values.specs.declared.term.Term.TheOpen.{Term-F}
use Rattle.pf_values.specs.declared.term.Term.TheOpen.Term-F.{Leaf, Node}
use Rattle.pf_values.specs.declared.term.Term.TheFolds.{fold-roll-Term, ind-Term}
use Rattle.pf_terms.specs.Meaning.SyntaxTrees.{IsTreeText}
use Rattle.pf_terms.specs.Meaning.KernelNames.{IsNames}
use Rattle.pf_terms.specs.Meaning.Meanings.{first_unknown, first_far, names_after, term_of, tap_uses, same_tap, with_taps, tap_number}
use Rattle.pf_values.specs.Meaning.Terms.{all_true, depth_of, IsWellTyped}
use Rattle.pf_terms.specs.Meaning.TermTexts.{term_text}
use Rattle.pf_values.specs.Meaning.NamedTerms.{is_named, is_named_leaf, is_named_tap, named_step, no_tap}
use Rattle.pf_terms.proofs.ReadBackMeanings.{printed_is_read}
use Rattle.pf_terms.proofs.TapLists.{Each, each_front, each_behind, same_tap_is}
use Rattle.pf_kernel.specs.Meaning.Kernels.{taps_step, taps_in, AreInTurn}
use Rattle.pf_kernel.proofs.Extending.{more_names, stays_named}
use Rattle.pf_kernel.proofs.Turns.{there, place_later, adds_by, term_uses}

-- ---- numbers in turn
turn_grows : (ns : List ℕ) (n m : ℕ) → AreInTurn n ns m → n ≤ m
turn_grows [] n m h = omega arith
turn_grows (t ∷ ts) n m h = let rest = turn_grows ts (max n (t + 1)) m h.1 in omega arith

turn_below : (ns : List ℕ) (n m : ℕ) → AreInTurn n ns m → Each (λ t. t < m) ns
turn_below [] n m h = tt
turn_below (t ∷ ts) n m h = (let rest = turn_grows ts (max n (t + 1)) m h.1 in omega arith, turn_below ts (max n (t + 1)) m h.1)

-- the count between two lists of numbers
turn_split : (xs ys : List ℕ) (n l : ℕ) → AreInTurn n (xs ++ ys) l → (m : ℕ) × AreInTurn n xs m × AreInTurn m ys l
turn_split [] ys n l h = (n, refl, h)
turn_split (x ∷ xs) ys n l h = let rest = turn_split xs ys (max n (x + 1)) l h.1 in (rest.0, (h.0, rest.1), rest.2)

-- behind the known taps the new ones of the first numbers, and those that are left
pub record IsTurn (known rest : List TapOf) (xs ys : List ℕ) : Type 0 where
  pub new : List TapOf
  pub left : List TapOf
  pub parts : known ++ rest ≡ (known ++ new) ++ left
  pub here : AreInTurn (length known) xs (length (known ++ new))
  pub onward : AreInTurn (length (known ++ new)) ys (length (known ++ rest))

pub taps_split : (known rest : List TapOf) (xs ys : List ℕ) → AreInTurn (length known) (xs ++ ys) (length (known ++ rest)) → IsTurn known rest xs ys
taps_split known rest xs ys h =
    let split = turn_split xs ys (length known) (length (known ++ rest)) h in
    let m : ℕ = split.0 in
    let low : length known ≤ m = turn_grows xs (length known) m split.1 in
    let high : m ≤ length (known ++ rest) = turn_grows ys m (length (known ++ rest)) split.2 in
    let n : ℕ = m - length known in
    let fits : n ≤ length rest = omega (arith, length-append known rest) in
    let count : m ≡ length (known ++ take n rest) = omega (arith, length-append known (take n rest), length-take-le n rest fits) in
    record {
      new = take n rest;
      left = drop n rest;
      parts = ap (λ ts. known ++ ts) (sym (take-append-drop n rest)) ∙ sym (append_assoc known (take n rest) (drop n rest));
      here = subst (λ (k : ℕ). AreInTurn (length known) xs k) count split.1;
      onward = subst (λ (k : ℕ). AreInTurn k ys (length (known ++ rest))) count split.2;
    }

-- ---- a term whose taps are among the first ones
module _ (a : Names) (rest : List TapOf) where
  abbrev Low : Term → Type 0
  Low t = is_named (record a { taps = a.taps ++ rest }) t ≡ true → Each (λ n. n < length a.taps) (taps_in t) → is_named a t ≡ true

  leaf_low : (leaf : LeafOf) (ty : LaneType) → is_named_leaf (record a { taps = a.taps ++ rest }) leaf ty ≡ true → Each (λ n. n < length a.taps) (taps_step (Leaf leaf ty)) → is_named_leaf a leaf ty ≡ true
  leaf_low (Tap n) ty h low =
      and_from _ _ (lt-ltb n (length a.taps) low.0) (ap (λ t. is_named_tap a.images t ty) (sym (get_or-append a.taps rest no_tap n low.0)) ∙ (and_parts (nat_lt n (length (a.taps ++ rest))) _ h).1)
  leaf_low (Const n) ty h low = refl
  leaf_low (Def n) ty h low = h

  each_low : (fs : List ((t : Term) × Low t)) → all_true (map (is_named (record a { taps = a.taps ++ rest })) (map (λ e. e.0) fs)) ≡ true → Each (λ n. n < length a.taps) (concat (map taps_in (map (λ e. e.0) fs))) →
      all_true (map (is_named a) (map (λ e. e.0) fs)) ≡ true
  each_low [] h low = refl
  each_low (e ∷ fs) h low =
      let others = concat (map taps_in (map (λ g. g.0) fs)) in
      and_from _ _ (e.1 (and_parts _ _ h).0 (each_front _ (taps_in e.0) others low)) (each_low fs (and_parts (is_named (record a { taps = a.taps ++ rest }) e.0) _ h).1 (each_behind _ (taps_in e.0) others low))

  layer_low : (y : Term-F ((t : Term) × Low t)) → Low (roll-Term (map-Term _ Term (λ e. e.0) y))
  layer_low (Leaf leaf ty) h low =
      fold-roll-Term Bool (named_step a) (Leaf leaf ty)
      ∙ leaf_low leaf ty (sym (fold-roll-Term Bool (named_step (record a { taps = a.taps ++ rest })) (Leaf leaf ty)) ∙ h) (subst (Each (λ n. n < length a.taps)) (fold-roll-Term (List ℕ) taps_step (Leaf leaf ty)) low)
  layer_low (Node op ty k fs) h low =
      let args = map (λ e. e.0) fs in
      fold-roll-Term Bool (named_step a) (Node op ty k args)
      ∙ each_low fs (sym (fold-roll-Term Bool (named_step (record a { taps = a.taps ++ rest })) (Node op ty k args)) ∙ h) (subst (Each (λ n. n < length a.taps)) (fold-roll-Term (List ℕ) taps_step (Node op ty k args)) low)

  low_named : (t : Term) → Low t
  low_named = ind-Term Low (λ x y is. subst (λ z. Low (roll-Term z)) is (layer_low y))

-- ---- the taps that are used, one after another
absent_place : {X : Type 0} (p : X → Bool) (xs ys : List X) → list_any p xs ≡ false → position_or_len p (xs ++ ys) ≡ length xs + position_or_len p ys
absent_place p [] ys h = omega arith
absent_place {X} p (x ∷ xs) ys h = by (λ e. absent_place p xs ys (ap (λ v. v || list_any p xs) (sym e) ∙ h)) (p x) refl where
  by : (p x ≡ false → position_or_len p (xs ++ ys) ≡ length xs + position_or_len p ys) → (v : Bool) → p x ≡ v → position_or_len p ((x ∷ xs) ++ ys) ≡ length (x ∷ xs) + position_or_len p ys
  by later true e = absurd (let all : true || list_any p xs ≡ false = ap (λ v. v || list_any p xs) (sym e) ∙ h in cc)
  by later false e = let here = place_later p x (xs ++ ys) e in let more = later e in omega arith

first_passes : {X : Type 0} (p : X → Bool) (x : X) (xs : List X) → position_or_len p (x ∷ xs) ≡ 0 → p x ≡ true
first_passes p x xs h = by (p x) refl where
  by : (v : Bool) → p x ≡ v → p x ≡ true
  by true e = e
  by false e = absurd (let here = place_later p x xs e in omega arith)

no_more : {X : Type 0} (xs ys : List X) → length xs ≡ length (xs ++ ys) → xs ≡ xs ++ ys
no_more xs [] h = sym (append-nil xs)
no_more xs (y ∷ ys) h = absurd (let long = length-append xs (y ∷ ys) in omega arith)

pub taps_in_turn : (us ts new : List TapOf) → AreInTurn (length ts) (map (tap_number (ts ++ new)) us) (length (ts ++ new)) → with_taps ts us ≡ ts ++ new
taps_in_turn [] ts new h = no_more ts new h
taps_in_turn (u ∷ us) ts new h = by (taps_in_turn us) (list_any (same_tap u) ts) refl where
  known : ((xs ys : List TapOf) → AreInTurn (length xs) (map (tap_number (xs ++ ys)) us) (length (xs ++ ys)) → with_taps xs us ≡ xs ++ ys) → list_any (same_tap u) ts ≡ true → with_taps ts (u ∷ us) ≡ ts ++ new
  known later e =
      let here = there (same_tap u) ts new e in
      let less : position_or_len (same_tap u) ts < length ts = here.below in
      let place : tap_number (ts ++ new) u ≡ position_or_len (same_tap u) ts = here.same in
      let same : max (length ts) (tap_number (ts ++ new) u + 1) ≡ length ts = omega arith in
      ap (λ xs. with_taps xs us) (adds_by ts u true e) ∙ later ts new (subst (λ (n : ℕ). AreInTurn n (map (tap_number (ts ++ new)) us) (length (ts ++ new))) same h.1)

  first : ((xs ys : List TapOf) → AreInTurn (length xs) (map (tap_number (xs ++ ys)) us) (length (xs ++ ys)) → with_taps xs us ≡ xs ++ ys) → (new : List TapOf) → AreInTurn (length ts) (map (tap_number (ts ++ new)) (u ∷ us)) (length (ts ++ new)) → list_any (same_tap u) ts ≡ false → with_taps ts (u ∷ us) ≡ ts ++ new
  first later [] h e =
      absurd (let at = absent_place (same_tap u) ts [] e in
      let most = turn_grows (map (tap_number (ts ++ [])) us) _ _ h.1 in
      let none : length (ts ++ []) ≡ length ts = ap length (append-nil ts) in
      omega arith)
  first later (v ∷ new) h e =
      let at = absent_place (same_tap u) ts (v ∷ new) e in
      let zero_place : position_or_len (same_tap u) (v ∷ new) ≡ 0 = let low = h.0 in omega arith in
      let same : u ≡ v = same_tap_is u v (first_passes (same_tap u) v new zero_place) in
      let joined : ts ++ v ∷ new ≡ (ts ++ u ∷ []) ++ new = ap (λ w. ts ++ w ∷ new) (sym same) ∙ sym (append_assoc ts (u ∷ []) new) in
      let count : max (length ts) (tap_number (ts ++ v ∷ new) u + 1) ≡ length (ts ++ u ∷ []) = let long = length-append ts (u ∷ []) in omega arith in
      ap (λ xs. with_taps xs us) (adds_by ts u false e)
      ∙ later (ts ++ u ∷ []) new (subst (λ (xs : List TapOf). AreInTurn (length (ts ++ u ∷ [])) (map (tap_number xs) us) (length xs)) joined (subst (λ (n : ℕ). AreInTurn n (map (tap_number (ts ++ v ∷ new)) us) (length (ts ++ v ∷ new))) count h.1))
      ∙ sym joined

  by : ((xs ys : List TapOf) → AreInTurn (length xs) (map (tap_number (xs ++ ys)) us) (length (xs ++ ys)) → with_taps xs us ≡ xs ++ ys) → (v : Bool) → list_any (same_tap u) ts ≡ v → with_taps ts (u ∷ us) ≡ ts ++ new
  by later true e = known later e
  by later false e = first later new h e

-- ---- a term behind the lines before it
-- the text with all the names is an expression that means the term where `before` is known, and `after` is known behind it
pub record IsSpoken (before after all : Names) (t : Term) : Type 0 where
  pub tree : SyntaxTree
  pub spelled : IsTreeText (term_text all t) tree
  pub known : first_unknown before tree ≡ None
  pub near : first_far tree ≡ None
  pub made : names_after before tree ≡ after
  pub term : term_of after tree ≡ t

pub means_fewer : (b : Names) (new rest : List TapOf) (later : List DefName) (t : Term) → IsNames (record b { taps = b.taps ++ new }) → IsWellTyped t → depth_of t ≤ 1024 → is_named (record b { taps = (b.taps ++ new) ++ rest }) t ≡ true →
    AreInTurn (length b.taps) (taps_in t) (length (b.taps ++ new)) → IsSpoken b (record b { taps = b.taps ++ new }) (more_names (record b { taps = b.taps ++ new }) rest later) t
means_fewer b new rest later t names typed deep named turn =
    let a : Names = record b { taps = b.taps ++ new } in
    let low : is_named a t ≡ true = low_named a rest t named (turn_below (taps_in t) (length b.taps) (length a.taps) turn) in
    let read = printed_is_read a t names typed low deep in
    let d : SyntaxTree = read.tree in
    let same : term_of a d ≡ t = sym read.means.term in
    let numbers : taps_in t ≡ map (tap_number a.taps) (tap_uses b.images d) = ap taps_in read.means.term ∙ term_uses a d in
    let used : with_taps b.taps (tap_uses b.images d) ≡ b.taps ++ new = taps_in_turn (tap_uses b.images d) b.taps new (subst (λ (ns : List ℕ). AreInTurn (length b.taps) ns (length a.taps)) numbers turn) in
    record {
      tree = d;
      spelled = subst (λ (text : List ℕ). IsTreeText text d) (sym (stays_named a rest later t low).text) read.spelled;
      known = read.means.known;
      near = read.means.near;
      made = ap (λ (ts : List TapOf). record b { taps = ts }) used;
      term = same;
    }
