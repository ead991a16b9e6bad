-- More taps and definitions behind the known ones change no term's text.
use Rattle.std.proofs.Common.{◌≡◌, refl, sym, ◌∙◌, ap, subst, ℕ, ◌<◌, Bool, true, List, [], ◌∷◌, ◌++◌, length, map, arith, length-append}
use Rattle.std.specs.Prelude.{nat_lt}
use Rattle.std.proofs.Math.ListN.{get_or-append}
use Rattle.std.proofs.lemmas.Bool.{and_from, and_parts, lt-ltb, ltb-true}
use Rattle.pf_ints.specs.declared.lane.LaneType.{LaneType}
use Rattle.pf_values.specs.declared.names.DefName.{DefName}
use Rattle.pf_values.specs.declared.names.Names.{Names}
use Rattle.pf_values.specs.declared.names.Tap.{Tap as TapOf}
use Rattle.pf_values.specs.declared.term.Leaf.{Leaf as LeafOf}
use Rattle.pf_values.specs.declared.term.Leaf.TheVariants.{Tap, Const, Def}
use Rattle.pf_values.specs.declared.term.Term.{Term, roll-Term, map-Term}
use Rattle.pf_values.specs.declared.term.Term.TheOpen.{Term-F}
use Rattle.pf_values.specs.declared.term.Term.TheOpen.Term-F.{Leaf, Node}
use Rattle.pf_values.specs.declared.term.Term.TheFolds.{fold-roll-Term, ind-Term}
use Rattle.pf_values.specs.Meaning.Terms.{same_type, all_true}
use Rattle.pf_terms.specs.Meaning.TermTexts.{term_text, text_step, leaf_text, tap_text, node_text}
use Rattle.pf_values.specs.Meaning.NamedTerms.{is_named, is_named_leaf, is_named_tap, named_step, no_tap, no_def}

-- these names with more taps and more definitions behind them
abbrev pub more_names : Names → List TapOf → List DefName → Names
more_names n taps defs = record n { taps = n.taps ++ taps; defs = n.defs ++ defs }

-- a term that the names serve is served by more names, and its text is the same
pub record StaysNamed (a b : Names) (t : Term) : Type 0 where
  pub named : is_named b t ≡ true
  pub text : term_text b t ≡ term_text a t

abbrev Stays : Names → Names → Term → Type 0
Stays a b t = is_named a t ≡ true → StaysNamed a b t

module _ (a : Names) (taps : List TapOf) (defs : List DefName) where
  leaf_named : (leaf : LeafOf) (ty : LaneType) → is_named_leaf a leaf ty ≡ true → is_named_leaf (more_names a taps defs) leaf ty ≡ true
  leaf_named (Tap n) ty h =
      let less : n < length a.taps = ltb-true n (length a.taps) (and_parts _ _ h).0 in
      let more : n < length (a.taps ++ taps) = omega (arith, length-append a.taps taps) in
      and_from _ _ (lt-ltb n _ more) (ap (λ t. is_named_tap a.images t ty) (get_or-append a.taps taps no_tap n less) ∙ (and_parts (nat_lt n (length a.taps)) _ h).1)
  leaf_named (Const n) ty h = refl
  leaf_named (Def n) ty h =
      let less : n < length a.defs = ltb-true n (length a.defs) (and_parts _ _ h).0 in
      let more : n < length (a.defs ++ defs) = omega (arith, length-append a.defs defs) in
      and_from _ _ (lt-ltb n _ more) (ap (λ t. same_type t.ty ty) (get_or-append a.defs defs no_def n less) ∙ (and_parts (nat_lt n (length a.defs)) _ h).1)

  leaf_same : (leaf : LeafOf) (ty : LaneType) → is_named_leaf a leaf ty ≡ true → leaf_text (more_names a taps defs) leaf ty ≡ leaf_text a leaf ty
  leaf_same (Tap n) ty h = ap (λ t. tap_text a.images t) (get_or-append a.taps taps no_tap n (ltb-true n (length a.taps) (and_parts _ _ h).0))
  leaf_same (Const n) ty h = refl
  leaf_same (Def n) ty h = ap (λ t. t.name) (get_or-append a.defs defs no_def n (ltb-true n (length a.defs) (and_parts _ _ h).0))

  each_stays : (fs : List ((t : Term) × Stays a (more_names a taps defs) t)) → all_true (map (is_named a) (map (λ e. e.0) fs)) ≡ true →
      (all_true (map (is_named (more_names a taps defs)) (map (λ e. e.0) fs)) ≡ true) × (map (term_text (more_names a taps defs)) (map (λ e. e.0) fs) ≡ map (term_text a) (map (λ e. e.0) fs))
  each_stays [] h = (refl, refl)
  each_stays (e ∷ fs) h =
      let here = e.1 (and_parts _ _ h).0 in
      let rest = each_stays fs (and_parts (is_named a e.0) _ h).1 in
      (and_from _ _ here.named rest.0, ap (λ x. x ∷ map (term_text (more_names a taps defs)) (map (λ g. g.0) fs)) here.text ∙ ap (λ xs. term_text a e.0 ∷ xs) rest.1)

  layer_stays : (y : Term-F ((t : Term) × Stays a (more_names a taps defs) t)) → Stays a (more_names a taps defs) (roll-Term (map-Term _ Term (λ e. e.0) y))
  layer_stays (Leaf leaf ty) h =
      let known : is_named_leaf a leaf ty ≡ true = sym (fold-roll-Term Bool (named_step a) (Leaf leaf ty)) ∙ h in
      record {
        named = fold-roll-Term Bool (named_step (more_names a taps defs)) (Leaf leaf ty) ∙ leaf_named leaf ty known;
        text = fold-roll-Term (List ℕ) (text_step (more_names a taps defs)) (Leaf leaf ty) ∙ leaf_same leaf ty known ∙ sym (fold-roll-Term (List ℕ) (text_step a) (Leaf leaf ty));
      }
  layer_stays (Node op ty k fs) h =
      let args = map (λ e. e.0) fs in
      let known : all_true (map (is_named a) args) ≡ true = sym (fold-roll-Term Bool (named_step a) (Node op ty k args)) ∙ h in
      let all = each_stays fs known in
      record {
        named = fold-roll-Term Bool (named_step (more_names a taps defs)) (Node op ty k args) ∙ all.0;
        text = fold-roll-Term (List ℕ) (text_step (more_names a taps defs)) (Node op ty k args) ∙ ap (node_text op ty k) all.1 ∙ sym (fold-roll-Term (List ℕ) (text_step a) (Node op ty k args));
      }

  pub stays_named : (t : Term) → is_named a t ≡ true → StaysNamed a (more_names a taps defs) t
  stays_named = ind-Term (λ t. Stays a (more_names a taps defs) t) (λ x y is. subst (λ z. Stays a (more_names a taps defs) (roll-Term z)) is (layer_stays y))
