-- Terms that are made by hand are ready for their bounds.
use Rattle.std.proofs.Common.{◌≡◌, refl, sym, ap, ◌∙◌, ℕ, ◌+◌, Bool, true, List, [], ◌∷◌, length, map}
use Rattle.std.specs.Prelude.{Result, Ok}
use Rattle.std.proofs.lemmas.List.{length-map}
use Rattle.pf_ints.specs.declared.lane.LaneType.{LaneType}
use Rattle.pf_values.specs.declared.fault.TermFault.{TermFault}
use Rattle.pf_values.specs.declared.op.Op.{Op}
use Rattle.pf_values.specs.declared.term.Leaf.{Leaf as LeafOf}
use Rattle.pf_values.specs.declared.term.Term.{Term}
use Rattle.pf_values.specs.declared.term.Term.TheVariants.{Leaf, Node, rolls-Leaf}
use Rattle.pf_values.specs.declared.term.Term.TheOpen.Term-F.{Leaf as LeafLayer}
use Rattle.pf_values.specs.declared.term.Term.TheFolds.{fold-roll-Term}
use Rattle.pf_values.specs.Meaning.Operators.{row_of}
use Rattle.pf_values.specs.Meaning.Terms.{all_true, is_well_formed, is_formed_leaf, is_formed_node, typing, typing_step, types_from, then_node, node_type, stated_type}
use Rattle.pf_values.proofs.NodeParts.{formed_is, typing_is}
use Rattle.pf_values.proofs.TermRanges.{stated_node, stated_leaf, formed_leaf}
use Rattle.pf_bounds.specs.declared.ranges.Ranges.{Ranges}
use Rattle.pf_bounds.specs.Meaning.TermBounds.{are_ranges_of, is_ranged_leaf}
use Rattle.pf_bounds.proofs.TermLaws.{ranged_leaf, ranged_node}
use Rattle.pf_form_tests.specs.TestedTerms.{HasRanges, IsTested}

pub leaf_tested : (leaf : LeafOf) (ty : LaneType) → is_formed_leaf leaf ty ≡ true → ((r : Ranges) → HasRanges r → is_ranged_leaf r leaf ty ≡ true) → IsTested ty (Leaf leaf ty)
leaf_tested leaf ty formed ranged =
    let typing_is : typing (Leaf leaf ty) ≡ Ok ty = ap typing (sym (rolls-Leaf leaf ty)) ∙ fold-roll-Term (Result LaneType TermFault) typing_step (LeafLayer leaf ty) in
    record {
      typed = record { formed = formed_leaf leaf ty ∙ formed; typed = typing_is ∙ ap (λ t. Ok t) (sym (stated_leaf leaf ty)) };
      stated = stated_leaf leaf ty;
      ranged = λ r h. ranged_leaf r leaf ty ∙ ranged r h;
    }

abbrev AreTested : List LaneType → List Term → Type 0
AreTested [] [] = Unit {0}
AreTested (t ∷ ts) (x ∷ xs) = IsTested t x × AreTested ts xs
AreTested [] (x ∷ xs) = ⊥
AreTested (t ∷ ts) [] = ⊥

all_formed : (ts : List LaneType) (xs : List Term) → AreTested ts xs → all_true (map is_well_formed xs) ≡ true
all_formed [] [] h = refl
all_formed [] (x ∷ xs) h = absurd h
all_formed (t ∷ ts) [] h = absurd h
all_formed (t ∷ ts) (x ∷ xs) h = rw (h.0.typed.formed, all_formed ts xs h.1) refl

all_types : (ts : List LaneType) (xs : List Term) (n : ℕ) → AreTested ts xs → types_from n (map typing xs) ≡ Ok ts
all_types [] [] n h = refl
all_types [] (x ∷ xs) n h = absurd h
all_types (t ∷ ts) [] n h = absurd h
all_types (t ∷ ts) (x ∷ xs) n h =
    let found : typing x ≡ Ok t = h.0.typed.typed ∙ ap (λ u. Ok u) h.0.stated in
    rw (found, all_types ts xs (n + 1) h.1) refl

all_ranged : (ts : List LaneType) (xs : List Term) (r : Ranges) → HasRanges r → AreTested ts xs → all_true (map (are_ranges_of r) xs) ≡ true
all_ranged [] [] r k h = refl
all_ranged [] (x ∷ xs) r k h = absurd h
all_ranged (t ∷ ts) [] r k h = absurd h
all_ranged (t ∷ ts) (x ∷ xs) r k h = rw (h.0.ranged r k, all_ranged ts xs r k h.1) refl

node_tested : (op : Op) (ty : LaneType) (k : ℕ) (ts : List LaneType) (xs : List Term) → AreTested ts xs → is_formed_node (row_of op) k (length xs) ≡ true → node_type (row_of op) ty k ts ≡ Ok ty → IsTested ty (Node op ty k xs)
node_tested op ty k ts xs h formed typed =
    let own : is_formed_node (row_of op) k (length (map is_well_formed xs)) ≡ true = ap (is_formed_node (row_of op) k) (length-map xs is_well_formed) ∙ formed in
    let found : typing (Node op ty k xs) ≡ Ok ty = typing_is op ty k xs ∙ ap (then_node (row_of op) ty k) (all_types ts xs 0 h) ∙ typed in
    record {
      typed = record { formed = formed_is op ty k xs ∙ rw (own, all_formed ts xs h) refl; typed = found ∙ ap (λ t. Ok t) (sym (stated_node op ty k xs)) };
      stated = stated_node op ty k xs;
      ranged = λ r k_is. ranged_node r op ty k xs ∙ all_ranged ts xs r k_is h;
    }

pub one_tested : (op : Op) (ty t : LaneType) (k : ℕ) (x : Term) → IsTested t x → is_formed_node (row_of op) k 1 ≡ true → node_type (row_of op) ty k (t ∷ []) ≡ Ok ty → IsTested ty (Node op ty k (x ∷ []))
one_tested op ty t k x h = node_tested op ty k (t ∷ []) (x ∷ []) (h, tt)

pub two_tested : (op : Op) (ty t u : LaneType) (k : ℕ) (x y : Term) → IsTested t x → IsTested u y → is_formed_node (row_of op) k 2 ≡ true → node_type (row_of op) ty k (t ∷ u ∷ []) ≡ Ok ty →
    IsTested ty (Node op ty k (x ∷ y ∷ []))
two_tested op ty t u k x y h i = node_tested op ty k (t ∷ u ∷ []) (x ∷ y ∷ []) (h, (i, tt))

pub four_tested : (op : Op) (ty : LaneType) (a b x y : Term) → IsTested ty a → IsTested ty b → IsTested ty x → IsTested ty y → is_formed_node (row_of op) 0 4 ≡ true →
    node_type (row_of op) ty 0 (ty ∷ ty ∷ ty ∷ ty ∷ []) ≡ Ok ty → IsTested ty (Node op ty 0 (a ∷ b ∷ x ∷ y ∷ []))
four_tested op ty a b x y h i j k = node_tested op ty 0 (ty ∷ ty ∷ ty ∷ ty ∷ []) (a ∷ b ∷ x ∷ y ∷ []) (h, (i, (j, (k, tt))))
