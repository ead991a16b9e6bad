-- The parts of a term, with their intervals.
use Rattle.std.proofs.Common.{◌≡◌, refl, sym, ap, ◌∙◌, subst, ℕ, zero, suc, ◌-◌, ◌≤◌, List, [], ◌∷◌, length, map, get_or, take, drop, Option, Some, None, arith}
use Rattle.std.proofs.lemmas.List.{take_all}
use Rattle.std.specs.Prelude.{option_and_then, option_map, slice_get, MatchOption}
use Rattle.pf_ints.specs.declared.lane.LaneType.{LaneType}
use Rattle.pf_ints.specs.Meaning.Ranges.{Range}
use Rattle.pf_values.specs.declared.op.Op.{Op}
use Rattle.pf_values.specs.declared.term.Leaf.{Leaf as LeafOf}
use Rattle.pf_values.specs.declared.term.Term.{Term}
use Rattle.pf_values.specs.declared.term.Term.TheVariants.{Leaf, Node, rolls-Leaf, rolls-Node}
use Rattle.pf_values.specs.declared.term.Term.TheOpen.{Term-F}
use Rattle.pf_values.specs.declared.term.Term.TheOpen.Term-F.{Leaf as LeafLayer, Node as NodeLayer}
use Rattle.pf_values.specs.declared.term.Term.TheViews.{roll-Term, out-Term, out-roll-Term}
use Rattle.pf_values.specs.declared.term.Term.TheFolds.{ind-Term, map-Term}
use Rattle.pf_values.specs.Meaning.Terms.{IsWellTyped}
use Rattle.pf_values.proofs.TermRanges.{AreTyped, typed_node}
use Rattle.pf_bounds.specs.declared.ranges.Ranges.{Ranges}
use Rattle.pf_bounds.specs.declared.kept.Bounds.{Bounds}
use Rattle.pf_bounds.specs.declared.kept.Bounds.TheVariants as mark
use Rattle.pf_bounds.specs.declared.kept.Bounds.TheOpen.{Bounds-F}
use Rattle.pf_bounds.specs.declared.kept.Bounds.TheOpen.Bounds-F.{Leaf as LeafMark, Node as NodeMark}
use Rattle.pf_bounds.specs.declared.kept.Bounds.TheViews.{out-Bounds, out-roll-Bounds}
use Rattle.pf_bounds.specs.Meaning.TermBounds.{leaf_range, row_range, all_of, interval_of, operands_step, operands, part_of, interval_at}
use Rattle.pf_bounds.specs.Meaning.KeptBounds.{whole, marks, mark_at, type_at, Suits, IsBounded}
use Rattle.pf_bounds.proofs.TermLaws.{from_all, interval_leaf, interval_node}
use Rattle.pf_forms.proofs.BoundLaws.{from_one}
use Rattle.pf_bounds.proofs.KeptLaws.{from_head, whole_leaf, whole_node, marks_leaf, marks_node, at_leaf, at_node, type_node, type_root, mark_root}

-- ---- the interval of the whole
abbrev TellsWhole : Ranges → Term → Type 0
TellsWhole ranges t = (b : Bounds) → marks ranges t ≡ Some b → interval_of ranges t ≡ Some (whole b)

wholes_told : (ranges : Ranges) (ps : List ((t : Term) × TellsWhole ranges t)) (bs : List Bounds) → all_of (map (marks ranges) (map (λ p. p.0) ps)) ≡ Some bs → all_of (map (interval_of ranges) (map (λ p. p.0) ps)) ≡ Some (map whole bs)
wholes_told ranges [] bs e = let none : [] ≡ bs = cc in subst (λ cs. all_of [] ≡ Some (map whole cs)) none refl
wholes_told ranges (p ∷ ps) bs e =
    let h = from_head (marks ranges p.0) (all_of (map (marks ranges) (map (λ q. q.0) ps))) bs e in
    subst (λ cs. all_of (map (interval_of ranges) (map (λ q. q.0) (p ∷ ps))) ≡ Some (map whole cs)) (sym h.4) (rw (p.1 h.0 h.2, wholes_told ranges ps h.1 h.3) refl)

layer_told : (ranges : Ranges) (y : Term-F ((t : Term) × TellsWhole ranges t)) → TellsWhole ranges (roll-Term (map-Term ((t : Term) × TellsWhole ranges t) Term (λ e. e.0) y))
layer_told ranges (LeafLayer leaf ty) = subst (TellsWhole ranges) (sym (rolls-Leaf leaf ty)) (λ b e.
    let p = from_one (λ r. mark.Leaf r) (leaf_range ranges leaf) b (sym (marks_leaf ranges leaf ty) ∙ e) in
    interval_leaf ranges leaf ty ∙ p.1 ∙ ap (λ r. Some r) (sym (ap whole (sym p.2) ∙ whole_leaf p.0)))
layer_told ranges (NodeLayer op ty k ps) =
    let args = map (λ p. p.0) ps in
    subst (TellsWhole ranges) (sym (rolls-Node op ty k args)) (λ b e.
    let all = from_all (λ below. option_map (λ r. mark.Node r below) (row_range op ty k (map whole below))) (all_of (map (marks ranges) args)) b (sym (marks_node ranges op ty k args) ∙ e) in
    let row = from_one (λ r. mark.Node r all.0) (row_range op ty k (map whole all.0)) b all.2 in
    interval_node ranges op ty k args ∙ ap (option_and_then (row_range op ty k)) (wholes_told ranges ps all.0 all.1) ∙ row.1 ∙ ap (λ r. Some r) (sym (ap whole (sym row.2) ∙ whole_node row.0 all.0)))

pub marks_interval : (ranges : Ranges) (t : Term) → TellsWhole ranges t
marks_interval ranges = ind-Term (TellsWhole ranges) (λ x y is. subst (λ z. TellsWhole ranges (roll-Term z)) is (layer_told ranges y))

-- ---- an operand
operands_leaf : (t : Term) (leaf : LeafOf) (ty : LaneType) → t ≡ Leaf leaf ty → operands t ≡ []
operands_leaf t leaf ty is = ap operands (is ∙ sym (rolls-Leaf leaf ty)) ∙ ap operands_step (out-roll-Term (LeafLayer leaf ty))

pub operands_node : (t : Term) (op : Op) (ty : LaneType) (k : ℕ) (args : List Term) → t ≡ Node op ty k args → operands t ≡ args
operands_node t op ty k args is = ap operands (is ∙ sym (rolls-Node op ty k args)) ∙ ap operands_step (out-roll-Term (NodeLayer op ty k args))

abbrev below_step : {A : Type 0} → Bounds-F A → List A
below_step (LeafMark r) = []
below_step (NodeMark r below) = below

abbrev below_of : Bounds → List Bounds
below_of b = below_step (out-Bounds b)

below_node : (r : Range) (below : List Bounds) → below_of (mark.Node r below) ≡ below
below_node r below = ap below_of (sym (mark.rolls-Node r below)) ∙ ap below_step (out-roll-Bounds (NodeMark r below))

typed_at : (ts : List Term) (i : ℕ) (x : Term) → AreTyped ts → slice_get ts i ≡ Some x → IsWellTyped x
typed_at [] i x h e = absurd (cc)
typed_at (t ∷ ts) zero x h e = let same : t ≡ x = cc in subst IsWellTyped same h.0
typed_at (t ∷ ts) (suc i) x h e = typed_at ts i x h.1 e

get_map : {A B : Type 0} (f : A → B) (xs : List A) (i : ℕ) → slice_get (map f xs) i ≡ option_map f (slice_get xs i)
get_map f [] i = refl
get_map f (x ∷ xs) zero = refl
get_map f (x ∷ xs) (suc i) = get_map f xs i

pub no_operand : (t : Term) (leaf : LeafOf) (ty : LaneType) (i : ℕ) → t ≡ Leaf leaf ty → slice_get (operands t) i ≡ None
no_operand t leaf ty i is = ap (λ xs. slice_get xs i) (operands_leaf t leaf ty is)

pub is_operand : (t : Term) (op : Op) (ty : LaneType) (k : ℕ) (args : List Term) (i : ℕ) (o : Option Term) → t ≡ Node op ty k args → o ≡ slice_get args i → slice_get (operands t) i ≡ o
is_operand t op ty k args i o is e = ap (λ xs. slice_get xs i) (operands_node t op ty k args is) ∙ sym e

-- the types and the intervals one step below
type_below : (t : Term) (op : Op) (ty : LaneType) (k : ℕ) (args : List Term) (i : ℕ) (path : List ℕ) (x : Term) → t ≡ Node op ty k args → slice_get args i ≡ Some x → type_at t (i ∷ path) ≡ type_at x path
type_below t op ty k args i path x is e =
    ap (λ f. f (i ∷ path)) (ap type_at is ∙ type_node op ty k args) ∙ ap (option_and_then (λ f. f path)) (get_map type_at args i ∙ ap (option_map type_at) e)

mark_below : (b : Bounds) (r : Range) (below : List Bounds) (i : ℕ) (path : List ℕ) → b ≡ mark.Node r below → mark_at b (i ∷ path) ≡ option_and_then (λ f. f path) (option_map mark_at (slice_get below i))
mark_below b r below i path is = at_node b r below (i ∷ path) is ∙ ap (option_and_then (λ f. f path)) (get_map mark_at below i)

unmarked : (t : Term) (b : Bounds) (op : Op) (ty : LaneType) (k : ℕ) (args : List Term) (i : ℕ) → IsBounded t b → t ≡ Node op ty k args → mark_at b (i ∷ []) ≡ None → slice_get (operands t) i ≡ None
unmarked t b op ty k args i h is none = ap (λ xs. slice_get xs i) (operands_node t op ty k args is) ∙ by (slice_get args i) refl where
  by : (o : Option Term) → slice_get args i ≡ o → slice_get args i ≡ None
  by None e = e
  by (Some x) e = absurd (subst (λ p. Suits None p) (type_below t op ty k args i [] x is e ∙ type_root x) (subst (λ p. Suits p (type_at t (i ∷ []))) none (h.suits (i ∷ []))))

pub no_mark_alone : (t : Term) (b : Bounds) (op : Op) (ty : LaneType) (k : ℕ) (args : List Term) (r : Range) (i : ℕ) → IsBounded t b → t ≡ Node op ty k args → b ≡ mark.Leaf r → slice_get (operands t) i ≡ None
no_mark_alone t b op ty k args r i h is alone = unmarked t b op ty k args i h is (at_leaf b r (i ∷ []) alone)

pub no_mark_below : (t : Term) (b : Bounds) (op : Op) (ty : LaneType) (k : ℕ) (args : List Term) (r : Range) (below : List Bounds) (i : ℕ) (o : Option Bounds) → IsBounded t b → t ≡ Node op ty k args → b ≡ mark.Node r below → o ≡ slice_get below i → o ≡ None → slice_get (operands t) i ≡ None
no_mark_below t b op ty k args r below i o h is node e none =
    unmarked t b op ty k args i h is (mark_below b r below i [] node ∙ ap (λ p. option_and_then (λ f. f []) (option_map mark_at p)) (sym e ∙ none))

pub operand_bounded : (t : Term) (b : Bounds) (op : Op) (ty : LaneType) (k : ℕ) (args : List Term) (r : Range) (below : List Bounds) (i : ℕ) (x : Term) (c : Bounds) → IsBounded t b → t ≡ Node op ty k args → b ≡ mark.Node r below →
    slice_get args i ≡ Some x → slice_get below i ≡ Some c → IsBounded x c
operand_bounded t b op ty k args r below i x c h is node e f = record {
  typed = typed_at args i x (typed_node op ty k args (subst IsWellTyped is h.typed)).operands e;
  suits = λ path. subst (λ o. Suits o (type_at x path)) (mark_below b r below i path node ∙ ap (λ p. option_and_then (λ g. g path) (option_map mark_at p)) f) (subst (Suits (mark_at b (i ∷ path))) (type_below t op ty k args i path x is e) (h.suits (i ∷ path)));
}

nth_marked : (ranges : Ranges) (ts : List Term) (bs : List Bounds) (i : ℕ) (x : Term) (c : Bounds) → all_of (map (marks ranges) ts) ≡ Some bs → slice_get ts i ≡ Some x → slice_get bs i ≡ Some c → marks ranges x ≡ Some c
nth_marked ranges [] bs i x c all e f = absurd (cc)
nth_marked ranges (t ∷ ts) bs zero x c all e f =
    let h = from_head (marks ranges t) (all_of (map (marks ranges) ts)) bs all in
    let g : slice_get (h.0 ∷ h.1) 0 ≡ Some c = subst (λ cs. slice_get cs 0 ≡ Some c) h.4 f in
    let same : t ≡ x = cc in
    let alike : h.0 ≡ c = cc in
    ap (marks ranges) (sym same) ∙ h.2 ∙ ap (λ s. Some s) alike
nth_marked ranges (t ∷ ts) bs (suc i) x c all e f =
    let h = from_head (marks ranges t) (all_of (map (marks ranges) ts)) bs all in
    nth_marked ranges ts h.1 i x c h.3 e (subst (λ cs. slice_get cs (suc i) ≡ Some c) h.4 f)

pub operand_kept : (ranges : Ranges) (t : Term) (b : Bounds) (op : Op) (ty : LaneType) (k : ℕ) (args : List Term) (r : Range) (below : List Bounds) (i : ℕ) (x : Term) (c : Bounds) → marks ranges t ≡ Some b → t ≡ Node op ty k args → b ≡ mark.Node r below →
    slice_get args i ≡ Some x → slice_get below i ≡ Some c → marks ranges x ≡ Some c
operand_kept ranges t b op ty k args r below i x c kept is node e f =
    let all = from_all (λ bs. option_map (λ s. mark.Node s bs) (row_range op ty k (map whole bs))) (all_of (map (marks ranges) args)) b (sym (marks_node ranges op ty k args) ∙ sym (ap (marks ranges) is) ∙ kept) in
    let row = from_one (λ s. mark.Node s all.0) (row_range op ty k (map whole all.0)) b all.2 in
    let same : all.0 ≡ below = sym (below_node row.0 all.0) ∙ ap below_of (row.2 ∙ node) ∙ below_node r below in
    nth_marked ranges args below i x c (all.1 ∙ ap (λ bs. Some bs) same) e f

-- ---- a step along a path
pub step_part : (t : Term) (path : List ℕ) (i : ℕ) (o : Option Term) → 1 ≤ length path → i ≡ get_or path 0 0 → slice_get (operands t) i ≡ o → part_of t path ≡ option_and_then (λ x. part_of x (take (length path - 1) (drop 1 path))) o
step_part t [] i o some at e = absurd (omega (arith, some))
step_part t (j ∷ path) i o some at e =
    let rest : take (length (j ∷ path) - 1) path ≡ path = take_all (length (j ∷ path) - 1) path (omega arith) in
    ap (λ n. option_and_then (λ x. part_of x path) (slice_get (operands t) n)) (sym at) ∙ ap (option_and_then (λ x. part_of x path)) e ∙ ap (λ p. option_and_then (λ x. part_of x p) o) (sym rest)

pub part_interval : (ranges : Ranges) (t x : Term) (b : Bounds) (path : List ℕ) → part_of t path ≡ Some x → marks ranges x ≡ Some b → Some (whole b) ≡ interval_at ranges t path
part_interval ranges t x b path part kept = sym (ap (option_and_then (interval_of ranges)) part ∙ marks_interval ranges x b kept)

pub no_interval : (ranges : Ranges) (t : Term) (path : List ℕ) → part_of t path ≡ None → None ≡ interval_at ranges t path
no_interval ranges t path none = sym (ap (option_and_then (interval_of ranges)) none)

pub none_told : {T : Type 0} (r : Option T) (P : Type 0) (Q : T → Type 0) → r ≡ None → P → MatchOption r P Q
none_told r P Q none h = subst (λ o. MatchOption o P Q) (sym none) h
