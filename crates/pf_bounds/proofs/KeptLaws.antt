-- The intervals of a term's nodes are found one after another, and that of the whole is the term's.
use Rattle.std.proofs.Common.{◌≡◌, refl, sym, ap, ◌∙◌, subst, ℕ, zero, suc, ◌+◌, ◌<◌, ◌≤◌, true, List, [], ◌∷◌, ◌++◌, length, map, get_or, take, Option, Some, None, arith}
use Rattle.std.specs.Prelude.{option_and_then, option_map, slice_get, IsSome}
use Rattle.std.proofs.lemmas.List.{take_more, take_all, length-map, map-append}
use Rattle.pf_ints.specs.declared.lane.LaneType.{LaneType}
use Rattle.pf_ints.specs.Meaning.Ranges.{Range, IsRange, lies_in, lane_range}
use Rattle.pf_values.specs.declared.op.Op.{Op}
use Rattle.pf_values.specs.declared.term.Leaf.{Leaf as LeafOf}
use Rattle.pf_values.specs.declared.term.Term.{Term}
use Rattle.pf_values.specs.declared.term.Term.TheVariants.{Leaf, Node, rolls-Leaf, rolls-Node}
use Rattle.pf_values.specs.declared.term.Term.TheOpen.{Term-F}
use Rattle.pf_values.specs.declared.term.Term.TheOpen.Term-F.{Leaf as LeafLayer, Node as NodeLayer}
use Rattle.pf_values.specs.declared.term.Term.TheViews.{roll-Term}
use Rattle.pf_values.specs.declared.term.Term.TheFolds.{fold-roll-Term, ind-Term}
use Rattle.pf_values.specs.Meaning.Operators.{row_of}
use Rattle.pf_values.specs.Meaning.Terms.{IsWellTyped, stated_type, stated_step, operand_count, first_width}
use Rattle.pf_values.proofs.NodeRanges.{judged, IsJudged}
use Rattle.pf_values.proofs.TermRanges.{typed_node}
use Rattle.pf_bounds.specs.declared.ranges.Ranges.{Ranges}
use Rattle.pf_bounds.specs.declared.kept.BoundedParts.{BoundedParts}
use Rattle.pf_bounds.specs.declared.kept.OperandParts.{OperandParts}
use Rattle.pf_bounds.specs.declared.kept.Bounds.{Bounds}
use Rattle.pf_bounds.specs.declared.kept.Bounds.TheVariants as mark
use Rattle.pf_bounds.specs.declared.kept.Bounds.TheOpen.{Bounds-F}
use Rattle.pf_bounds.specs.declared.kept.Bounds.TheOpen.Bounds-F.{Leaf as LeafMark, Node as NodeMark}
use Rattle.pf_bounds.specs.declared.kept.Bounds.TheViews.{roll-Bounds}
use Rattle.pf_bounds.specs.declared.kept.Bounds.TheFolds.{fold-roll-Bounds, ind-Bounds}
use Rattle.pf_bounds.specs.Meaning.TermBounds.{leaf_range, row_range, all_of}
use Rattle.pf_bounds.specs.Meaning.KeptBounds.{whole, whole_step, marks, marks_step, mark_at, place_step, type_at, type_step, Suits, IsBounded, AreBounded, Kept, AreKept}
use Rattle.pf_bounds.proofs.Narrowing.{Under, AreUnder, Found, lies_true, lies_low, lies_high}
use Rattle.pf_bounds.proofs.WholeTypes.{row_found}
use Rattle.pf_bounds.proofs.TermLaws.{amount_below, first_below, same_some}

pub whole_leaf : (r : Range) → whole (mark.Leaf r) ≡ r
whole_leaf r = ap whole (sym (mark.rolls-Leaf r)) ∙ fold-roll-Bounds Range whole_step (LeafMark r)

pub whole_node : (r : Range) (below : List Bounds) → whole (mark.Node r below) ≡ r
whole_node r below = ap whole (sym (mark.rolls-Node r below)) ∙ fold-roll-Bounds Range whole_step (NodeMark r below)

pub whole_told_leaf : (b : Bounds) (r : Range) → b ≡ mark.Leaf r → r ≡ whole b
whole_told_leaf b r is = sym (ap whole is ∙ whole_leaf r)

pub whole_told_node : (b : Bounds) (r : Range) (below : List Bounds) → b ≡ mark.Node r below → r ≡ whole b
whole_told_node b r below is = sym (ap whole is ∙ whole_node r below)

pub marks_leaf : (ranges : Ranges) (leaf : LeafOf) (ty : LaneType) → marks ranges (Leaf leaf ty) ≡ option_map (λ r. mark.Leaf r) (leaf_range ranges leaf)
marks_leaf ranges leaf ty = ap (marks ranges) (sym (rolls-Leaf leaf ty)) ∙ fold-roll-Term (Option Bounds) (marks_step ranges) (LeafLayer leaf ty)

pub marks_node : (ranges : Ranges) (op : Op) (ty : LaneType) (k : ℕ) (args : List Term) →
    marks ranges (Node op ty k args) ≡ option_and_then (λ below. option_map (λ r. mark.Node r below) (row_range op ty k (map whole below))) (all_of (map (marks ranges) args))
marks_node ranges op ty k args = ap (marks ranges) (sym (rolls-Node op ty k args)) ∙ fold-roll-Term (Option Bounds) (marks_step ranges) (NodeLayer op ty k args)

-- ---- what stands at the root, and what at a path
mark_leaf : (r : Range) → mark_at (mark.Leaf r) ≡ place_step (LeafMark r)
mark_leaf r = ap mark_at (sym (mark.rolls-Leaf r)) ∙ fold-roll-Bounds (List ℕ → Option Range) place_step (LeafMark r)

mark_node : (r : Range) (below : List Bounds) → mark_at (mark.Node r below) ≡ place_step (NodeMark r (map mark_at below))
mark_node r below = ap mark_at (sym (mark.rolls-Node r below)) ∙ fold-roll-Bounds (List ℕ → Option Range) place_step (NodeMark r (below))

pub at_leaf : (b : Bounds) (r : Range) (path : List ℕ) → b ≡ mark.Leaf r → mark_at b path ≡ place_step (LeafMark r) path
at_leaf b r path is = ap (λ f. f path) (ap mark_at is ∙ mark_leaf r)

pub at_node : (b : Bounds) (r : Range) (below : List Bounds) (path : List ℕ) → b ≡ mark.Node r below → mark_at b path ≡ place_step (NodeMark r (map mark_at below)) path
at_node b r below path is = ap (λ f. f path) (ap mark_at is ∙ mark_node r below)

type_leaf : (leaf : LeafOf) (ty : LaneType) → type_at (Leaf leaf ty) ≡ type_step (LeafLayer leaf ty)
type_leaf leaf ty = ap type_at (sym (rolls-Leaf leaf ty)) ∙ fold-roll-Term (List ℕ → Option LaneType) type_step (LeafLayer leaf ty)

pub type_node : (op : Op) (ty : LaneType) (k : ℕ) (args : List Term) → type_at (Node op ty k args) ≡ type_step (NodeLayer op ty k (map type_at args))
type_node op ty k args = ap type_at (sym (rolls-Node op ty k args)) ∙ fold-roll-Term (List ℕ → Option LaneType) type_step (NodeLayer op ty k args)

pub mark_root : (b : Bounds) → mark_at b [] ≡ Some (whole b)
mark_root = ind-Bounds (λ b. mark_at b [] ≡ Some (whole b)) (λ x y is. by x) where
  by : (x : Bounds-F Bounds) → mark_at (roll-Bounds x) [] ≡ Some (whole (roll-Bounds x))
  by (LeafMark r) = ap (λ f. f []) (fold-roll-Bounds (List ℕ → Option Range) place_step (LeafMark r)) ∙ ap (λ s. Some s) (sym (fold-roll-Bounds Range whole_step (LeafMark r)))
  by (NodeMark r below) = ap (λ f. f []) (fold-roll-Bounds (List ℕ → Option Range) place_step (NodeMark r below)) ∙ ap (λ s. Some s) (sym (fold-roll-Bounds Range whole_step (NodeMark r below)))

pub type_root : (t : Term) → type_at t [] ≡ Some (stated_type t)
type_root = ind-Term (λ t. type_at t [] ≡ Some (stated_type t)) (λ x y is. by x) where
  by : (x : Term-F Term) → type_at (roll-Term x) [] ≡ Some (stated_type (roll-Term x))
  by (LeafLayer leaf ty) = ap (λ f. f []) (fold-roll-Term (List ℕ → Option LaneType) type_step (LeafLayer leaf ty)) ∙ ap (λ s. Some s) (sym (fold-roll-Term LaneType (λ l. stated_step l) (LeafLayer leaf ty)))
  by (NodeLayer op ty k args) = ap (λ f. f []) (fold-roll-Term (List ℕ → Option LaneType) type_step (NodeLayer op ty k args)) ∙ ap (λ s. Some s) (sym (fold-roll-Term LaneType (λ l. stated_step l) (NodeLayer op ty k args)))

-- ---- intervals in the types of their nodes
pub root_suits : (t : Term) (b : Bounds) → IsBounded t b → IsRange (whole b) × (lies_in (whole b) (lane_range (stated_type t)) ≡ true)
root_suits t b h = subst (λ o. Suits o (Some (stated_type t))) (mark_root b) (subst (Suits (mark_at b [])) (type_root t) (h.suits []))

pub wholes_under : (ts : List Term) (bs : List Bounds) → AreBounded ts bs → AreUnder (map whole bs) (map lane_range (map stated_type ts))
wholes_under [] [] h = tt
wholes_under [] (b ∷ bs) h = absurd h
wholes_under (t ∷ ts) [] h = absurd h
wholes_under (t ∷ ts) (b ∷ bs) h =
    let s = root_suits t b h.0 in
    let all = lane_range (stated_type t) in
    (record { kept = s.0; low = lies_low (whole b) all s.1; high = lies_high (whole b) all s.1 }, wholes_under ts bs h.1)

pub bounded_count : (ts : List Term) (bs : List Bounds) → AreBounded ts bs → length bs ≡ length ts
bounded_count [] [] h = refl
bounded_count [] (b ∷ bs) h = absurd h
bounded_count (t ∷ ts) [] h = absurd h
bounded_count (t ∷ ts) (b ∷ bs) h = ap suc (bounded_count ts bs h.1)

below_suits : (ts : List Term) (bs : List Bounds) (i : ℕ) (path : List ℕ) → AreBounded ts bs →
    Suits (option_and_then (λ f. f path) (slice_get (map mark_at bs) i)) (option_and_then (λ f. f path) (slice_get (map type_at ts) i))
below_suits [] [] i path h = tt
below_suits [] (b ∷ bs) i path h = absurd h
below_suits (t ∷ ts) [] i path h = absurd h
below_suits (t ∷ ts) (b ∷ bs) zero path h = h.0.suits path
below_suits (t ∷ ts) (b ∷ bs) (suc i) path h = below_suits ts bs i path h.1

pub bounded_more : (ts : List Term) (bs : List Bounds) (t : Term) (b : Bounds) → AreBounded ts bs → IsBounded t b → AreBounded (ts ++ t ∷ []) (bs ++ b ∷ [])
bounded_more [] [] t b h k = (k, tt)
bounded_more [] (c ∷ bs) t b h k = absurd h
bounded_more (u ∷ ts) [] t b h k = absurd h
bounded_more (u ∷ ts) (c ∷ bs) t b h k = (h.0, bounded_more ts bs t b h.1 k)

pub leaf_bounded : (t : Term) (leaf : LeafOf) (ty : LaneType) (r : Range) → t ≡ Leaf leaf ty → IsWellTyped t → IsRange r → lies_in r (lane_range ty) ≡ true → IsBounded t (mark.Leaf r)
leaf_bounded t leaf ty r is typed kept member = record {
  typed = typed;
  suits = λ path. subst (λ o. Suits o (type_at t path)) (sym (at_leaf (mark.Leaf r) r path refl)) (subst (Suits (place_step (LeafMark r) path)) (sym (ap (λ f. f path) (ap type_at is ∙ type_leaf leaf ty))) (by path));
} where
  by : (path : List ℕ) → Suits (place_step (LeafMark r) path) (type_step (LeafLayer leaf ty) path)
  by [] = (kept, member)
  by (i ∷ path) = tt

-- ---- a node over such operands
pub record IsNode (op : Op) (ty : LaneType) (k : ℕ) (ts : List Term) : Type 0 where
  pub count : length ts ≡ operand_count (row_of op).operands
  pub amount : k < 64
  pub judged : IsJudged (row_of op) ty k (map stated_type ts)

pub node_of : (op : Op) (ty : LaneType) (k : ℕ) (ts : List Term) → IsWellTyped (Node op ty k ts) → IsNode op ty k ts
node_of op ty k ts typed =
    let parts = typed_node op ty k ts typed in
    let j = (judged (row_of op) ty ty k (map stated_type ts) parts.node).0 in
    record { count = parts.count; amount = amount_below (row_of op).amounts (first_width (map stated_type ts)) k (first_below (map stated_type ts)) j.amount; judged = j }

pub over_found : (op : Op) (ty : LaneType) (k : ℕ) (ts : List Term) (bs : List Bounds) → IsWellTyped (Node op ty k ts) → AreBounded ts bs → Found (row_range op ty k (map whole bs)) (lane_range ty)
over_found op ty k ts bs typed h =
    let n = node_of op ty k ts typed in
    row_found op ty k (map stated_type ts) (map whole bs) (length-map ts stated_type ∙ n.count) n.amount n.judged (wholes_under ts bs h)

-- what is asked of the operands' intervals, and that there is the node's
pub over_count : (op : Op) (ty : LaneType) (k : ℕ) (ts : List Term) (bs cs : List Bounds) → IsWellTyped (Node op ty k ts) → AreBounded ts bs → cs ≡ bs → length cs ≡ operand_count (row_of op).operands
over_count op ty k ts bs cs typed h same = ap length same ∙ bounded_count ts bs h ∙ (node_of op ty k ts typed).count

pub over_amount : (op : Op) (ty : LaneType) (k : ℕ) (ts : List Term) → IsWellTyped (Node op ty k ts) → k < 64
over_amount op ty k ts typed = (node_of op ty k ts typed).amount

pub over_some : (op : Op) (ty : LaneType) (k : ℕ) (ts : List Term) (bs cs : List Bounds) (o : Option Range) → IsWellTyped (Node op ty k ts) → AreBounded ts bs → cs ≡ bs → o ≡ row_range op ty k (map whole cs) → IsSome o
over_some op ty k ts bs cs o typed h same e = let f = over_found op ty k ts bs typed h in rw (e, same, f.is) refl

pub over_bounded : (op : Op) (ty : LaneType) (k : ℕ) (ts : List Term) (bs cs : List Bounds) (o : Option Range) (g : Range) → IsWellTyped (Node op ty k ts) → AreBounded ts bs → cs ≡ bs → o ≡ row_range op ty k (map whole cs) → o ≡ Some g →
    IsBounded (Node op ty k ts) (mark.Node g bs)
over_bounded op ty k ts bs cs o g typed h same e some = record {
  typed = typed;
  suits = λ path. subst (λ p. Suits p (type_at (Node op ty k ts) path)) (sym (at_node (mark.Node g bs) g bs path refl)) (subst (Suits (place_step (NodeMark g (map mark_at bs)) path)) (sym (ap (λ f. f path) (type_node op ty k ts))) (by path));
} where
  f : Found (row_range op ty k (map whole bs)) (lane_range ty)
  f = over_found op ty k ts bs typed h

  at_g : Under g (lane_range ty)
  at_g = subst (λ r. Under r (lane_range ty)) (same_some f.range g (sym f.is ∙ ap (λ ds. row_range op ty k (map whole ds)) (sym same) ∙ sym e ∙ some)) f.under

  by : (path : List ℕ) → Suits (place_step (NodeMark g (map mark_at bs)) path) (type_step (NodeLayer op ty k (map type_at ts)) path)
  by [] = (at_g.kept, lies_true g (lane_range ty) at_g.low at_g.high)
  by (i ∷ path) = below_suits ts bs i path h

pub over_kept : (ranges : Ranges) (op : Op) (ty : LaneType) (k : ℕ) (ts : List Term) (bs cs : List Bounds) (o : Option Range) (g : Range) → all_of (map (marks ranges) ts) ≡ Some bs → cs ≡ bs → o ≡ row_range op ty k (map whole cs) → o ≡ Some g →
    marks ranges (Node op ty k ts) ≡ Some (mark.Node g bs)
over_kept ranges op ty k ts bs cs o g all same e some =
    let row : row_range op ty k (map whole bs) ≡ Some g = ap (λ ds. row_range op ty k (map whole ds)) (sym same) ∙ sym e ∙ some in
    marks_node ranges op ty k ts ∙ ap (option_and_then (λ below. option_map (λ r. mark.Node r below) (row_range op ty k (map whole below)))) all ∙ ap (option_map (λ r. mark.Node r bs)) row

pub from_head : {A : Type 0} (o : Option A) (p : Option (List A)) (rs : List A) → option_and_then (λ s. option_map (λ more. s ∷ more) p) o ≡ Some rs →
    (s : A) × (more : List A) × (o ≡ Some s) × (p ≡ Some more) × (rs ≡ s ∷ more)
from_head None p rs e = absurd (cc)
from_head (Some s) None rs e = absurd (cc)
from_head (Some s) (Some more) rs e = (s, more, refl, refl, cc)

pub all_more : {A : Type 0} (os : List (Option A)) (o : Option A) (xs : List A) (x : A) → all_of os ≡ Some xs → o ≡ Some x → all_of (os ++ o ∷ []) ≡ Some (xs ++ x ∷ [])
all_more {A = A} [] o xs x e f = let none : [] ≡ xs = cc in rw (f, sym none) refl
all_more {A = A} (None ∷ os) o xs x e f = absurd (cc)
all_more {A = A} (Some y ∷ os) o xs x e f =
    let h = from_head (Some y) (all_of os) xs e in
    let same : h.0 ≡ y = cc in
    subst (λ ys. all_of (Some y ∷ (os ++ o ∷ [])) ≡ Some (ys ++ x ∷ [])) (sym h.4) (rw (all_more os o h.1 x h.3 f, same) refl)

pub kept_more : (ranges : Ranges) (ts : List Term) (bs : List Bounds) (t : Term) (b : Bounds) → all_of (map (marks ranges) ts) ≡ Some bs → marks ranges t ≡ Some b → all_of (map (marks ranges) (ts ++ t ∷ [])) ≡ Some (bs ++ b ∷ [])
kept_more ranges ts bs t b e f = ap all_of (map-append (marks ranges) ts (t ∷ [])) ∙ all_more (map (marks ranges) ts) (marks ranges t) bs b e f

pub with_bounded : (ts us : List Term) (bs cs : List Bounds) (t : Term) (b : Bounds) → AreBounded ts bs → IsBounded t b → us ≡ ts ++ t ∷ [] → cs ≡ bs ++ b ∷ [] → AreBounded us cs
with_bounded ts us bs cs t b h k e f = rw (e, f) (bounded_more ts bs t b h k)

pub with_kept : (ranges : Ranges) (o : OperandParts) (x : BoundedParts) (us : List Term) (cs : List Bounds) → AreKept ranges o → Kept ranges x → us ≡ o.terms ++ x.term ∷ [] → cs ≡ o.bounds ++ x.bounds ∷ [] → AreKept ranges (record { terms = us; bounds = cs })
with_kept ranges o x us cs h k e f = record { bounds = rw (e, f) (kept_more ranges o.terms o.bounds x.term x.bounds h.bounds k.bounds) }

-- ---- intervals that are found
pub record IsMarked (ranges : Ranges) (t : Term) (b : Bounds) : Type 0 where
  pub bounds : marks ranges t ≡ Some b
  pub bounded : IsBounded t b

abbrev pub AreMarked : Ranges → List Term → List Bounds → Type 0
AreMarked ranges [] [] = Unit {0}
AreMarked ranges (t ∷ ts) (b ∷ bs) = IsMarked ranges t b × AreMarked ranges ts bs
AreMarked ranges [] (b ∷ bs) = ⊥
AreMarked ranges (t ∷ ts) [] = ⊥

one_more : (ranges : Ranges) (ts : List Term) (bs : List Bounds) (t : Term) (b : Bounds) → AreMarked ranges ts bs → IsMarked ranges t b → AreMarked ranges (ts ++ t ∷ []) (bs ++ b ∷ [])
one_more ranges [] [] t b h k = (k, tt)
one_more ranges [] (c ∷ bs) t b h k = absurd h
one_more ranges (u ∷ ts) [] t b h k = absurd h
one_more ranges (u ∷ ts) (c ∷ bs) t b h k = (h.0, one_more ranges ts bs t b h.1 k)

pub marked_more : (ranges : Ranges) (xs : List Term) (bs cs : List Bounds) (n : ℕ) (x : Term) (b : Bounds) → AreMarked ranges (take n xs) bs → n < length xs → x ≡ get_or xs n x → IsMarked ranges x b → cs ≡ bs ++ b ∷ [] →
    AreMarked ranges (take (n + 1) xs) cs
marked_more ranges xs bs cs n x b h below is k e =
    let more : take (n + 1) xs ≡ take n xs ++ x ∷ [] = take_more xs n x below ∙ ap (λ y. take n xs ++ y ∷ []) (sym is) in
    rw (e, more) (one_more ranges (take n xs) bs x b h k)

pub marked_all : (ranges : Ranges) (xs : List Term) (bs : List Bounds) (n : ℕ) → AreMarked ranges (take n xs) bs → length xs ≤ n → AreMarked ranges xs bs
marked_all ranges xs bs n h past = subst (λ ys. AreMarked ranges ys bs) (take_all n xs past) h

all_marked : (ranges : Ranges) (ts : List Term) (bs : List Bounds) → AreMarked ranges ts bs → all_of (map (marks ranges) ts) ≡ Some bs
all_marked ranges [] [] h = refl
all_marked ranges [] (b ∷ bs) h = absurd h
all_marked ranges (t ∷ ts) [] h = absurd h
all_marked ranges (t ∷ ts) (b ∷ bs) h = rw (h.0.bounds, all_marked ranges ts bs h.1) refl

pub all_bounded : (ranges : Ranges) (ts : List Term) (bs : List Bounds) → AreMarked ranges ts bs → AreBounded ts bs
all_bounded ranges [] [] h = tt
all_bounded ranges [] (b ∷ bs) h = absurd h
all_bounded ranges (t ∷ ts) [] h = absurd h
all_bounded ranges (t ∷ ts) (b ∷ bs) h = (h.0.bounded, all_bounded ranges ts bs h.1)

pub leaf_marked : (ranges : Ranges) (t : Term) (leaf : LeafOf) (ty : LaneType) (r : Range) → t ≡ Leaf leaf ty → IsWellTyped t → leaf_range ranges leaf ≡ Some r → IsRange r → lies_in r (lane_range ty) ≡ true → IsMarked ranges t (mark.Leaf r)
leaf_marked ranges t leaf ty r is typed value kept member = record {
  bounds = ap (marks ranges) is ∙ marks_leaf ranges leaf ty ∙ ap (option_map (λ s. mark.Leaf s)) value;
  bounded = leaf_bounded t leaf ty r is typed kept member;
}

pub node_marked : (ranges : Ranges) (t : Term) (op : Op) (ty : LaneType) (k : ℕ) (args xs : List Term) (bs cs : List Bounds) (o : Option Range) (g : Range) →
    t ≡ Node op ty k args → xs ≡ args → IsWellTyped t → AreMarked ranges xs bs → cs ≡ bs → o ≡ row_range op ty k (map whole cs) → o ≡ Some g → IsMarked ranges t (mark.Node g bs)
node_marked ranges t op ty k args xs bs cs o g is same typed marked slice e some =
    let t_is : t ≡ Node op ty k xs = is ∙ ap (Node op ty k) (sym same) in
    record {
      bounds = ap (marks ranges) t_is ∙ over_kept ranges op ty k xs bs cs o g (all_marked ranges xs bs marked) slice e some;
      bounded = subst (λ u. IsBounded u (mark.Node g bs)) (sym t_is) (over_bounded op ty k xs bs cs o g (subst IsWellTyped t_is typed) (all_bounded ranges xs bs marked) slice e some);
    }

-- lists of bounds by their places
pub wholes_one : (bs : List Bounds) (x : Bounds) (r : Range) → length bs ≡ 1 → x ≡ get_or bs 0 x → r ≡ whole x → r ∷ [] ≡ map whole bs
wholes_one [] x r n e h = absurd (omega arith)
wholes_one (a ∷ []) x r n e h = ap (λ s. s ∷ []) (h ∙ ap whole e)
wholes_one (a ∷ b ∷ bs) x r n e h = absurd (omega arith)

pub wholes_two : (bs : List Bounds) (x y : Bounds) (r s : Range) → length bs ≡ 2 → x ≡ get_or bs 0 x → y ≡ get_or bs 1 y → r ≡ whole x → s ≡ whole y → r ∷ s ∷ [] ≡ map whole bs
wholes_two [] x y r s n d e h k = absurd (omega arith)
wholes_two (a ∷ []) x y r s n d e h k = absurd (omega arith)
wholes_two (a ∷ b ∷ []) x y r s n d e h k = rw (h ∙ ap whole d, k ∙ ap whole e) refl
wholes_two (a ∷ b ∷ c ∷ bs) x y r s n d e h k = absurd (omega arith)

pub wholes_four : (bs : List Bounds) (x y z w : Bounds) (r s t u : Range) → length bs ≡ 4 → x ≡ get_or bs 0 x → y ≡ get_or bs 1 y → z ≡ get_or bs 2 z → w ≡ get_or bs 3 w →
    r ≡ whole x → s ≡ whole y → t ≡ whole z → u ≡ whole w → r ∷ s ∷ t ∷ u ∷ [] ≡ map whole bs
wholes_four [] x y z w r s t u n d e f g h i j k = absurd (omega arith)
wholes_four (a ∷ []) x y z w r s t u n d e f g h i j k = absurd (omega arith)
wholes_four (a ∷ b ∷ []) x y z w r s t u n d e f g h i j k = absurd (omega arith)
wholes_four (a ∷ b ∷ c ∷ []) x y z w r s t u n d e f g h i j k = absurd (omega arith)
wholes_four (a ∷ b ∷ c ∷ l ∷ []) x y z w r s t u n d e f g h i j k = rw (h ∙ ap whole d, i ∙ ap whole e, j ∙ ap whole f, k ∙ ap whole g) refl
wholes_four (a ∷ b ∷ c ∷ l ∷ m ∷ bs) x y z w r s t u n d e f g h i j k = absurd (omega arith)
