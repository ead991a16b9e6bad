-- Types of operands as they are gathered, one after another, and what is told of their node.
use Rattle.std.proofs.Common.{◌≡◌, refl, sym, ap, ◌∙◌, subst, ℕ, ◌+◌, ◌<◌, ◌≤◌, suc, Bool, List, [], ◌∷◌, ◌++◌, length, map, get_or, drop, drop-cons, min, append_assoc, append-nil, arith, ◌⊎◌, inl, inr}
use Rattle.std.proofs.lemmas.List.{drop_all}
use Rattle.std.specs.Prelude.{Result, Ok, Err, Option}
use Rattle.pf_ints.specs.declared.lane.LaneType.{LaneType}
use Rattle.pf_rules.specs.declared.fault.SortFault.{SortFault}
use Rattle.pf_rules.specs.declared.fault.SortFault.TheVariants.{Types, Amount, Memory}
use Rattle.pf_values.specs.declared.op.Op.{Op}
use Rattle.pf_laneops.specs.declared.lane_name.LaneName.{LaneName}
use Rattle.pf_rules.specs.declared.number.Amount.{Amount as AmountOf}
use Rattle.pf_rules.specs.declared.pattern.PatType.{PatType}
use Rattle.pf_rules.specs.declared.pattern.Pattern.{Pattern}
use Rattle.pf_rules.specs.declared.pattern.Pattern.TheVariants.{Node, Lane, rolls-Node, rolls-Lane}
use Rattle.pf_rules.specs.declared.pattern.Pattern.TheOpen.Pattern-F.{Node as NodeLayer, Lane as LaneLayer}
use Rattle.pf_rules.specs.declared.pattern.Pattern.TheFolds.{fold-roll-Pattern}
use Rattle.pf_rules.specs.declared.rule.Kind.{Kind}
use Rattle.pf_rules.specs.Steps.Sorted.{own_sorting}
use Rattle.pf_rules.specs.Meaning.Sorts.{At, sorting, sort_step, own_sort, types_from, with_type, then_judged, fault_below, SortsAs}

-- types that were found, before the rest
abbrev pub behind : List LaneType → Result (List LaneType) SortFault → Result (List LaneType) SortFault
behind ts (Ok us) = Ok (ts ++ us)
behind ts (Err e) = Err e

-- nothing was found yet
pub behind_nil : (r : Result (List LaneType) SortFault) → behind [] r ≡ r
behind_nil (Ok us) = refl
behind_nil (Err e) = refl

-- one more type is found
pub gather : (ts : List LaneType) (t : LaneType) (n : ℕ) (rs : List (Result LaneType SortFault)) (all : Result (List LaneType) SortFault) →
    behind ts (types_from n (Ok t ∷ rs)) ≡ all → behind (ts ++ t ∷ []) (types_from (n + 1) rs) ≡ all
gather ts t n rs all h = by (types_from (n + 1) rs) h where
  by : (r : Result (List LaneType) SortFault) → behind ts (with_type t r) ≡ all → behind (ts ++ t ∷ []) r ≡ all
  by (Ok us) h = rw append_assoc h
  by (Err e) h = h

-- a fault is handed on one step up
tells_below : (e f : SortFault) (n m : ℕ) (r s : Result LaneType SortFault) → m ≡ min n 255 → SortsAs (Err e) r → SortsAs (Err f) (Err (fault_below m e)) →
    (r ≡ Err e → s ≡ Err (fault_below n e)) → SortsAs (Err f) s
tells_below (Types p) f n m r s same found told up =
    let one : min m 255 ≡ min n 255 = omega (arith, same) in
    subst (SortsAs (Err f)) (ap (λ i. Err (Types (i ∷ p))) one ∙ sym (up found)) told
tells_below (Amount p a) f n m r s same found told up =
    let one : min m 255 ≡ min n 255 = omega (arith, same) in
    subst (SortsAs (Err f)) (ap (λ i. Err (Amount (i ∷ p) a)) one ∙ sym (up found)) told
tells_below Memory Memory n m r s same found told up = tt
tells_below Memory (Types p) n m r s same found told up = absurd (cc)
tells_below Memory (Amount p a) n m r s same found told up = absurd (cc)

-- a node is judged by its operands' types, and sort is what is told of a pattern
module _ (sort : Pattern → Result LaneType SortFault) (node : List LaneType → Result LaneType SortFault) (whole : Result LaneType SortFault) (xs : List Pattern)
    (is : whole ≡ then_judged node (types_from 0 (map sort xs))) where
  -- the first operand's fault is the node's
  pub fault_told : (ts : List LaneType) (n m : ℕ) (x : Pattern) (e f : SortFault) →
      behind ts (types_from n (map sort (drop n xs))) ≡ types_from 0 (map sort xs) →
      x ≡ get_or xs n x → n < length xs → m ≡ min n 255 → SortsAs (Err e) (sort x) → SortsAs (Err f) (Err (fault_below m e)) → SortsAs (Err f) whole
  fault_told ts n m x e f onward at under count found told =
      let cut : drop n xs ≡ x ∷ drop (suc n) xs = drop-cons xs n x under ∙ ap (λ y. y ∷ drop (suc n) xs) (sym at) in
      tells_below e f n m (sort x) whole count found told (λ r.
      let first : behind ts (types_from n (Err e ∷ map sort (drop (suc n) xs))) ≡ types_from 0 (map sort xs) =
      ap (λ y. behind ts (types_from n (y ∷ map sort (drop (suc n) xs)))) (sym r) ∙ ap (λ ys. behind ts (types_from n (map sort ys))) (sym cut) ∙ onward in
      is ∙ ap (then_judged node) (sym first))

  -- where all operands have types, the node is judged
  pub type_told : (ts us : List LaneType) (n : ℕ) (r : Result LaneType SortFault) →
      behind ts (types_from n (map sort (drop n xs))) ≡ types_from 0 (map sort xs) → length xs ≤ n → us ≡ ts → SortsAs r (node us) → SortsAs r whole
  type_told ts us n r onward all found told =
      let gathered : Ok (ts ++ []) ≡ types_from 0 (map sort xs) = ap (λ ys. behind ts (types_from n (map sort ys))) (sym (drop_all n xs all)) ∙ onward in
      subst (SortsAs r) (ap node (found ∙ sym (append-nil ts)) ∙ ap (then_judged node) gathered ∙ sym is) told

-- the pattern is a node over these operands
abbrev pub IsParent : Pattern → List Pattern → Type 0
IsParent p args =
    ((op : Op) × (to : Option PatType) × (k : AmountOf) × (p ≡ Node op to k args)) ⊎ ((op : LaneName) × (to : Option PatType) × (k : AmountOf) × (p ≡ Lane op to k args))

same_judged : (f g : List LaneType → Result LaneType SortFault) (r : Result (List LaneType) SortFault) → ((types : List LaneType) → f types ≡ g types) → then_judged f r ≡ then_judged g r
same_judged f g (Ok types) h = h types
same_judged f g (Err e) h = refl

module _ (amounts : Bool) (kind : Kind) (at : At) where
  abbrev R : Type 0
  R = Result LaneType SortFault

  pub sort_parent : (p : Pattern) (args : List Pattern) → IsParent p args →
      sorting amounts kind at p ≡ then_judged (λ types. own_sorting amounts kind at types p) (types_from 0 (map (sorting amounts kind at) args))
  sort_parent p args (inl (op, to, k, is)) =
      ap (sorting amounts kind at) (is ∙ sym (rolls-Node op to k args)) ∙ fold-roll-Pattern R (sort_step amounts kind at) (NodeLayer op to k args)
      ∙ same_judged _ (λ types. own_sorting amounts kind at types p) (types_from 0 (map (sorting amounts kind at) args)) (λ types.
      sym (ap (own_sorting amounts kind at types) (is ∙ sym (rolls-Node op to k args)) ∙ fold-roll-Pattern R (λ layer. own_sort amounts kind at types layer) (NodeLayer op to k args)))
  sort_parent p args (inr (op, to, k, is)) =
      ap (sorting amounts kind at) (is ∙ sym (rolls-Lane op to k args)) ∙ fold-roll-Pattern R (sort_step amounts kind at) (LaneLayer op to k args)
      ∙ same_judged _ (λ types. own_sorting amounts kind at types p) (types_from 0 (map (sorting amounts kind at) args)) (λ types.
      sym (ap (own_sorting amounts kind at types) (is ∙ sym (rolls-Lane op to k args)) ∙ fold-roll-Pattern R (λ layer. own_sort amounts kind at types layer) (LaneLayer op to k args)))

  -- the same over a list that equals the operands
  pub sort_whole : (p : Pattern) (args xs : List Pattern) → IsParent p args → xs ≡ args →
      sorting amounts kind at p ≡ then_judged (λ types. own_sorting amounts kind at types p) (types_from 0 (map (sorting amounts kind at) xs))
  sort_whole p args xs is same = sort_parent p args is ∙ ap (λ ys. then_judged (λ types. own_sorting amounts kind at types p) (types_from 0 (map (sorting amounts kind at) ys))) (sym same)
