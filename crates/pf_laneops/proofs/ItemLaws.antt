-- Items that compare as equal are equal.
use Rattle.std.proofs.Common.{◌≡◌, refl, rules, ℕ, ℤ, Bool, true, false, List}
use Rattle.std.specs.Prelude.{◌&&◌}
use Rattle.std.proofs.lemmas.Bool.{and_parts, eqb-true}
use Rattle.std.proofs.lemmas.Bool.Decides.{Decides-eqb, Decides-int_eq}
use Rattle.std.specs.Cmp.Lexicographic.{pointwise_decides}
use denote.Enum.Bare.{same_true}
use Rattle.pf_ints.specs.declared.lane.LaneType.{LaneType}
use Rattle.pf_ints.specs.declared.lane.Bits.{Bits}
use Rattle.pf_ints.specs.declared.lane.Bits.TheVariants.{Eight, Sixteen, ThirtyTwo}
use Rattle.pf_ints.specs.contracts.lane.LaneTypePartialEq.TheImpl as types
use Rattle.pf_values.specs.Meaning.Terms.{typed_as}
use Rattle.pf_laneops.specs.contracts.arg_list.ArgListPartialEq.TheImpl as lists
use Rattle.pf_laneops.specs.contracts.lane_name.LaneName.{the_type}
use Rattle.pf_laneops.specs.contracts.lane_name.LaneNamePartialEq.TheImpl as names
use Rattle.pf_laneops.specs.contracts.lane_item.LaneItemPartialEq.TheImpl as items
use Rattle.pf_laneops.specs.contracts.lane_item.LaneItemEq.TheImpl.Laws.{laws-law}
use Rattle.pf_laneops.specs.declared.lane_item.LaneItem.{LaneItem}
use Rattle.pf_laneops.specs.declared.lane_item.LaneItem.TheVariants.{Tap, Splat, Work}

abbrev pub item_eq : LaneItem → LaneItem → Bool
item_eq = (items.ghosts).eq

abbrev type_eq : LaneType → LaneType → Bool
type_eq = (types.ghosts).eq

same_parts : (s : Bool) (b : Bits) (r : Bool) (c : Bits) → type_eq (typed_as s b) (typed_as r c) ≡ true → typed_as s b ≡ typed_as r c
same_parts true Eight true Eight h = refl
same_parts true Sixteen true Sixteen h = refl
same_parts true ThirtyTwo true ThirtyTwo h = refl
same_parts false Eight false Eight h = refl
same_parts false Sixteen false Sixteen h = refl
same_parts false ThirtyTwo false ThirtyTwo h = refl
same_parts _ _ _ _ h = absurd (cc)

same_lane : (t u : LaneType) → type_eq t u ≡ true → t ≡ u
same_lane t u h = same_parts t.signed t.bits u.signed u.bits h

pub same_item : (x y : LaneItem) → item_eq x y ≡ true → x ≡ y
same_item (Tap s t) (Tap r u) h =
    let p = and_parts _ (type_eq t u) h in rw (eqb-true s r p.0, same_lane t u p.1) refl
same_item (Splat s t) (Splat r u) h =
    let p = and_parts _ (type_eq t u) h in rw ((Decides-int_eq s r).0 p.0, same_lane t u p.1) refl
same_item (Work op ty k args) (Work op' ty' k' args') h =
    let p = and_parts ((names.ghosts).eq op op') _ h in
    let name : op ≡ op' = same_true the_type (search rules) op op' p.0 in
    let q = and_parts (type_eq ty ty') _ p.1 in
    let r = and_parts _ ((lists.ghosts).eq args args') q.1 in
    rw (name, same_lane ty ty' q.0, eqb-true k k' r.0, (pointwise_decides Decides-eqb args args').0 r.1) refl
same_item _ _ h = absurd (cc)

pub self_item : (x : LaneItem) → item_eq x x ≡ true
self_item x = laws-law.refl x
