-- The steps of judging a pattern.
use Rattle.std.specs.Prelude.{◌≡◌, ◌<◌, ℕ, pos, Bool, true, List, Result, Ok, Option, Some}
use Rattle.pf_ints.specs.declared.lane.LaneType.{LaneType}
use Rattle.pf_ints.specs.declared.target.Target.{Target}
use Rattle.pf_forms.specs.Meaning.Shapes.{Shape}
use Rattle.pf_laneops.specs.declared.lane_name.LaneName.{LaneName}
use Rattle.pf_laneops.specs.Meaning.LaneRows.{row_type}
use Rattle.pf_rules.specs.declared.number.Amount.{Amount}
use Rattle.pf_rules.specs.declared.fault.SortFault.{SortFault}
use Rattle.pf_rules.specs.declared.pattern.Pattern.{Pattern}
use Rattle.pf_rules.specs.declared.pattern.Pattern.TheFolds.{fold-Pattern}
use Rattle.pf_rules.specs.declared.place.Place.{Place}
use Rattle.pf_rules.specs.declared.rule.Kind.{Kind}
use Rattle.pf_rules.specs.Meaning.Numbers.{amount_at}
use Rattle.pf_rules.specs.Meaning.Sides.{own_form, amount_or}
use Rattle.pf_rules.specs.Meaning.Sorts.{At, place, own_sort}

abbrev pub here : Place → At
here p = place p.w p.k p.vars.now

abbrev pub own_sorting : Bool → Kind → At → List LaneType → Pattern → Result LaneType SortFault
own_sorting amounts kind at types = fold-Pattern (Result LaneType SortFault) (λ layer. own_sort amounts kind at types layer)

abbrev pub own_formed : At → List LaneType → List Shape → Pattern → LaneType × Shape
own_formed at types fs = fold-Pattern (LaneType × Shape) (λ layer. own_form at types fs layer)

-- the node has a type by itself, where its operands have these types
pub record HasOwnSort (at : At) (types : List LaneType) (p : Pattern) : Type 0 where
  pub kind : Kind
  pub ty : LaneType
  pub sorted : own_sorting true kind at types p ≡ Ok ty

-- the amount has a value, and it is small
pub record IsSmallAmount (at : At) (k : Amount) : Type 0 where
  pub is : amount_at at.w at.k k ≡ Some (pos (amount_or at k))
  pub small : amount_or at k < 64

-- some target has a row for the operation
pub record HasRow (op : LaneName) (to : Option LaneType) (types : List LaneType) (k : ℕ) : Type 0 where
  pub target : Target
  pub result : LaneType × ℕ
  pub row : row_type target op to types k ≡ Some result
