use Rattle.std.proofs.Common.{sym, ap, ◌∙◌, subst, List, Some}
use Rattle.pf_laneops.specs.declared.lane_item.LaneItem.{LaneItem}
use Rattle.pf_laneops.specs.Meaning.LaneCodes.{CanAdd, Code}
use Rattle.pf_laneops.proofs.ItemLaws.{same_item}
use Rattle.pf_laneops.proofs.CodeLaws.{inserted_code}
use Rattle.pf_laneops.proofs.lane_code.LaneCode.add.Goals as goal

pub invariant_of-self-2 : goal.invariant_of-self-2
invariant_of-self-2 c = inserted_code _ _ c.args.item c.self.invariant (subst (λ (v : Code). CanAdd v.items c.args.item) (sym c.self.view_is) c.requires) c.in_ok-n.ensures.keys

pub returns-clause-item : goal.returns-clause-item
returns-clause-item c = let s = c.in_ok-n.ensures.stored in s.1 ∙ ap Some (sym (same_item c.args.item s.0 s.2))

pub returns-clause-kept : goal.returns-clause-kept
returns-clause-kept c = inserted_code _ _ c.args.item c.self.invariant (subst (λ (v : Code). CanAdd v.items c.args.item) (sym c.self.view_is) c.requires) c.in_ok-n.ensures.keys
