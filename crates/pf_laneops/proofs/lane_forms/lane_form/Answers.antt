use Rattle.std.proofs.Common.{map}
use Rattle.pf_forms.specs.Meaning.Shapes.{shape}
use Rattle.pf_templates.specs.Meaning.Letters.{letters}
use Rattle.pf_laneops.proofs.FormulaLaws.{not_wide, lane_room_at}
use Rattle.pf_laneops.proofs.lane_forms.lane_form.Goals as goal

pub unreachable-requires : goal.unreachable-requires
unreachable-requires c =
    not_wide _ _ _ c.in-Err-TooWide.field-0-is c.in-Err-TooWide.ensures
    (lane_room_at c.args.op (letters c.given_over-given.result) c.args.ty c.amount_by.result (map shape c.args.args.now) c.given_over-given.ensures c.amount_by.ensures.within)
