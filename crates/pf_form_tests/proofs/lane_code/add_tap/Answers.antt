use Rattle.pf_form_tests.proofs.TestedCodeLaws.{can_tap}
use Rattle.pf_form_tests.proofs.lane_code.add_tap.Goals as goal

pub add-requires : goal.add-requires
add-requires c = can_tap _ c.requires
