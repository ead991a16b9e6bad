use Rattle.pf_select.proofs.MinBlock.{is_listed}
use Rattle.pf_select.proofs.min_program.least.Goals as goal

pub of-requires : goal.of-requires
of-requires c = rw c.place.ensures.value is_listed
