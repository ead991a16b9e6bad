use Rattle.std.proofs.Common.{arith}
use Rattle.pf_outside.proofs.Telling.{poor_first}
use Rattle.pf_outside.proofs.report.tell_pieces.Goals as goal

pub returns-in-Err : goal.returns-in-Err
returns-in-Err g c = poor_first _ _ _ _ (omega arith) c.tell_poor.ensures
