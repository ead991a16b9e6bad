use Rattle.std.proofs.Common.{◌<◌, ◌≤◌, length, arith}
use Rattle.pf_text.specs.Meaning.Lines.{tight}
use Rattle.pf_text.proofs.TightLaws.{length-tight}
use Rattle.pf_text.proofs.tight.ShortLine.tightened.Goals as goal

pub unreachable-requires : goal.unreachable-requires
unreachable-requires c =
    let long : 80 < length (tight c.as_slice.result.now) = c.in-None.ensures in
    let shorter = length-tight c.as_slice.result.now in
    let few : length c.as_slice.result.now ≤ 80 = rw c.as_slice.ensures.value c.as_slice.ensures.few in
    absurd (omega arith)
