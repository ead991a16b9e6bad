use Rattle.pf_frames.proofs.GuessLaws.{jump_below}
use Rattle.pf_frames.proofs.read.guess_jump.Goals as goal

pub returns-in-Some : goal.returns-in-Some
returns-in-Some g c = jump_below g.L.Lines.table g.L.Lines.is_op g.L.Lines.lines g.L.Lines.jumps g.met.L.Lines.laws g.met.L.Lines.texts c.args.line.now c.label_in-first.result c.in-Some.label c.label_in-first.ensures c.in-Some.is
