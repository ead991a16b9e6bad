use Rattle.pf_frames.proofs.TextLaws.{guesses}
use Rattle.pf_frames.proofs.read.guess.Goals as goal

pub returns : goal.returns
returns g c = guesses g.L.Lines.table g.L.Lines.is_op g.L.Lines.lines g.L.Lines.jumps g.met.L.Lines.laws g.met.L.Lines.texts c.args.line.now c.read.result c.read.ensures
