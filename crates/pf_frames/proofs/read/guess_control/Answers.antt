use Rattle.std.proofs.Common.{sym}
use Rattle.pf_frames.proofs.GuessLaws.{guess_found, guess_no_line}
use Rattle.pf_frames.proofs.read.guess_control.Goals as goal

pub returns-in-Some : goal.returns-in-Some
returns-in-Some g c = guess_found g.L.Lines.table g.L.Lines.is_op g.L.Lines.lines g.L.Lines.jumps g.met.L.Lines.laws g.met.L.Lines.texts c.args.line.now c.guess-found.result c.in-Some.control c.guess-found.ensures (sym c.in-Some.ensures)

pub returns : goal.returns
returns g c = guess_no_line g.L.Lines.table g.L.Lines.is_op g.L.Lines.lines g.L.Lines.jumps g.met.L.Lines.laws g.met.L.Lines.texts c.args.line.now c.guess-found.result c.guess_jump.result c.guess-found.ensures (sym c.in-None.ensures) c.guess_jump.ensures
