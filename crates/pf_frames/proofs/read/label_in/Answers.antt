use Rattle.std.proofs.Common.{None, Some}
use Rattle.std.proofs.lemmas.Bool.Decides.{Decides-eqb}
use Rattle.std.proofs.lemmas.Slice.Eq.{strip_suffix_is}
use Rattle.pf_frames.specs.Meaning.LineTables.{around}
use Rattle.pf_frames.proofs.GuessLaws.{label_none, label_no_back, label_some}
use Rattle.pf_frames.proofs.read.label_in.Goals as goal

pub returns-in_err-rest : goal.returns-in_err-rest
returns-in_err-rest g c = rw c.from_residual.ensures (label_none (around g.L.Lines.jumps c.args.below) c.args.line.now (rw c.around.ensures.front at c.in_err-rest.ensures))

pub returns-in_err-label : goal.returns-in_err-label
returns-in_err-label g c =
    rw c.from_residual-in_err-label.ensures (label_no_back (around g.L.Lines.jumps c.args.below) c.args.line.now c.in_ok-rest.rest.now (rw c.around.ensures.front at c.in_ok-rest.ensures) (rw c.around.ensures.back at (strip_suffix_is Decides-eqb c.in_ok-rest.rest.now c.around.result.1.now None c.in_err-label.ensures.cases)))

pub returns : goal.returns
returns g c =
    label_some (around g.L.Lines.jumps c.args.below) c.args.line.now c.in_ok-rest.rest.now c.in_ok-label.label.now c.new.result (rw c.around.ensures.front at c.in_ok-rest.ensures)
    (rw c.around.ensures.back at (strip_suffix_is Decides-eqb c.in_ok-rest.rest.now c.around.result.1.now (Some c.in_ok-label.label) c.in_ok-label.ensures.cases)) c.new.ensures.value c.new.ensures.some
