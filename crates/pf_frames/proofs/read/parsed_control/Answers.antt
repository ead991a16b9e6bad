use Rattle.std.proofs.Common.{◌≡◌, ◌∙◌, ap}
use Rattle.std.proofs.lemmas.Bool.{false≢true}
use Rattle.pf_text.specs.Meaning.Lines.{tight}
use Rattle.pf_frames.specs.Meaning.LineTables.{control_text_of}
use Rattle.pf_frames.proofs.GuessLaws.{control_none, control_bad, control_other}
use Rattle.pf_frames.proofs.TextLaws.{no_long_control}
use Rattle.pf_frames.proofs.read.parsed_control.Goals as goal

pub returns-in_err-tight : goal.returns-in_err-tight
returns-in_err-tight g c = rw c.from_residual.ensures (λ d is means. no_long_control g.L.Lines.table g.L.Lines.is_op g.L.Lines.lines g.L.Lines.jumps g.met.L.Lines.laws g.met.L.Lines.texts c.args.line.now d is means c.in_err-tight.ensures)

pub returns-in_err-control : goal.returns-in_err-control
returns-in_err-control g c =
    let bytes : c.as_slice.result.now ≡ tight c.args.line.now = c.as_slice.ensures.value ∙ c.in_ok-tight.ensures in
    rw c.from_residual-in_err-control.ensures (control_none g.L.Lines.table g.L.Lines.is_op g.L.Lines.lines g.L.Lines.jumps g.met.L.Lines.laws g.met.L.Lines.texts c.args.line.now c.as_slice.result.now bytes c.in_err-control.ensures)

pub returns-in_err-ctl : goal.returns-in_err-ctl
returns-in_err-ctl g c =
    let bytes : c.as_slice.result.now ≡ tight c.args.line.now = c.as_slice.ensures.value ∙ c.in_ok-tight.ensures in
    rw c.from_residual-in_err-ctl.ensures (control_bad g.L.Lines.table g.L.Lines.is_op g.L.Lines.lines g.L.Lines.jumps g.met.L.Lines.laws g.met.L.Lines.texts c.args.line.now c.as_slice.result.now c.in_ok-control.control bytes c.in_ok-control.ensures c.in_err-ctl.ensures)

pub returns-else-is_same : goal.returns-else-is_same
returns-else-is_same g c =
    let bytes : c.as_slice.result.now ≡ tight c.args.line.now = c.as_slice.ensures.value ∙ c.in_ok-tight.ensures in
    let same : c.control.result ≡ c.in_ok-control.control = c.control.ensures.value ∙ c.in_ok-ctl.ensures in
    let printed : c.tightened-printed.result ≡ tight (control_text_of g.L.Lines.lines g.L.Lines.jumps c.in_ok-control.control) = c.tightened-printed.ensures ∙ ap tight (c.printed_control.ensures ∙ ap (control_text_of g.L.Lines.lines g.L.Lines.jumps) same) in
    control_other g.L.Lines.table g.L.Lines.is_op g.L.Lines.lines g.L.Lines.jumps g.met.L.Lines.laws g.met.L.Lines.texts c.args.line.now c.as_slice.result.now c.in_ok-control.control bytes c.in_ok-control.ensures
    (λ e. false≢true (c.if-is_same.ensures.1 (printed ∙ (e ∙ c.as_slice.ensures.value))))
