use Rattle.std.proofs.Common.{◌≡◌, ◌∙◌, sym}
use Rattle.std.proofs.lemmas.Bool.{false≢true}
use Rattle.pf_text.specs.Meaning.Lines.{tight}
use Rattle.pf_frames.proofs.GuessLaws.{op_long, op_none, op_other, op_control, op_bad}
use Rattle.pf_frames.proofs.read.parsed_op.Goals as goal

pub returns-in_err-tight-clause-reads : goal.returns-in_err-tight-clause-reads
returns-in_err-tight-clause-reads g c = rw c.from_residual.ensures (op_long g.L.Lines.table g.L.Lines.is_op g.L.Lines.lines g.L.Lines.jumps g.met.L.Lines.laws g.met.L.Lines.texts c.args.line.now c.in_err-tight.ensures)

pub returns-in_err-found-clause-reads : goal.returns-in_err-found-clause-reads
returns-in_err-found-clause-reads g c =
    let bytes : c.as_slice.result.now ≡ tight c.args.line.now = c.as_slice.ensures.value ∙ c.in_ok-tight.ensures in
    rw c.from_residual-in_err-found.ensures (op_none g.L.Lines.table g.L.Lines.is_op g.L.Lines.lines g.L.Lines.jumps g.met.L.Lines.laws g.met.L.Lines.texts c.args.line.now c.as_slice.result.now bytes c.in_err-found.ensures)

pub returns-then-not-is_spelling-clause-reads : goal.returns-then-not-is_spelling-clause-reads
returns-then-not-is_spelling-clause-reads g c =
    let bytes : c.as_slice.result.now ≡ tight c.args.line.now = c.as_slice.ensures.value ∙ c.in_ok-tight.ensures in
    op_other g.L.Lines.table g.L.Lines.is_op g.L.Lines.lines g.L.Lines.jumps g.met.L.Lines.laws g.met.L.Lines.texts c.args.line.now c.as_slice.result.now c.in_ok-found.found bytes c.in_ok-found.ensures
    (λ here. false≢true (sym c.if-not-is_spelling.true ∙ c.is_spelling.ensures.1 (rw c.as_slice.ensures.value at here)))

pub returns-else-is_op-clause-reads : goal.returns-else-is_op-clause-reads
returns-else-is_op-clause-reads g c =
    let bytes : c.as_slice.result.now ≡ tight c.args.line.now = c.as_slice.ensures.value ∙ c.in_ok-tight.ensures in
    op_bad g.L.Lines.table g.L.Lines.is_op g.L.Lines.lines g.L.Lines.jumps g.met.L.Lines.laws g.met.L.Lines.texts c.args.line.now c.as_slice.result.now c.in_ok-found.found c.in-Vector.op c.in-Vector.is bytes c.in_ok-found.ensures
    (λ is. false≢true (c.if-is_op.ensures.1 is))

pub returns-in-Control-clause-reads : goal.returns-in-Control-clause-reads
returns-in-Control-clause-reads g c =
    let bytes : c.as_slice.result.now ≡ tight c.args.line.now = c.as_slice.ensures.value ∙ c.in_ok-tight.ensures in
    op_control g.L.Lines.table g.L.Lines.is_op g.L.Lines.lines g.L.Lines.jumps g.met.L.Lines.laws g.met.L.Lines.texts c.args.line.now c.as_slice.result.now c.in_ok-found.found c.in-Control.field-0 c.in-Control.is bytes c.in_ok-found.ensures
