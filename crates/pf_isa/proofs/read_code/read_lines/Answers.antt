use Rattle.std.proofs.Common.{sym, take, drop, refl, [], arith}
use Rattle.pf_isa.specs.Meaning.TextFaults.{texts}
use Rattle.pf_isa.proofs.CodeLaws.{carried, text_at, number_at, reading_on, line_refused}
use Rattle.pf_isa.proofs.read_code.read_lines.Goals as goal

pub loop-n-init : goal.loop-n-init
loop-n-init g c = (
  [],
  record {
    read = record { each = tt; distinct = λ i j d low high. absurd (omega arith) };
    code_is = c.new.ensures;
    labels_are = c.new-2.ensures;
    names_are = λ name. rw c.new-3.ensures.empty refl;
    jumps_are = c.new-4.ensures.items;
  },
)

pub returns-in_err-take_line-clause-fault : goal.returns-in_err-take_line-clause-fault
returns-in_err-take_line-clause-fault g c =
    let back = drop c.args.start (texts c.args.lines.now) in
    let n = c.loop-n.n in
    let at = text_at c.args.lines.now c.args.start n _ c.loop-n-test.true in
    let read = c.loop-n.invariant in
    let taken = c.in_err-take_line.ensures c.args.start (take n back) read.0 (number_at c.args.start n back at.0) read.1 in
    carried c.from_residual.result c.in_err-take_line.field-0.0 _ c.from_residual.ensures.1 (line_refused g.I.Isa.table g.I.Isa.is_op c.args.start back n _ read.0 c.loop-n.reading c.take_line.new.reading _ at.0 (sym at.1) read.1 taken)

pub loop-n-preserved : goal.loop-n-preserved
loop-n-preserved g c =
    let back = drop c.args.start (texts c.args.lines.now) in
    let n = c.loop-n.n in
    let at = text_at c.args.lines.now c.args.start n _ c.loop-n-test.true in
    let read = c.loop-n.invariant in
    let taken = c.in_ok-take_line.ensures c.args.start (take n back) read.0 (number_at c.args.start n back at.0) read.1 in
    reading_on g.I.Isa.table g.I.Isa.is_op c.args.start back n _ read.0 c.take_line.new.reading at.0 (sym at.1) taken
