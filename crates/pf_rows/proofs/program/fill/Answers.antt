use Rattle.std.proofs.Common.{length}
use Rattle.pf_rows.specs.Steps.RowCode.{back_lines, begin_lines, block_lines, last_lines, narrow_lines, next_lines, tail_lines}
use Rattle.pf_rows.proofs.RowTexts.{joined, labels_joined}
use Rattle.pf_rows.proofs.program.fill.Goals as goal

pub returns-clause-code : goal.returns-clause-code
returns-clause-code g c =
    let taps = length c.args.widths.now in
    let vector = g.I.Isa.table.vector in
    joined c.args.code.now c.begin.new.code c.items.new.code c.next.new.code c.tail.new.code c.last.new.code c.narrow.new.code c.back.new.code
    (begin_lines vector taps) (block_lines g.I.Isa.table c.args.widths.now c.args.width c.args.block) (next_lines vector) tail_lines (last_lines vector) (narrow_lines vector c.args.widths.now) (back_lines vector taps c.args.width)
    c.requires.no_code c.in_ok-begin.ensures c.in_ok-items.ensures.lines c.in_ok-next.ensures c.in_ok-tail.ensures c.in_ok-last.ensures c.in_ok-narrow.ensures.lines c.in_ok-back.ensures.lines

pub returns-clause-labels : goal.returns-clause-labels
returns-clause-labels g c =
    labels_joined g.row.I.Denot g.row.I-Op.Denot g.I.Isa.table c.args.widths.now c.args.width c.args.block
    c.args.code.now c.begin.new.code c.items.new.code c.next.new.code c.tail.new.code c.last.new.code c.narrow.new.code
    c.args.labels.now c.mark.new.labels c.mark-2.new.labels c.mark-3.new.labels c.mark-4.new.labels c.narrow.new.labels c.back.new.labels
    c.block_name.result c.tail_name.result c.last_name.result c.narrow_name.result
    c.requires.no_code c.in_ok-begin.ensures c.in_ok-items.ensures.lines c.in_ok-next.ensures c.in_ok-tail.ensures c.in_ok-last.ensures c.in_ok-narrow.ensures.lines
    c.block_name.ensures.value c.tail_name.ensures.value c.last_name.ensures.value c.narrow_name.ensures.value
    c.requires.no_labels c.in_ok-mark.ensures c.in_ok-mark-2.ensures c.in_ok-mark-3.ensures c.in_ok-mark-4.ensures c.in_ok-narrow.ensures.labels c.in_ok-back.ensures.labels
