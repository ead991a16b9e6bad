use Rattle.std.proofs.Common.{◌+◌, ◌≤◌, length, arith}
use Rattle.pf_kernel.proofs.ReadLaws.{few_bytes, so_far_more, next_told, whole}
use Rattle.pf_kernel.proofs.read.read_lines.Goals as goal

pub overflow_add-count : goal.overflow_add-count
overflow_add-count c =
    let short : length c.args.text.now ≤ 65536 = few_bytes _ c.requires in
    let room : c.lines.count + length c.lines.rest.now ≤ length c.args.text.now = c.lines.invariant.room in
    omega arith

pub overflow_add-count-in-lines : goal.overflow_add-count-in-lines
overflow_add-count-in-lines c =
    let short : length c.args.text.now ≤ 65536 = few_bytes _ c.requires in
    let room : c.lines.count + length c.lines.rest.now ≤ length c.args.text.now = c.lines.invariant.room in
    omega arith

pub read_next-requires-clause-short : goal.read_next-requires-clause-short
read_next-requires-clause-short c =
    let short : length c.args.text.now ≤ 65536 = few_bytes _ c.requires in
    let room : c.lines.count + length c.lines.rest.now ≤ length c.args.text.now = c.lines.invariant.room in
    let line : length c.next_line.result.0.now ≤ length c.lines.rest.now = c.next_line.ensures.within in
    omega arith

pub returns-in-Err-clause-answers : goal.returns-in-Err-clause-answers
returns-in-Err-clause-answers c =
    next_told c.args.text.now c.lines.rest.now c.next_line.result.1.now c.next_line.result.0.now c.lines.count c.lines.reading c.lines.invariant c.next_line.ensures.lines c.in-Err.fault c.requires c.in-Err.ensures.answers

pub lines-preserved : goal.lines-preserved
lines-preserved c =
    so_far_more c.args.text.now c.lines.rest.now c.next_line.result.1.now c.next_line.result.0.now c.lines.count c.lines.reading c.lines.invariant c.next_line.ensures.lines c.in-Ok.more c.next_line.ensures.less c.in-Ok.ensures.kept c.in-Ok.ensures.answers

pub returns-clause-answers : goal.returns-clause-answers
returns-clause-answers c = whole c.args.text.now c.lines.rest.now c.lines.count c.lines.reading c.lines.invariant (omega arith)
