use Rattle.std.proofs.Common.{◌≡◌, sym, subst, ◌∙◌}
use Rattle.pf_machine.specs.Meaning.Programs.{IsProgram}
use Rattle.pf_rows.proofs.RowTexts.{widths_pixels, near_block, row_is_program, text_is}
use Rattle.pf_rows.proofs.program.row_text.Goals as goal

pub lines-requires-clause-some : goal.lines-requires-clause-some
lines-requires-clause-some g c = let laws = g.met.I.Isa.laws in laws.some_bytes

pub lines-requires-clause-most : goal.lines-requires-clause-most
lines-requires-clause-most g c = let laws = g.met.I.Isa.laws in laws.few_bytes

pub lines-requires-clause-pixels : goal.lines-requires-clause-pixels
lines-requires-clause-pixels g c = widths_pixels c.args.head c.requires.1.head c.as_slice.result.now (c.as_slice.ensures ∙ c.in_ok-widths.ensures)

pub lines-requires-clause-near : goal.lines-requires-clause-near
lines-requires-clause-near g c = near_block g.I.Isa.table c.args.head c.requires.0 c.args.block c.requires.1 c.as_slice.result.now (c.as_slice.ensures ∙ c.in_ok-widths.ensures)

pub new-requires : goal.new-requires
new-requires g c =
    let whole = text_is g.row.I.Denot g.row.I-Op.Denot g.I.Isa.table c.args.head c.args.block c.as_slice.result.now c.bytes-width.result c.in_ok-code.code c.in_ok-code.labels c.in_ok-code.ensures.code c.in_ok-code.ensures.labels (c.as_slice.ensures ∙ c.in_ok-widths.ensures) c.bytes-width.ensures.value in
    subst (λ p. IsProgram g.I.Isa.table p) (sym whole) (row_is_program g.row.I.Denot g.row.I-Op.Denot g.I.Isa.table c.args.head c.requires.0 c.args.block c.requires.1 g.I.Isa.is_op g.met.I.Isa.laws)

pub returns-clause-value : goal.returns-clause-value
returns-clause-value g c =
    c.new.ensures ∙ text_is g.row.I.Denot g.row.I-Op.Denot g.I.Isa.table c.args.head c.args.block c.as_slice.result.now c.bytes-width.result c.in_ok-code.code c.in_ok-code.labels c.in_ok-code.ensures.code c.in_ok-code.ensures.labels (c.as_slice.ensures ∙ c.in_ok-widths.ensures) c.bytes-width.ensures.value
