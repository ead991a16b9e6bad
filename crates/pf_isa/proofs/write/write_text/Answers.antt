use Rattle.std.proofs.Common.{◌∙◌}
use Rattle.pf_isa.proofs.WrittenLaws.{text_from}
use Rattle.pf_isa.proofs.write.write_text.Goals as goal

pub returns-clause-text : goal.returns-clause-text
returns-clause-text g c =
    text_from g.I.Isa.table g.I.Isa.is_op g.met.I.Isa.laws c.args.program.now c.in_ok-text.text.items g.I.Isa.TARGET c.head-head.result.now c.as_slice-code.result.now c.as_slice-labels.result.now
    g.met.I.Isa.target_is c.head-head.ensures.value (c.as_slice-code.ensures ∙ c.code.ensures) (c.as_slice-labels.ensures ∙ c.labels.ensures) c.in_ok-text.ensures.written c.in_ok-text.ensures.known c.head-head.ensures.kept
