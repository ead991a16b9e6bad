use Rattle.std.proofs.Common.{[], ◌∷◌}
use Rattle.pf_isa.specs.Meaning.Texts.{out_line, scratch_line}
use Rattle.pf_isa.proofs.TextLaws.{joined_lines}
use Rattle.pf_isa.proofs.write.push_output.Goals as goal

pub returns : goal.returns
returns c =
    let h = c.args.head.now in
    joined_lines _ _ _ (out_line h.out_ty ∷ []) (scratch_line h.scratch ∷ []) c.in_ok-push_out_line.ensures c.in_ok-push_scratch_line.ensures
