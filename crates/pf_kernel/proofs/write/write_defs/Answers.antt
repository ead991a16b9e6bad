use Rattle.pf_kernel.specs.Meaning.Texts.{ended, def_text}
use Rattle.pf_kernel.proofs.Printing.{written_next}
use Rattle.pf_kernel.proofs.write.write_defs.Goals as goal

pub loop-def-preserved : goal.loop-def-preserved
loop-def-preserved c =
    written_next (λ d. ended (def_text c.args.names.now d)) c.args.defs.now c.loop-def.def-index c.def-item.result c.loop-def.text.items c.write_def.new.text.items _
    c.loop-def-test.true c.def-item.is c.in_ok-write_def.ensures c.loop-def.invariant
