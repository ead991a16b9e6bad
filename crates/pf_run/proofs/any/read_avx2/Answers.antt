use Rattle.pf_avx2.specs.Meaning.Avx2.{table, IsAvx2Instruction}
use Rattle.pf_run.proofs.AnyLaws.{read_avx2, refused_avx2}
use Rattle.pf_run.proofs.TextLengths.{short_code}
use Rattle.pf_run.proofs.any.read_avx2.Goals as goal

pub returns-in-Ok-clause-found : goal.returns-in-Ok-clause-found
returns-in-Ok-clause-found c = (c.in-Ok.ensures.found, read_avx2 c.args.text.now c.in-Ok.program c.requires.named c.in-Ok.ensures.only)

pub returns-in-Ok-clause-size : goal.returns-in-Ok-clause-size
returns-in-Ok-clause-size c = short_code table IsAvx2Instruction c.args.text.now c.in-Ok.program c.in-Ok.ensures.found c.requires.size

pub returns-in-Err-clause-found : goal.returns-in-Err-clause-found
returns-in-Err-clause-found c = refused_avx2 c.args.text.now c.in-Err.fault c.requires.named c.in-Err.ensures.only c.in-Err.ensures.fault
