use Rattle.pf_hvx.specs.Meaning.Hvx.{table, IsHvxInstruction}
use Rattle.pf_run.proofs.AnyLaws.{read_hvx, refused_hvx}
use Rattle.pf_run.proofs.TextLengths.{short_code}
use Rattle.pf_run.proofs.any.read_hvx.Goals as goal

pub returns-in-Ok-clause-found : goal.returns-in-Ok-clause-found
returns-in-Ok-clause-found c = (c.in-Ok.ensures.found, read_hvx c.args.text.now c.in-Ok.program c.requires.named c.in-Ok.ensures.only)

pub returns-in-Ok-clause-size : goal.returns-in-Ok-clause-size
returns-in-Ok-clause-size c = short_code table IsHvxInstruction c.args.text.now c.in-Ok.program c.in-Ok.ensures.found c.requires.size

pub returns-in-Err-clause-found : goal.returns-in-Err-clause-found
returns-in-Err-clause-found c = refused_hvx c.args.text.now c.in-Err.fault c.requires.named c.in-Err.ensures.only c.in-Err.ensures.fault
