use Rattle.pf_kernel.specs.Steps.Readings.{begun_of}
use Rattle.pf_kernel.proofs.ReadLaws.{told_line}
use Rattle.pf_kernel.proofs.read.read_next.Goals as goal

pub returns-in-Err-clause-answers : goal.returns-in-Err-clause-answers
returns-in-Err-clause-answers c = told_line (begun_of c.args.reading) c.args.line.now c.args.n c.in-Err.fault c.at_line.result c.in-Err.ensures.answers c.at_line.ensures
