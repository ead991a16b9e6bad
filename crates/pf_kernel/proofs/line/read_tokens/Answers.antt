use Rattle.std.proofs.Common.{inl}
use Rattle.pf_kernel.proofs.LineLaws.{front_told, front_shape}
use Rattle.pf_kernel.specs.Steps.Readings.{begun_of}
use Rattle.pf_kernel.proofs.FrontLaws.{shape_may}
use Rattle.pf_kernel.proofs.line.read_tokens.Goals as goal

pub read_front-requires-clause-may : goal.read_front-requires-clause-may
read_front-requires-clause-may c = shape_may (begun_of c.args.reading) c.args.text.now c.args.tokens.now c.in-Ok.front c.requires.lexed (front_shape (begun_of c.args.reading) c.args.tokens.now c.in-Ok.front c.in-Ok.ensures)

pub read_front-requires-clause-shape : goal.read_front-requires-clause-shape
read_front-requires-clause-shape c = front_shape _ c.args.tokens.now c.in-Ok.front c.in-Ok.ensures

pub returns-in-Err-clause-answers : goal.returns-in-Err-clause-answers
returns-in-Err-clause-answers c = inl (front_told _ c.args.text.now c.args.tokens.now c.in-Err.n c.column_of.result c.in-Err.ensures c.in_default.len_at_least c.column_of.ensures)
