use Rattle.std.proofs.Common.{arith}
use Rattle.pf_kernel.proofs.LineLaws.{end_fits}
use Rattle.pf_kernel.proofs.line.expression_place.Goals as goal

pub returns-clause-within : goal.returns-clause-within
returns-clause-within c = omega (arith, end_fits c.args._text.now c.args.tokens.now c.args.n c.requires, c.end_of.ensures)
