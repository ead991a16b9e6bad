use Rattle.std.proofs.Common.{inl}
use Rattle.pf_run.proofs.AnyLaws.{named_none}
use Rattle.pf_run.proofs.any.read_any.Goals as goal

pub returns-in-None-clause-found : goal.returns-in-None-clause-found
returns-in-None-clause-found c = inl (named_none c.args.text.now c.in-None.ensures)
