use Rattle.std.proofs.Common.{drop}
use Rattle.pf_isa.specs.Meaning.TextFaults.{texts}
use Rattle.pf_isa.proofs.CodeOnce.{code_only}
use Rattle.pf_isa.proofs.OneFault.{code_told}
use Rattle.pf_isa.proofs.read_code.read_code.Goals as goal

pub returns-clause-only : goal.returns-clause-only
returns-clause-only g c =
    code_only g.I.Isa.table g.I.Isa.is_op g.met.I.Isa.laws c.args.start (drop c.args.start (texts c.args.lines.now)) c.read_whole_code.result c.read_whole_code.ensures.says c.read_whole_code.ensures.fault

pub returns-clause-told : goal.returns-clause-told
returns-clause-told g c =
    code_told g.row.I.Denot g.row.I-Op.Denot g.I.Isa.table g.I.Isa.is_op g.met.I.Isa.laws c.args.start (drop c.args.start (texts c.args.lines.now)) c.read_whole_code.result c.read_whole_code.ensures.says c.read_whole_code.ensures.fault
