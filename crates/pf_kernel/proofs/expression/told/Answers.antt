use Rattle.pf_kernel.proofs.Judging.{others_tell}
use Rattle.pf_kernel.proofs.expression.told.Goals as goal

pub returns-in_default : goal.returns-in_default
returns-in_default c =
    record { found = others_tell c.args.names.now c.args.by.nodes c.args.by.ty c.args.by.defs c.args.text.now c.args.fault c.in_default.not-Limit c.requires.fault; memory = λ e. e }
