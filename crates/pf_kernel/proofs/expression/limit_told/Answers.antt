use Rattle.std.proofs.Common.{to_z-of_z}
use Rattle.pf_kernel.proofs.Judging.{limit_tells}
use Rattle.pf_kernel.proofs.expression.limit_told.Goals as goal

pub returns : goal.returns
returns c =
    let fault = c.requires.fault in
    let told = rw (to_z-of_z c.ranges.count) at c.limit_fault.ensures in
    limit_tells c.args.names.now c.args.by.nodes c.args.by.ty c.args.by.defs c.args.text.now c.in-Ok.tree fault.0 c.tree_type.result c.args.what c.args.count c.limit_fault.result fault.1 (c.in-Ok.ensures.only fault.0 fault.1) fault.2 c.tree_type.ensures told
