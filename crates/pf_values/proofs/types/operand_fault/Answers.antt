use Rattle.std.proofs.Common.{arith, false}
use Rattle.pf_ints.specs.declared.lane.Bits.TheVariants.{Eight}
use Rattle.pf_values.proofs.Typing.{choice_found}
use Rattle.pf_values.proofs.types.operand_fault.Goals as goal

pub returns-in-Choice-len4 : goal.returns-in-Choice-len4
returns-in-Choice-len4 c =
    choice_found c.args.operands c.args.types.now (record { signed = false; bits = Eight }) c.choice_fault.result
    c.in-Choice-len4.is-0 (omega arith) c.choice_fault.ensures
