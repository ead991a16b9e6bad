use Rattle.std.proofs.Common.{arith, inl}
use Rattle.std.specs.Prelude.{Err}
use Rattle.pf_kernel.proofs.OneFault.{decided}
use Rattle.pf_kernel.proofs.ReadLaws.{too_long_told, finished, within_limit}
use Rattle.pf_kernel.proofs.read.read_kernel.Goals as goal

pub finish-requires-clause-few : goal.finish-requires-clause-few
finish-requires-clause-few c = omega (arith, c.in-Ok.ensures.few)

pub returns-then-text-gt-MOST_BYTES : goal.returns-then-text-gt-MOST_BYTES
returns-then-text-gt-MOST_BYTES c = decided c.args.text.now (Err c.too_long.result) (inl (too_long_told c.args.text.now c.too_long.result (omega arith) c.too_long.ensures))

pub returns-in-Ok : goal.returns-in-Ok
returns-in-Ok c =
    decided c.args.text.now c.finish.result
    (finished c.args.text.now c.in-Ok.reading c.in-Ok.count c.finish.result (within_limit _ (omega arith)) c.in-Ok.ensures.answers c.finish.ensures)

pub returns-in-Err : goal.returns-in-Err
returns-in-Err c = decided c.args.text.now (Err c.in-Err.fault) c.in-Err.ensures.answers
