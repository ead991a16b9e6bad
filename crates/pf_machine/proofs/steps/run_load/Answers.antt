use Rattle.std.proofs.Common.{rules}
use Rattle.pf_machine.specs.Meaning.Bytes.{AreBytes}
use Rattle.pf_machine.specs.Meaning.Tables.{IsFile}
use Rattle.pf_machine.proofs.FileLaws.{file_with}
use Rattle.pf_machine.proofs.steps.run_load.Goals as goal

pub returns-in-Some-clause-state : goal.returns-in-Some-clause-state
returns-in-Some-clause-state g c =
    let t = g.I.Isa.table in
    let are : AreBytes t.vector c.in-Some.held.now = record { size = search rules; small = c.overwrite_vector.ensures.bytes } in
    let kept : IsFile t t.vectors c.overwrite_vector.new.file = rw c.overwrite_vector.ensures.written (file_with t t.vectors c.args.core.now.file c.requires.state.file c.args.access.vector c.in-Some.held.now are) in
    record { general = c.requires.state.general; file = kept }
