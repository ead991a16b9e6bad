use Rattle.std.proofs.Common.{length}
use Rattle.std.specs.Prelude.{◌≤◌, take}
use Rattle.pf_isa.specs.declared.fault.TextFault.TheVariants.{Memory}
use Rattle.pf_isa.specs.Steps.HeadSteps.{IsHeadWay, IsHeadStop}
use Rattle.pf_machine.specs.Meaning.Heads.{IsHead}
use Rattle.pf_isa.specs.Meaning.Texts.{IsHeadText}
use Rattle.pf_isa.specs.Meaning.TextFaults.{texts}
use Rattle.pf_text.proofs.Answering.{on_read}
use Rattle.pf_isa.proofs.ReadingLaws.{length-texts, way_within, way_says, way_head, only_way, way_fault, way_told}
use Rattle.pf_isa.proofs.read_head.read_head.Goals as goal

pub returns-clause-within : goal.returns-clause-within
returns-clause-within c =
    let ls = texts c.args.lines.now in
    on_read Memory (IsHeadWay c.args.target ls) (λ r. r.1 ≤ length c.args.lines.now) (IsHeadStop c.args.target ls) c.way_of.result (way_within c.args.target ls (length c.args.lines.now) (length-texts c.args.lines.now)) c.way_of.ensures

pub returns-clause-says : goal.returns-clause-says
returns-clause-says c =
    let ls = texts c.args.lines.now in
    on_read Memory (IsHeadWay c.args.target ls) (λ r. IsHeadText c.args.target (take r.1 ls) r.0) (IsHeadStop c.args.target ls) c.way_of.result (way_says c.args.target ls) c.way_of.ensures

pub returns-clause-kept : goal.returns-clause-kept
returns-clause-kept c =
    let ls = texts c.args.lines.now in
    on_read Memory (IsHeadWay c.args.target ls) (λ r. IsHead r.0) (IsHeadStop c.args.target ls) c.way_of.result (way_head c.args.target ls) c.way_of.ensures

pub returns-clause-only : goal.returns-clause-only
returns-clause-only c = λ h front back all text head. only_way c.args.target (texts c.args.lines.now) h front back all text head c.way_of.result c.way_of.ensures

pub returns-clause-fault : goal.returns-clause-fault
returns-clause-fault c = way_fault c.args.target (texts c.args.lines.now) c.way_of.result c.way_of.ensures

pub returns-clause-told : goal.returns-clause-told
returns-clause-told c = λ at kind h. way_told c.args.target (texts c.args.lines.now) at kind c.way_of.result c.way_of.ensures h
