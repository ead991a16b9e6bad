use Rattle.std.proofs.Common.{◌≡◌, subst, List}
use Rattle.std.specs.Prelude.{Option}
use Rattle.pf_check.specs.declared.checked.CheckedParts.{CheckedParts}
use Rattle.pf_check.specs.Steps.Pairs.{AllChecked}
use Rattle.pf_check.specs.Meaning.Faults.{Tells}
use Rattle.pf_check.proofs.AcceptLaws.{accepted_is, accepted_only, accepted_checked, fault_over, told_over}
use Rattle.pf_check.proofs.StepLaws.{told_none}
use Rattle.pf_check.proofs.judging.check_rule.Goals as goal

known : (earlier es : List (Option CheckedParts)) → es ≡ earlier → AllChecked es → AllChecked earlier
known earlier es e h = subst AllChecked e h

pub new-requires : goal.new-requires
new-requires c = accepted_checked c.args.rule c.args.kind c.args.earlier.now (known c.args.earlier.now c.as_slice.result.now c.as_slice.ensures c.are_checked.ensures) c.requires c.in-Ok.ensures

pub returns-in-Ok-clause-accepted : goal.returns-in-Ok-clause-accepted
returns-in-Ok-clause-accepted c = accepted_is c.args.rule c.args.kind c.args.earlier.now (known c.args.earlier.now c.as_slice.result.now c.as_slice.ensures c.are_checked.ensures) c.in-Ok.ensures

pub returns-in-Err-clause-only : goal.returns-in-Err-clause-only
returns-in-Err-clause-only c accepted =
    told_none c.in-Err.fault (subst (Tells c.in-Err.fault) (accepted_only c.args.rule c.args.kind c.args.earlier.now (known c.args.earlier.now c.as_slice.result.now c.as_slice.ensures c.are_checked.ensures) accepted) c.in-Err.ensures)

pub returns-in-Err-clause-over : goal.returns-in-Err-clause-over
returns-in-Err-clause-over c =
    told_over _ c.in-Err.fault _ c.in-Err.ensures (fault_over c.args.rule c.args.kind c.args.earlier.now (known c.args.earlier.now c.as_slice.result.now c.as_slice.ensures c.are_checked.ensures))
