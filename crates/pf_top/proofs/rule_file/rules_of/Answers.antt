use Rattle.pf_top.proofs.RuleFiles.{rules_judged, fault_judged}
use Rattle.pf_top.proofs.rule_file.rules_of.Goals as goal

pub returns-in-Ok : goal.returns-in-Ok
returns-in-Ok c = rules_judged c.args.target c.args.number c.args.text.now c.in-Ok.rules c.judge_kind.result c.in-Ok.ensures c.judge_kind.ensures

pub returns-in-Err : goal.returns-in-Err
returns-in-Err c = fault_judged c.args.target c.args.number c.args.text.now c.in-Err.fault c.refusal.result c.refusal.ensures c.in-Err.ensures
