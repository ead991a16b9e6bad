use Rattle.std.proofs.Common.{◌+◌, subst}
use Rattle.pf_outside.specs.Meaning.Formats.{Means, IsRefused}
use Rattle.pf_outside.proofs.StoreCalls.{judged_found}
use Rattle.pf_top.specs.Meaning.Files.{rule_file, rule_limit}
use Rattle.pf_top.specs.Steps.RunSteps.{JudgesAs}
use Rattle.pf_top.proofs.rules.read_rules.Goals as goal

pub returns : goal.returns
returns g c =
    judged_found (Means (rule_file c.args.text.now)) (IsRefused (rule_file c.args.text.now)) c.args.number c.args.name.now (rule_limit + 1) c.most_judged.result _ _ c.in_ok-bytes.bytes.items c.compare.result
    c.most_judged.ensures c.in_ok-bytes.ensures.went (subst (λ bytes. JudgesAs (rule_file c.args.text.now) c.args.number c.compare.result bytes) c.as_slice.ensures.value c.compare.ensures)
