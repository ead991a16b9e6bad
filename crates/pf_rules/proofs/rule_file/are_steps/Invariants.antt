use Rattle.std.proofs.Common.{◌≡◌, drop, map}
use Rattle.pf_values.specs.Meaning.Terms.{all_true}
use Rattle.pf_rules.specs.Meaning.Files.{is_step}
use Rattle.pf_rules.proofs.rule_file.are_steps.Given as goal

abbrev pub invariant-loop-step : goal.invariant-loop-step
invariant-loop-step l = all_true (map (is_step l.allowed l.n) (drop l.step-index l.steps)) ≡ all_true (map (is_step l.allowed l.n) l.steps)
