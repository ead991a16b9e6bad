use Rattle.std.proofs.Common.{◌≡◌, ◌++◌, drop}
use Rattle.std.specs.List.{flat_map}
use Rattle.pf_rulefile.specs.Meaning.RuleTexts.{step_text}
use Rattle.pf_rulefile.proofs.write.write_steps.Given as goal

abbrev pub invariant-loop-step : goal.invariant-loop-step
invariant-loop-step l = l.text.items ++ flat_map (step_text l.rules) (drop l.step-index l.steps) ≡ l.fn.text.items ++ flat_map (step_text l.rules) l.steps
