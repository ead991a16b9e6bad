use Rattle.std.proofs.Common.{◌≡◌, ◌++◌, drop}
use Rattle.std.specs.List.{flat_map}
use Rattle.pf_rulefile.specs.Meaning.RuleTexts.{var_text}
use Rattle.pf_rulefile.proofs.write.write_vars.Given as goal

abbrev pub invariant-loop-var : goal.invariant-loop-var
invariant-loop-var l = l.text.items ++ flat_map var_text (drop l.var-index l.vars) ≡ l.fn.text.items ++ flat_map var_text l.vars
