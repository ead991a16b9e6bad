use Rattle.std.proofs.Common.{◌≡◌, take}
use Rattle.pf_verdicts.specs.Meaning.FaultTexts.{var_names}
use Rattle.pf_verdicts.proofs.fault_text.var_names.Given as goal

abbrev pub invariant-loop-var : goal.invariant-loop-var
invariant-loop-var l = l.names ≡ var_names (take l.var-index l.vars)
