use Rattle.std.proofs.Common.{◌≡◌, ◌++◌, drop, map}
use Rattle.pf_rulefile.specs.Meaning.RuleTexts.{pattern_text, onward, lane_onward}
use Rattle.pf_rulefile.proofs.write_side.+write_pattern.Given as goal

abbrev pub invariant-loop-n : goal.invariant-loop-n
invariant-loop-n l = l.text.items ++ onward l.op l.k l.n (map (pattern_text l.vars) (drop l.n l.arg-items)) ≡ l.fn.text.items ++ pattern_text l.vars l.fn.pattern

abbrev pub invariant-loop-m : goal.invariant-loop-m
invariant-loop-m l = l.text.items ++ lane_onward l.op l.k l.m (map (pattern_text l.vars) (drop l.m l.operand-items)) ≡ l.fn.text.items ++ pattern_text l.vars l.fn.pattern
