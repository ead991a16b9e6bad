use Rattle.std.proofs.Common.{◌≡◌, take}
use Rattle.pf_rules.proofs.pattern.PatternDuplicate.+copy.Given as goal

abbrev pub invariant-loop-arg : goal.invariant-loop-arg
invariant-loop-arg l = l.copies ≡ take l.arg-index l.arg-items

abbrev pub invariant-loop-arg-2 : goal.invariant-loop-arg-2
invariant-loop-arg-2 l = l.copies ≡ take l.arg-index l.arg-items
