use Rattle.std.proofs.Common.{◌≡◌, take}
use Rattle.pf_values.proofs.term.TermDuplicate.+copy.Given as goal

abbrev pub invariant-loop-arg : goal.invariant-loop-arg
invariant-loop-arg l = l.copies ≡ take l.arg-index l.arg-items
