use Rattle.std.proofs.Common.{◌≡◌, ◌++◌, drop}
use Rattle.std.specs.List.{flat_map}
use Rattle.pf_rulefile.specs.Meaning.RuleTexts.{child_text}
use Rattle.pf_rulefile.proofs.write.write_children.Given as goal

abbrev pub invariant-loop-n : goal.invariant-loop-n
invariant-loop-n l = l.text.items ++ flat_map child_text (drop l.n-index l.path) ≡ l.fn.text.items ++ flat_map child_text l.path
