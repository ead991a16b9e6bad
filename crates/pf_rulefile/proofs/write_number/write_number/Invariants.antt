use Rattle.std.proofs.Common.{◌≡◌, ◌++◌, drop, true}
use Rattle.pf_rulefile.specs.Meaning.RuleTexts.{parts_text}
use Rattle.pf_rulefile.proofs.write_number.write_number.Given as goal

abbrev pub invariant-loop-part : goal.invariant-loop-part
invariant-loop-part l = l.text.items ++ parts_text l.first (drop l.part-index l.number.parts) ≡ l.fn.text.items ++ parts_text true l.number.parts
